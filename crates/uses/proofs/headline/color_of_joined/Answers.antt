use Rattle.uses.proofs.HeadlineLemmas.{says_joined}
use Rattle.uses.proofs.headline.color_of_joined.Goals as goal

pub returns : goal.returns
returns c front space back s e =
    says_joined front back _ _ _ e c.read.ensures (λ d. c.joined.ensures.read front space back d s)
    (c.joined.ensures.refused front space back s)
