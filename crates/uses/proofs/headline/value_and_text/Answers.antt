use Rattle.uses.proofs.HeadlineLemmas.{says_headline}
use Rattle.uses.proofs.headline.value_and_text.Goals as goal

pub returns : goal.returns
returns g c = says_headline c.one_meaning.ensures.values _ _ _ c.meaning.ensures
