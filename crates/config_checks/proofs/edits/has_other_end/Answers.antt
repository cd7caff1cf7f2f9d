use Rattle.config_checks.proofs.NearestLemmas.{other_end}
use Rattle.config_checks.proofs.edits.has_other_end.Goals as goal

pub returns : goal.returns
returns c =
    let other = other_end c.args.a.now c.args.b.now c.args.x.now c.args.y.now c.requires in
    (λ yes. other.1 (c.are_ends.ensures.0 yes), λ has. c.are_ends.ensures.1 (other.0 has))
