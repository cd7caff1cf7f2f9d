use Rattle.config_search.proofs.Covers.{covers_below}
use Rattle.config_search.proofs.owner.covers.Goals as goal

pub returns-in-Some : goal.returns-in-Some
returns-in-Some c = λ system agrees. covers_below system c.args.path.now c.in-Some.above.now c.args.folder.now
    c.in_ok-is_above.field-0 c.in-Some.ensures (c.in_ok-is_above.ensures system agrees)
