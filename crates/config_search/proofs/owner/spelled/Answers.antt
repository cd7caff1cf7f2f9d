use Rattle.std.proofs.Common.{inr}
use Rattle.config_search.proofs.Covers.{option_then}
use Rattle.config_search.proofs.Spelled.{spells_unknown}
use Rattle.config_search.proofs.owner.spelled.Goals as goal

pub returns-in_ok-of_user-in-None : goal.returns-in_ok-of_user-in-None
returns-in_ok-of_user-in-None c = λ system agrees. option_then c.in_ok-of_user-in-None.field-0
    (spells_unknown system c.args.value.now (rw (c.in_ok-answer_to.ensures system agrees) at c.in-None.ensures))
    (λ path is. inr is) (c.in_ok-of_user-in-None.ensures system agrees)
