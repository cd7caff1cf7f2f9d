use Rattle.std.proofs.Common.{◌∙◌, sym, ap, ◌++◌, List, ℕ}
use Rattle.config_search.proofs.Names.{goes_on, begins_not}
use Rattle.config_search.proofs.name.after.Goals as goal

pub returns-in-Some : goal.returns-in-Some
returns-in-Some c = goes_on c.args.front.now c.args.text.now c.in-Some.ensures.cases.0
    ∙ ap (λ (t : List ℕ). c.args.front.now ++ t) (sym c.in-Some.ensures.cases.1)

pub returns-in-None : goal.returns-in-None
returns-in-None c = λ rest is. begins_not c.args.front.now c.args.text.now rest c.in-None.ensures.cases is
