use Rattle.std.proofs.Common.{ℕ, List, map, subst}
use Rattle.config_search.specs.Handing.{IsOpenedOf, given_of}
use Rattle.config_search.proofs.Handings.{given_opened}
use Rattle.config_search.proofs.state.move_given.Goals as goal

pub returns-in-Ok-clause-keeps : goal.returns-in-Ok-clause-keeps
returns-in-Ok-clause-keeps c = λ system folder asked read agrees fits knows goes (none, (from, these)).
    rw c.to.ensures.same (
      none,
      given_opened system asked c.args.answer.now (map given_of c.args.texts.items) from c.in-Ok.opening these
          (subst (λ (start : List ℕ). IsOpenedOf system start (map given_of c.args.texts.items) c.in-Ok.opening)
          (c.start_of.ensures asked fits) (rw c.deref.ensures.value at (c.in-Ok.ensures system agrees))),
    )
