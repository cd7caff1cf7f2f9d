use Rattle.config_search.proofs.Handings.{begins_opened}
use Rattle.config_search.proofs.state.move_begins.Goals as goal

pub returns-in-Ok-clause-keeps : goal.returns-in-Ok-clause-keeps
returns-in-Ok-clause-keeps c = λ system folder asked read agrees fits knows goes (none, here). rw c.to.ensures.same (
  none,
  begins_opened system asked c.args.answer.now c.in-Some.answer c.in-Ok.opening c.in-Some.is here
      (rw (c.deref.ensures.value, c.deref-2.ensures.value) at (c.in-Ok.ensures system agrees)),
)
