use Rattle.config_path.specs.Interpolation.{known_in}
use Rattle.config_path.specs.Laws.Interpolation.{some_form, one_form, one_row, one_returned, never_memory}
use Rattle.config_path.proofs.laws.paths.one_result.Goals as goal

pub returns-clause-form : goal.returns-clause-form
returns-clause-form g c = λ value.
    let some = some_form value in (some.0, some.1, λ f h. one_form value f some.0 h some.1)

pub returns-clause-table : goal.returns-clause-table
returns-clause-table g c = λ context form r s one p q. one_row (known_in g.F.FnOnce context) one form r s p q

pub returns-clause-memory : goal.returns-clause-memory
returns-clause-memory g c = λ context value e. never_memory (known_in g.F.FnOnce context) value e

pub returns-clause-result : goal.returns-clause-result
returns-clause-result g c = λ context value r s one p q. one_returned (known_in g.F.FnOnce context) one value
    r s p q
