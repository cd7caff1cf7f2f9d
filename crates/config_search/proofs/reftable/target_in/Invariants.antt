use Rattle.std.proofs.Common.{◌≡◌, false}
use Rattle.config_search.specs.Questions.{IsIn}
use Rattle.config_search.proofs.reftable.target_in.Given as goal

abbrev pub invariant-loop-table : goal.invariant-loop-table
invariant-loop-table l = l.table-iterator.parts.done ≡ false
    → IsIn l.initial.table-iterator.parts.rest.now l.table-iterator.parts.rest.now
