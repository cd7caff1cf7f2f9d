use Rattle.std.proofs.Common.{◌==◌, ◌∙◌, sym, ap}
use Rattle.config_file.specs.Set.{single, range}
use Rattle.config_file.proofs.Sets.{of_no_byte, is_first, is_no_first}
use Rattle.config_file.proofs.set.byte_or_range.Goals as goal
use Rattle.config_file.proofs.set.byte_or_range.Goals.{then-is_first, else-is_first}

pub returns-in_err-first : goal.returns-in_err-first
returns-in_err-first c = rw c.from_residual.ensures (of_no_byte c.requires c.in_err-first.ensures)

pub returns-after-is_first : goal.returns-after-is_first
returns-after-is_first c =
    range c.in_ok-first.first c.in-Some.last c.in_ok-first.after.now c.requires c.in_ok-first.ensures c.in-Some.ensures
    (elim c.if-is_first.branch [
      | then-is_first w ↦ w.result-is ∙ is_first _ _ _ _ w.if-is_first.true c.folded.ensures
      | else-is_first w ↦
          w.result-is ∙ w.range_has.ensures ∙ is_no_first _ _ _ (λ e. w.if-is_first.false (e ∙ sym c.folded.ensures))
    ])

pub returns-in-None : goal.returns-in-None
returns-in-None c =
    single c.in_ok-first.first c.requires c.in_ok-first.ensures c.in-None.ensures (ap (λ x. c.in_ok-first.first == x) c.folded.ensures)
