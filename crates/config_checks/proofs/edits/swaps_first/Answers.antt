use Rattle.std.proofs.Common.{sym, ◌∙◌, rules, ◌≤◌, length}
use Rattle.std.proofs.lemmas.Bool.{eqb-true}
use Rattle.config_checks.proofs.NearestLemmas.{pair_told}
use Rattle.config_checks.proofs.edits.swaps_first.Goals.{then-a-d, else-a-d}
use Rattle.config_checks.proofs.edits.swaps_first.Goals as goal

pub returns-then-b-c : goal.returns-then-b-c
returns-then-b-c c =
    let some : 2 ≤ length c.args.from.now = search rules in
    let also : 2 ≤ length c.args.to.now = search rules in
    elim c.if-a-d.branch [
      | then-a-d w ↦ pair_told c.args.from.now c.args.to.now c.eq.result c.requires some also w.if-a-d.true
          (eqb-true _ _ (sym w.value-is ∙ c.if-b-c.true)) c.eq.ensures
      | else-a-d w ↦ absurd (w.if-a-d.false (eqb-true _ _ (sym w.value-is ∙ c.if-b-c.true)))
    ]
