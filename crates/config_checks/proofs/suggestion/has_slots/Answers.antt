use Rattle.std.proofs.Common.{arith, rules, sym, refl, ◌∙◌}
use Rattle.std.proofs.lemmas.List.{take_all}
use Rattle.std.proofs.lemmas.Bool.{false≢true}
use Rattle.config_checks.proofs.RunLemmas.{IsSlot, all_more, slots_in, no_slots, no_colors}
use Rattle.config_checks.proofs.suggestion.has_slots.Goals.{else-is_same_word-via-then-is_same_word+else-is_some}
use Rattle.config_checks.proofs.suggestion.has_slots.Goals.{else-is_same_word-via-else-is_same_word}
use Rattle.config_checks.proofs.suggestion.has_slots.Goals as goal

pub loop-run-init : goal.loop-run-init
loop-run-init c = λ k d inside. absurd (omega (arith, inside))

pub returns-then-is_some : goal.returns-then-is_some
returns-then-is_some c = (
  λ yes. slots_in c.args.subsection.now c.args.runs.now c.loop-run.run-index c.run-item.result c.loop-run-test.true (sym c.run-item.is)
      (c.is_same_word.ensures.0 c.if-is_same_word.true) c.first_within.result (sym c.is_some.ensures
      ∙ c.if-is_some.true) c.first_within.ensures,
  λ has. refl,
)

pub loop-run-preserved : goal.loop-run-preserved
loop-run-preserved c =
    let t = c.args.subsection.now in
    let run = c.run-item.result in
    all_more (λ row. ¬ (IsSlot t row)) c.args.runs.now c.loop-run.run-index run c.loop-run-test.true
    (sym c.run-item.is)
    c.loop-run.invariant (elim c.else-is_same_word.branch [
      | else-is_same_word-via-then-is_same_word+else-is_some w ↦
          no_slots t run w.first_within.result (sym w.is_some.ensures ∙ w.if-is_some.false) w.first_within.ensures
      | else-is_same_word-via-else-is_same_word w ↦
          no_colors t run (λ same. false≢true (sym w.if-is_same_word.false ∙ c.is_same_word.ensures.1 same))
    ])

pub returns : goal.returns
returns c =
    let all = take_all c.loop-run.run-index c.args.runs.now (omega (arith, c.loop-run-test.false)) in
    let none = rw all at c.loop-run.invariant in (
      λ yes. absurd (search rules),
      λ (place, row, inside, stands, is).
          absurd (none place row inside (rw stands is)),
    )
