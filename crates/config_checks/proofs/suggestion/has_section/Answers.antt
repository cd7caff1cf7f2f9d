use Rattle.std.proofs.Common.{arith, rules, sym, refl, ◌∙◌}
use Rattle.std.proofs.lemmas.List.{take_all}
use Rattle.config_text.specs.SameWord.{SameWord}
use Rattle.config_file.specs.KeyView.{key_of}
use Rattle.config_checks.proofs.RunLemmas.{all_more, has_run}
use Rattle.config_checks.proofs.suggestion.has_section.Goals as goal

pub loop-run-init : goal.loop-run-init
loop-run-init c = λ k d inside. absurd (omega (arith, inside))

pub loop-run-preserved : goal.loop-run-preserved
loop-run-preserved c =
    let other : ¬ (SameWord c.run-item.result.section.now c.args.section.now) = search rules in
    all_more (λ row. ¬ (SameWord (key_of row.key).section c.args.section.now)) c.args.runs.now c.loop-run.run-index c.run-item.result c.loop-run-test.true
    (sym c.run-item.is) c.loop-run.invariant (λ k d inside same.
    other (sym (c.run-item.result.of_section k d inside) ∙ same))

pub returns-then-is_same_word : goal.returns-then-is_same_word
returns-then-is_same_word c =
    let same : SameWord c.run-item.result.section.now c.args.section.now = search rules in
    (λ yes. has_run c.args.section.now c.args.runs.now c.loop-run.run-index c.run-item.result c.loop-run-test.true (sym c.run-item.is) same, λ has. refl)

pub returns : goal.returns
returns c =
    let all = take_all c.loop-run.run-index c.args.runs.now (omega (arith, c.loop-run-test.false)) in
    let none = rw all at c.loop-run.invariant in (
      λ yes. absurd (search rules),
      λ (place, row, inside, stands, same).
          absurd (none place row inside (rw stands same)),
    )
