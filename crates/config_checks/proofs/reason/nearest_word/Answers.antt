use Rattle.std.proofs.Common.{◌++◌, ◌∷◌, sym, subst, arith, get_or, Bor, List, ℕ, [], Option, take}
use Rattle.std.proofs.lemmas.List.{get_or_default, take_all}
use Rattle.config_checks.specs.Reading.Steps.{IsFew}
use Rattle.config_checks.specs.Reasons.{WordEdits, IsMeant}
use Rattle.config_checks.proofs.NearestLemmas.{IsBest, take_more, passes, far_one, keeps, betters, whole}
use Rattle.config_checks.proofs.WordLemmas.{one_number, meant_of}
use Rattle.config_checks.proofs.reason.nearest_word.Goals.{in-Some+then-edits-least, in-Some+else-edits-least}
use Rattle.config_checks.proofs.reason.nearest_word.Goals.{in_default}
use Rattle.config_checks.proofs.reason.nearest_word.Goals as goal

pub loop-word-preserved : goal.loop-word-preserved
loop-word-preserved c =
    let words = c.args.words.now in
    let t = c.args.text.now in
    let none : Bor (List ℕ) = record { ref_ptr = (0, 0); now = [] } in
    let i = c.loop-word.word-index in
    let word = get_or words i none in
    let seen = take i words in
    let one = one_number t in
    let so_far = c.loop-word.invariant in
    let next = λ (best : Option (Bor (Bor (List ℕ)))) (least : ℕ) (is : IsBest (WordEdits t) (seen ++ word ∷ []) best least).
    subst (λ seen. IsBest (WordEdits t) seen best least)
    (sym (take_more words i word c.loop-word-test.true
    (get_or_default words i word none c.loop-word-test.true))) is in
    elim c.match-branch-2.branch [
      | in-Some+then-edits-least w ↦
          let edits = subst (IsFew (WordEdits t word)) w.in-Some.is c.in_ok-edits.ensures in
          rw w.best-is (rw w.least-is (next _ _
          (betters (WordEdits t) one seen c.loop-word.least w.in-Some.edits c.loop-word.best _ so_far edits.0 w.if-edits-least.true)))
      | in-Some+else-edits-least w ↦
          let edits = subst (IsFew (WordEdits t word)) w.in-Some.is c.in_ok-edits.ensures in
          rw w.best-is (rw w.least-is (next _ _
          (keeps (WordEdits t) one seen c.loop-word.least w.in-Some.edits c.loop-word.best word so_far edits.0 w.if-edits-least.false)))
      | in_default w ↦
          rw w.best-is (rw w.least-is (next _ _
          (passes (WordEdits t) seen (word ∷ []) c.loop-word.least c.loop-word.best so_far
          (far_one (WordEdits t) word (subst (IsFew (WordEdits t word)) w.in_default.is c.in_ok-edits.ensures)))))
    ]

pub returns : goal.returns
returns c = subst (IsMeant c.args.words.now c.args.text.now) (sym c.copied.ensures)
    (meant_of c.args.words.now c.args.text.now c.loop-word.best
    (whole (WordEdits c.args.text.now) c.args.words.now c.loop-word.least c.loop-word.best
    (subst (λ seen. IsBest (WordEdits c.args.text.now) seen c.loop-word.best c.loop-word.least)
    (take_all c.loop-word.word-index c.args.words.now
    (omega (arith, c.loop-word-test.false))) c.loop-word.invariant)))
