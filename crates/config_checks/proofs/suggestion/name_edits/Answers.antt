use Rattle.std.proofs.Common.{◌≡◌, None, refl, rules}
use Rattle.std.proofs.lemmas.Bool.{false≢true}
use Rattle.config_file.specs.KeyView.{key_of}
use Rattle.config_checks.specs.Nearest.{FewEdits}
use Rattle.config_checks.specs.Reading.Steps.{IsFew}
use Rattle.config_checks.specs.Suggestions.{AreAlike, IsOtherWord}
use Rattle.config_checks.proofs.SuggestionLemmas.{alike_near, none_near}
use Rattle.config_checks.proofs.suggestion.name_edits.Goals as goal

pub returns-then-are_alike_alone : goal.returns-then-are_alike_alone
returns-then-are_alike_alone c =
    let row = key_of c.args.row.now in
    let key = key_of c.args.key.now in
    let far : IsFew (FewEdits 5 row.name key.name) None =
    rw c.name-4.ensures at (rw c.name-3.ensures at (rw c.in_default.is at c.in_ok-edits.ensures)) in
    let not : ¬ (IsOtherWord row.name key.name) = search rules in
    alike_near 5 ((key.subsection ≡ None) × AreAlike row.name key.name) row.name key.name not far
    (c.if-are_alike_alone.ensures.0 refl)

pub returns-else-are_alike_alone : goal.returns-else-are_alike_alone
returns-else-are_alike_alone c =
    let row = key_of c.args.row.now in
    let key = key_of c.args.key.now in
    let far : IsFew (FewEdits 5 row.name key.name) None =
    rw c.name-4.ensures at (rw c.name-3.ensures at (rw c.in_default.is at c.in_ok-edits.ensures)) in
    let not : ¬ (IsOtherWord row.name key.name) = search rules in
    none_near 5 ((key.subsection ≡ None) × AreAlike row.name key.name) row.name key.name not far
    (λ is. false≢true (c.if-are_alike_alone.ensures.1 is))
