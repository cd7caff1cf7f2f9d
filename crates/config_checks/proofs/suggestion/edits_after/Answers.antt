use Rattle.std.proofs.Common.{◌≡◌, codes, refl, rules}
use Rattle.std.proofs.lemmas.Bool.{false≢true}
use Rattle.config_file.specs.KeyView.{key_of}
use Rattle.config_checks.proofs.SuggestionLemmas.{of_name, of_subsection, of_unlike}
use Rattle.config_checks.proofs.suggestion.edits_after.Goals as goal

pub returns-then-are_unlike : goal.returns-then-are_unlike
returns-then-are_unlike c =
    let row = key_of c.args.row.now in
    let key = key_of c.args.key.now in
    let named : ¬ (row.name ≡ codes "*") = search rules in
    of_unlike row key named
    (rw (c.name-then-ne.ensures, c.name-then-ne-2.ensures) at (c.are_unlike.ensures c.if-are_unlike.true))

pub returns-in-true-false : goal.returns-in-true-false
returns-in-true-false c =
    of_name (key_of c.args.row.now) (key_of c.args.key.now) (c.in-true-false.ensures.0 refl)
    (λ covers. false≢true (c.in-true-false.ensures'.1 covers)) _ c.name_edits.ensures

pub returns-in-false-true : goal.returns-in-false-true
returns-in-false-true c =
    of_subsection (key_of c.args.row.now) (key_of c.args.key.now)
    (λ covers. false≢true (c.in-false-true.ensures.1 covers))
    (c.in-false-true.ensures'.0 refl) _ c.subsection_edits.ensures
