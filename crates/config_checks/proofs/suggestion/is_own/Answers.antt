use Rattle.std.proofs.Common.{sym}
use Rattle.config_file.specs.KeyView.{key_of}
use Rattle.config_checks.specs.Rows.{rows_of}
use Rattle.config_checks.proofs.SuggestionLemmas.{own_slot}
use Rattle.config_checks.proofs.suggestion.is_own.Goals as goal

pub returns-then-is_same_word : goal.returns-then-is_same_word
returns-then-is_same_word c =
    let same = rw c.section.ensures at c.is_same_word.ensures in
    own_slot (rows_of c.args.runs.now) (key_of c.args.key.now) c.in-Some.subsection.now c.has_slots.result
    (sym c.in-Some.ensures) (same.0 c.if-is_same_word.true) c.has_slots.ensures
