use Rattle.std.proofs.Common.{◌≡◌, ◌==◌, true, drop, map}
use Rattle.std.specs.List.{list_all, list_any}
use Rattle.config_word.specs.Laws.Attribute.{is_shown}
use Rattle.config_word.specs.Reading.Attribute.{shown_row, shown_rows}
use Rattle.config_word.proofs.attribute.Attribute.word.Given as goal

-- the value of each row that is left is shown as its word, and these rows decide whether the set is a constant
abbrev pub invariant-loop-shown : goal.invariant-loop-shown
invariant-loop-shown l =
    (list_all is_shown (map shown_row (drop l.shown-index l.shown-items)) ≡ true)
    × (list_any (λ row. row.0 == l.self.0) shown_rows
    ≡ list_any (λ row. row.0 == l.self.0) (map shown_row (drop l.shown-index l.shown-items)))
