use Rattle.std.proofs.Common.{◌≡◌, ◌==◌, drop, map}
use Rattle.std.specs.List.{list_any}
use Rattle.config_word.specs.Reading.Attribute.{shown_row, shown_rows}
use Rattle.config_word.proofs.attribute.Attribute.is_constant.Given as goal

-- the rows that are left decide whether the set is a constant
abbrev pub invariant-loop-shown : goal.invariant-loop-shown
invariant-loop-shown l =
    list_any (λ row. row.0 == l.self.0) shown_rows
    ≡ list_any (λ row. row.0 == l.self.0) (map shown_row (drop l.shown-index l.shown-items))
