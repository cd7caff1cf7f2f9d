use Rattle.std.proofs.Common.{◌≡◌, drop, map}
use Rattle.config_word.specs.Reading.Attribute.{opposite_row, opposite_rows, opposites_from}
use Rattle.config_word.proofs.attribute.Attribute.opposites.Given as goal

-- the rows that are left lead to all opposites
abbrev pub invariant-loop-shown : goal.invariant-loop-shown
invariant-loop-shown l =
    opposites_from l.self.0 l.opposites.0 (map opposite_row (drop l.shown-index l.shown-items))
    ≡ opposites_from l.self.0 0 opposite_rows
