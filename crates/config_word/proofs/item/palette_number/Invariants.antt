use Rattle.std.proofs.Common.{◌≡◌, drop}
use Rattle.config_word.specs.Reading.Item.{decimal_from, palette_of}
use Rattle.config_word.proofs.item.palette_number.Given as goal

-- the number so far and the digits that are left decide the result
abbrev pub invariant-loop-digit : goal.invariant-loop-digit
invariant-loop-digit l = palette_of l.digits ≡ decimal_from (drop l.digit-index l.digits) l.number
