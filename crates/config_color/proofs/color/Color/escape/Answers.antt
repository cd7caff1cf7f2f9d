use Rattle.std.proofs.Common.{◌+◌, length, ap, arith, codes, length-append}
use Rattle.config_color.specs.declared.escape.TheConstants.{LONGEST_PART}
use Rattle.config_color.specs.Escape.{attribute_codes}
use Rattle.config_color.specs.Reading.Escape.{size}
use Rattle.config_color.proofs.EscapeLemmas.{opened_short, size_all}
use Rattle.config_color.proofs.color.Color.escape.Goals as goal

pub push_part-requires-clause-room : goal.push_part-requires-clause-room
push_part-requires-clause-room c =
    let short = opened_short c.args.self.now.attributes.0 attribute_codes in
    omega (arith, short, size_all, ap length c.push_set.ensures)

pub push_part-requires-2-clause-room : goal.push_part-requires-2-clause-room
push_part-requires-2-clause-room c =
    let short = opened_short c.args.self.now.attributes.0 attribute_codes in
    let front = c.push_part.ensures.short (1 + size attribute_codes) (omega arith)
    (omega (arith, short, ap length c.push_set.ensures)) in
    omega (arith, front, size_all)

pub push_str-requires : goal.push_str-requires
push_str-requires c =
    let short = opened_short c.args.self.now.attributes.0 attribute_codes in
    let front = c.push_part.ensures.short (1 + size attribute_codes) (omega arith)
    (omega (arith, short, ap length c.push_set.ensures)) in
    let back = c.push_part-2.ensures.short (1 + size attribute_codes + LONGEST_PART) (omega arith) (omega (arith, front)) in
    (omega arith, omega (arith, back, size_all))

pub returns-clause-short : goal.returns-clause-short
returns-clause-short c =
    let short = opened_short c.args.self.now.attributes.0 attribute_codes in
    let front = c.push_part.ensures.short (1 + size attribute_codes) (omega arith)
    (omega (arith, short, ap length c.push_set.ensures)) in
    let back = c.push_part-2.ensures.short (1 + size attribute_codes + LONGEST_PART) (omega arith) (omega (arith, front)) in
    omega (arith, back, size_all, ap length c.push_str.ensures.bytes, length-append c.push_part-2.new.text.bytes (codes "m"))
