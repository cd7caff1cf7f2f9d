use Rattle.std.proofs.Common.{◌+◌, ◌-◌, ◌<◌, ◌≤◌, arith}
use Rattle.std.proofs.lemmas.Bool.Decides.{nat_tests}
use Rattle.config_color.proofs.EscapeLemmas.{continues_within, of_two, of_three, one_more, room_after}
use Rattle.config_color.proofs.EscapeLemmas.{two_codes, palette_basic, palette_bright, palette_other}
use Rattle.config_color.proofs.escape.push_palette.Goals as goal

pub push_number-requires-3 : goal.push_number-requires-3
push_number-requires-3 c =
    let one = of_two (c.args.black + 8) (omega (arith, c.requires.black)) c.push_number-2.ensures in
    room_after one (omega arith) c.requires.room

pub push_number-requires-4 : goal.push_number-requires-4
push_number-requires-4 c =
    let two = two_codes _ 5 c.requires.black (omega arith) c.push_number-2.ensures c.push_number-3.ensures in
    room_after two (omega arith) c.requires.room

pub returns-then-number-lt8 : goal.returns-then-number-lt8
returns-then-number-lt8 c =
    let small : c.args.number < 8 = grind (arith, nat_tests) in
    let one = of_two (c.args.black + c.args.number) (omega (arith, c.requires.black)) c.push_number.ensures in
    rw (palette_basic c.args.black c.args.number small) (continues_within _ 3 17 _ _ one (omega arith))

pub returns-then-number-lt16 : goal.returns-then-number-lt16
returns-then-number-lt16 c =
    let least : 8 ≤ c.args.number = grind (arith, nat_tests) in
    let small : c.args.number < 16 = grind (arith, nat_tests) in
    let one = of_three (c.args.black + 60 + (c.args.number - 8)) (omega (arith, c.requires.black))
    c.push_number-then-number-lt16.ensures in
    rw (palette_bright c.args.black c.args.number least small) (continues_within _ 4 17 _ _ one (omega arith))

pub returns : goal.returns
returns c =
    let least : 16 ≤ c.args.number = grind (arith, nat_tests) in
    let two = two_codes _ 5 c.requires.black (omega arith) c.push_number-2.ensures c.push_number-3.ensures in
    let all = one_more 5 c.args.number (omega arith) two c.push_number-4.ensures in
    rw (palette_other c.args.black c.args.number least) (continues_within _ 9 17 _ _ all (omega arith))
