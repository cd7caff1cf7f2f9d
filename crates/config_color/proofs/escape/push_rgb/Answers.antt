use Rattle.std.proofs.Common.{◌+◌, arith}
use Rattle.config_color.proofs.EscapeLemmas.{of_two, one_more, room_after, two_codes}
use Rattle.config_color.proofs.escape.push_rgb.Goals as goal

pub push_number-requires-2 : goal.push_number-requires-2
push_number-requires-2 c =
    let one = of_two (c.args.black + 8) (omega (arith, c.requires.black)) c.push_number.ensures in
    room_after one (omega arith) c.requires.room

pub push_number-requires-3 : goal.push_number-requires-3
push_number-requires-3 c =
    let two = two_codes _ 2 c.requires.black (omega arith) c.push_number.ensures c.push_number-2.ensures in
    room_after two (omega arith) c.requires.room

pub push_number-requires-4 : goal.push_number-requires-4
push_number-requires-4 c =
    let two = two_codes _ 2 c.requires.black (omega arith) c.push_number.ensures c.push_number-2.ensures in
    let three = one_more 5 c.args.red (omega arith) two c.push_number-3.ensures in
    room_after three (omega arith) c.requires.room

pub push_number-requires-5 : goal.push_number-requires-5
push_number-requires-5 c =
    let two = two_codes _ 2 c.requires.black (omega arith) c.push_number.ensures c.push_number-2.ensures in
    let three = one_more 5 c.args.red (omega arith) two c.push_number-3.ensures in
    let four = one_more 9 c.args.green (omega arith) three c.push_number-4.ensures in
    room_after four (omega arith) c.requires.room

pub returns : goal.returns
returns c =
    let two = two_codes _ 2 c.requires.black (omega arith) c.push_number.ensures c.push_number-2.ensures in
    let three = one_more 5 c.args.red (omega arith) two c.push_number-3.ensures in
    let four = one_more 9 c.args.green (omega arith) three c.push_number-4.ensures in
    one_more 13 c.args.blue (omega arith) four c.push_number-5.ensures
