use Rattle.std.proofs.Common.{length, arith, ap, length-append}
use Rattle.config_word.specs.Laws.Name.{name_short}
use Rattle.config_color.proofs.color.Color.show_names.Goals as goal

pub returns-in-Some-Some-clause-room : goal.returns-in-Some-Some-clause-room
returns-in-Some-Some-clause-room c =
    let first = name_short c.in-Some-Some.first c.numbers_fit.ensures in
    let second = name_short c.in-Some-Some.second c.numbers_fit-in-Some-Some.ensures in
    omega (
      arith,
      ap length c.requires,
      simp length-append at (ap length c.push_to.ensures),
      c.push_str.ensures.len,
      simp length-append at (ap length c.push_to-in-Some-Some.ensures),
      first,
      second,
    )
