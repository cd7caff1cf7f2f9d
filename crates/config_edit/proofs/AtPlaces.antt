-- Places that rise, of which those that are passed no longer count.
use Rattle.std.proofs.Common.{ℕ, ◌+◌, List, Option, arith}
use Rattle.config_edit.specs.Reading.{AreLeft}

pub all_left : (places : Option (List ℕ)) (from : ℕ) → AreLeft places places from
all_left places from = λ place within. (λ is. is, λ is. is)

pub left_after : (places left later : Option (List ℕ)) (from : ℕ) → AreLeft places left from
    → AreLeft left later from
    → AreLeft places later (from + 1)
left_after places left later from first second = λ place within.
    let (there, back) = first place (omega arith) in
    let (on, before) = second place (omega arith) in (λ is. on (there is), λ is. back (before is))
