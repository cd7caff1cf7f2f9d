-- What the search for the nearest number keeps.
use Rattle.std.specs.Prelude.{ℕ, ◌<◌, ◌≤◌}
use Rattle.std.specs.Int.{abs_diff}
use Rattle.config_color.specs.declared.depth.Shade.{Shade}
use Rattle.config_color.specs.Depth.{distance, level, palette, square}

-- how far a palette number is from a shade
abbrev pub number_distance : Shade → ℕ → ℕ
number_distance s n = distance s (palette n)

-- how far the level of a step is from a byte
abbrev pub step_distance : ℕ → ℕ → ℕ
step_distance byte step = square (abs_diff byte (level step))

-- of the numbers from `first` up to, but without, `end`, `best` is the least of those that are nearest
pub record IsBest (far : ℕ → ℕ) (first end best : ℕ) : Type 0 where
  pub from : first ≤ best
  pub until : best < end
  pub nearest : (m : ℕ) → first ≤ m → m < end → far best ≤ far m
  pub least : (m : ℕ) → first ≤ m → m < best → far best < far m
