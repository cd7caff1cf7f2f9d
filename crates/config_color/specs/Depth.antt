-- Fewer colors: the palette, the distance of two colors, and the nearest number.
--
-- Look for (here and in Terminal): `palette`: three parts, at 16 and 232. `IsNearest`: none is nearer, and
-- each lesser one is farther. The first of the `depth_rules` that applies decides.
use Rattle.std.specs.Prelude.{◌≡◌, ℕ, ◌+◌, ◌*◌, ◌-◌, ◌/◌, ◌%◌, ◌<◌, ◌≤◌, nat_lt, if◌then◌else◌, List, [], ◌∷◌}
use Rattle.std.specs.Prelude.{zero, suc, Option, None, Some, MatchOption}
use Rattle.std.specs.List.{slice_index_or}
use Rattle.std.specs.Int.{abs_diff}
use Rattle.config_color.specs.declared.color.Color.{Color}
use Rattle.config_color.specs.declared.depth.Depth.{Depth}
use Rattle.config_color.specs.declared.depth.Depth.TheVariants.{Ansi16, Ansi256, TrueColor}
use Rattle.config_color.specs.declared.depth.Shade.{Shade}
use Rattle.config_word.specs.declared.name.Name.{Name}
use Rattle.config_word.specs.declared.name.Name.TheVariants.{Ansi, Rgb}

-- red, green and blue, each 0 to 255
abbrev pub shade : ℕ → ℕ → ℕ → Shade
shade r g b = record { red = r; green = g; blue = b }

-- red, green and blue of the numbers 0 to 15, as xterm has them by default
unfoldable pub xterm_colors : List Shade
xterm_colors =
    shade 0x00 0x00 0x00 ∷ shade 0xCD 0x00 0x00 ∷ shade 0x00 0xCD 0x00 ∷ shade 0xCD 0xCD 0x00
    ∷ shade 0x00 0x00 0xEE ∷ shade 0xCD 0x00 0xCD ∷ shade 0x00 0xCD 0xCD ∷ shade 0xE5 0xE5 0xE5
    ∷ shade 0x7F 0x7F 0x7F ∷ shade 0xFF 0x00 0x00 ∷ shade 0x00 0xFF 0x00 ∷ shade 0xFF 0xFF 0x00
    ∷ shade 0x5C 0x5C 0xFF ∷ shade 0xFF 0x00 0xFF ∷ shade 0x00 0xFF 0xFF ∷ shade 0xFF 0xFF 0xFF ∷ []

-- the levels of the cube: 0, 95, 135, 175, 215, 255
abbrev pub level : ℕ → ℕ
level zero = 0
level (suc n) = 95 + 40 * n

-- red, green and blue of the cube's number n, which is 36 r + 6 g + b for steps r, g and b of 0 to 5
abbrev pub cube_shade : ℕ → Shade
cube_shade n = shade (level (n / 36)) (level (n / 6 % 6)) (level (n % 6))

-- the gray of this step, 0 to 23
abbrev pub gray_shade : ℕ → Shade
gray_shade n = shade (8 + 10 * n) (8 + 10 * n) (8 + 10 * n)

-- red, green and blue of a palette number: sixteen colors, a cube of 216 colors from 16 on, and 24 grays from
-- 232 on
abbrev pub palette : ℕ → Shade
palette n =
    if nat_lt n 16 then slice_index_or xterm_colors n (shade 0 0 0)
    else if nat_lt n 232 then cube_shade (n - 16)
    else gray_shade (n - 232)

-- the number times itself
abbrev pub square : ℕ → ℕ
square n = n * n

-- how far two shades are apart: the sum of the squares of the differences of red, green and blue
abbrev pub distance : Shade → Shade → ℕ
distance a b = square (abs_diff a.red b.red) + square (abs_diff a.green b.green) + square (abs_diff a.blue b.blue)

-- the number is one from `first` to `last`; none of these is nearer to the shade, and every lesser one is
-- farther from it
pub record IsNearest (first last : ℕ) (s : Shade) (n : ℕ) : Type 0 where
  pub within : (first ≤ n) × (n ≤ last)
  pub nearest : (m : ℕ) → first ≤ m → m ≤ last → distance s (palette n) ≤ distance s (palette m)
  pub least : (m : ℕ) → first ≤ m → m < n → distance s (palette n) < distance s (palette m)

-- red, green and blue of a name that has to be replaced at this depth: of red, green and blue themselves, unless
-- all colors are there, and of a number above 15, if only 16 are there
abbrev pub replaced : Depth → Name → Option Shade
replaced Ansi16 (Ansi n) = if nat_lt 15 n then Some (palette n) else None
replaced Ansi16 (Rgb r g b) = Some (shade r g b)
replaced Ansi256 (Rgb r g b) = Some (shade r g b)
replaced _ _ = None

-- the first and the last of the numbers that replace names at this depth; with all colors nothing is replaced
abbrev pub replacements : Depth → ℕ × ℕ
replacements Ansi16 = (0, 15)
replacements Ansi256 = (16, 255)
replacements TrueColor = (0, 0)

-- what is left of a name: the number that is nearest to it, if it has to be replaced, or else the name
abbrev pub ReducedName : Depth → Name → Name → Type 0
ReducedName depth n m =
    MatchOption (replaced depth n) (m ≡ n) (λ s.
    (k : ℕ) × (m ≡ Ansi k) × IsNearest (replacements depth).0 (replacements depth).1 s k)

-- what is left of a foreground or a background: nothing of nothing, and else what is left of its name
abbrev pub ReducedPart : Depth → Option Name → Option Name → Type 0
ReducedPart depth None part = part ≡ None
ReducedPart depth (Some n) part = (m : Name) × (part ≡ Some m) × ReducedName depth n m

-- what is left of a color: what is left of its names, and all of its attributes
pub record ReducedColor (depth : Depth) (c d : Color) : Type 0 where
  pub foreground : ReducedPart depth c.foreground d.foreground
  pub background : ReducedPart depth c.background d.background
  pub attributes : d.attributes ≡ c.attributes
