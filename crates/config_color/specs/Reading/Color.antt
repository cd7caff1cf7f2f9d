-- A function that reads color texts from the front, as the code does. `Laws.Color` proves that it computes
-- `ColorText`. Only the contracts of private functions cite it.
use Rattle.std.specs.Prelude.{ℕ, ◌+◌, ◌<◌, ◌≤◌, List, [], ◌∷◌, ◌++◌, length, slice_index, slice_range, Option}
use Rattle.std.specs.Prelude.{None, Some, ◌≡◌, ◌==◌, false}
use Rattle.std.specs.Char.{is_ascii_digit}
use Rattle.std.specs.Int.RustNames.{bit_or}
use Rattle.std.specs.List.{join_with_byte}
use Rattle.std.specs.Option.{option_and_then}
use Rattle.config_text.specs.Bytes.{space}
use Rattle.config_color.specs.declared.color.Color.{Color}
use Rattle.config_word.specs.declared.name.Name.{Name}
use Rattle.config_word.specs.declared.item.Item.{Item}
use Rattle.config_word.specs.declared.item.Item.TheVariants as items
use Rattle.config_color.specs.Color.{no_color, part_shown}
use Rattle.config_color.specs.Space.{Space}
use Rattle.config_color.specs.Reading.Split.{IsWithoutSpace, words}
use Rattle.config_word.specs.Reading.Item.{item_of, plus_sign}

-- the item that a word means
unfoldable pub word_item : List ℕ → Option Item
word_item t = item_of t

-- the color with one more name: the foreground, or the background if there is a foreground, or `None` if both
abbrev pub next_name : Option Name → Option Name → ℕ → Name → Option Color
next_name None background bits n =
    Some (record { foreground = Some n; background = background; attributes = record { 0 = bits } })
next_name (Some m) None bits n =
    Some (record { foreground = Some m; background = Some n; attributes = record { 0 = bits } })
next_name (Some m) (Some o) bits n = None

-- the color with one more item
abbrev pub with_item : Color → Item → Option Color
with_item c (items.Name n) = next_name c.foreground c.background c.attributes.0 n
with_item c (items.Attribute a) =
    Some (record {
      foreground = c.foreground;
      background = c.background;
      attributes = record { 0 = bit_or c.attributes.0 a.0 };
    })

-- the color of these words, after those that gave the color so far
abbrev pub read_from : Color → List (List ℕ) → Option Color
read_from c [] = Some c
read_from c (w ∷ ws) = option_and_then (λ d. read_from d ws)
    (option_and_then (λ i. with_item c i) (word_item w))

-- the color of a text
abbrev pub color_of : List ℕ → Option Color
color_of t = read_from no_color (words t)

-- the foreground and background from the names of two colors, for colors without a background alone
abbrev pub places_of : Option Name → Option Name → Option Name → Option Name
    → Option (Option Name × Option Name)
places_of None b g d = Some (g, d)
places_of (Some n) None g None = Some (Some n, g)
places_of (Some n) None g (Some m) = None
places_of (Some n) (Some o) None d = Some (Some n, Some o)
places_of (Some n) (Some o) (Some m) d = None

-- the foreground and the background as they are shown
abbrev pub names_shown : Option Name → Option Name → List ℕ
names_shown f b = join_with_byte space (part_shown f ++ part_shown b)

-- no byte from place `from` to before place `to` can begin white space
abbrev pub ArePlain : List ℕ → ℕ → ℕ → Type 0
ArePlain text from to = (k : ℕ) → from ≤ k → k < to → (32 < slice_index text k) × (slice_index text k < 194)

-- the first white space of the text comes after `before` bytes and has `space` bytes
abbrev pub EndsWord : List ℕ → ℕ → ℕ → Type 0
EndsWord text before space =
    IsWithoutSpace text before × (before + space ≤ length text) × (0 < space)
    × Space (slice_range text before (before + space))

-- the first word of the text is longer than the longest word, and does not begin as a palette number does
abbrev pub IsTooLong : List ℕ → Type 0
IsTooLong text =
    (16 ≤ length text) × IsWithoutSpace text 16 × ((slice_index text 0 == plus_sign) ≡ false)
    × (is_ascii_digit (slice_index text 0) ≡ false)

-- the first word of the text has `before` bytes, and the white space after it `space` bytes; without white
-- space the word is the whole text
pub record FirstWordEnds (text : List ℕ) (before space : ℕ) : Type 0 where
  pub clear : IsWithoutSpace text before
  pub within : before + space ≤ length text
  pub parted : 0 < space → Space (slice_range text before (before + space))
  pub last : space ≡ 0 → before ≡ length text
