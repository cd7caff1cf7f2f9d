-- A function that reads item texts as the code does. `Laws/Item` proves that it computes `ItemText`. Only the
-- contracts of private functions cite it.
use Rattle.std.specs.Prelude.{ℕ, ◌+◌, ◌-◌, ◌*◌, ◌^◌, Bool, true, false, if◌then◌else◌, ◌&&◌, List, [], ◌∷◌}
use Rattle.std.specs.Prelude.{◌++◌, map, flat_map, filter, length, codes, Option, Some, None, nat_le, nat_lt}
use Rattle.std.specs.Prelude.{◌==◌, bytes_eq, option_map}
use Rattle.std.specs.Char.{digit_value, is_ascii_digit, to_ascii_lowercase}
use Rattle.config_word.specs.declared.name.Name.{Name}
use Rattle.config_word.specs.declared.name.Name.TheVariants as names
use Rattle.config_word.specs.declared.item.Item.{Item}
use Rattle.config_word.specs.declared.item.Item.TheVariants as items
use Rattle.config_word.specs.Attribute.{AttributeRow, attributes, bit_of, spellings_of}
use Rattle.config_word.specs.Name.{name_shown, word_names}

-- a word: its text, whether ASCII case is ignored, and the item that it means
abbrev pub WordRow : Type 0
WordRow = List ℕ × Bool × Item

-- the row of a name's word, which is read ignoring ASCII case
abbrev pub name_row : Name → WordRow
name_row n = (name_shown n, true, items.Name n)

-- the attribute of one bit, as an item
abbrev pub attribute_item : ℕ → Item
attribute_item bit = items.Attribute (record { 0 = 2 ^ bit })

-- the rows of a constant's spellings, of which only `reset` is read ignoring ASCII case
abbrev pub attribute_rows : AttributeRow → List WordRow
attribute_rows row = map (λ w. (w, bit_of row == 8, attribute_item (bit_of row))) (spellings_of row)

-- the rows of all words
abbrev pub word_table : List WordRow
word_table =
    map name_row word_names ++ (codes "-1", false, items.Name names.Normal)
    ∷ flat_map attribute_rows attributes

-- whether the text is the row's word
abbrev pub fits : WordRow → List ℕ → Bool
fits row t = if row.1 then bytes_eq (map to_ascii_lowercase t) (map to_ascii_lowercase row.0) else bytes_eq t
    row.0

-- the item of the first row that fits
abbrev pub found : List WordRow → List ℕ → Option Item
found [] t = None
found (row ∷ rows) t = if fits row t then Some row.2 else found rows t

-- the rows whose words have this length
abbrev pub of_length : ℕ → List WordRow → List WordRow
of_length n rows = filter (λ row. length row.0 == n) rows

-- the item of the first row that fits, among the words of the text's length
abbrev pub known : List ℕ → Option Item
known t = found (of_length (length t) word_table) t

-- the number that decimal digits after those of `n` write, if it is at most 255
abbrev pub decimal_from : List ℕ → ℕ → Option ℕ
decimal_from [] n = Some n
decimal_from (d ∷ ds) n =
    if is_ascii_digit d && nat_le (n * 10 + (d - 48)) 255 then decimal_from ds (n * 10 + (d - 48)) else None

-- the number that one or more decimal digits write, if it is at most 255
abbrev pub palette_of : List ℕ → Option ℕ
palette_of [] = None
palette_of (d ∷ ds) = decimal_from (d ∷ ds) 0

-- the number that two hexadecimal digits write, or `None` if a byte is no such digit
abbrev pub hex_pair_of : ℕ → ℕ → Option ℕ
hex_pair_of high low =
    if nat_lt (digit_value high) 16 && nat_lt (digit_value low) 16
    then Some (16 * digit_value high + digit_value low) else None

-- the color of red, green and blue, if there are all three
abbrev pub rgb_from : Option ℕ → Option ℕ → Option ℕ → Option Name
rgb_from (Some r) (Some g) (Some b) = Some (names.Rgb r g b)
rgb_from (Some r) (Some g) None = None
rgb_from (Some r) None b = None
rgb_from None g b = None

-- the color of six hexadecimal digits, or of three, each of which is taken twice
abbrev pub rgb_of : List ℕ → Option Name
rgb_of (a ∷ b ∷ c ∷ d ∷ e ∷ f ∷ []) = rgb_from (hex_pair_of a b) (hex_pair_of c d) (hex_pair_of e f)
rgb_of (a ∷ c ∷ e ∷ []) = rgb_from (hex_pair_of a a) (hex_pair_of c c) (hex_pair_of e e)
rgb_of _ = None

-- the palette number of these digits, as an item
abbrev pub palette_item : List ℕ → Option Item
palette_item ds = option_map (λ n. items.Name (names.Ansi n)) (palette_of ds)

-- the color of these hexadecimal digits, as an item
abbrev pub rgb_item : List ℕ → Option Item
rgb_item ds = option_map items.Name (rgb_of ds)

-- `#`
abbrev pub hash_sign : ℕ
hash_sign = 35

-- `+`
abbrev pub plus_sign : ℕ
plus_sign = 43

-- the item of a text, according to its first byte: `#`, `+`, a digit, or the first byte of a word
abbrev pub item_of : List ℕ → Option Item
item_of [] = known []
item_of (c ∷ cs) =
    if c == hash_sign then rgb_item cs
    else (if c == plus_sign then palette_item cs
    else (if is_ascii_digit c then palette_item (c ∷ cs) else known (c ∷ cs)))
