-- `item_of` computes `ItemText`, so a text has at most one item.
use Rattle.std.proofs.Common.{◌≡◌, ℕ, ◌+◌, ◌-◌, ◌*◌, ◌^◌, ◌<◌, ◌≤◌, ◌⊎◌, inl, inr, Bool, true, false, cond}
use Rattle.std.proofs.Common.{not, ◌&&◌, ◌||◌, List, [], ◌∷◌, map, flat_map, length, codes, Option, Some}
use Rattle.std.proofs.Common.{None, nat_le, nat_lt, ◌==◌, option_map, refl, sym, ap, ◌∙◌, arith, suc}
use Rattle.std.proofs.Common.{bytes_eq, lit<, lit≤}
use Rattle.std.proofs.lemmas.Bool.Decides.{Decides-eqb, eqb_tells, nat_tests}
use Rattle.std.proofs.lemmas.Slice.Eq.{bytes_eq-Decides}
use Rattle.std.proofs.Math.Nat.{le-mul_of_pos_right, one-le-pow, pow-suc}
use Rattle.std.proofs.lemmas.Bool.{and_parts, cases_Bool, le-leb, leb-true, lt-ltb, ltb-true}
use Rattle.std.proofs.lemmas.List.{length-map}
use Rattle.std.proofs.lemmas.Str.Parse.{digit_from_value}
use Rattle.std.specs.Char.{digit_value, is_ascii_digit, to_ascii_lowercase}
use Rattle.std.specs.List.{list_all}
use Rattle.std.specs.Str.Parse.{AllDigits, IsNumeral}
use Rattle.config_word.specs.declared.attribute.Attribute.{Attribute}
use Rattle.config_word.specs.declared.name.Name.{Name}
use Rattle.config_word.specs.declared.name.Name.TheVariants as names
use Rattle.config_word.specs.declared.item.Item.{Item}
use Rattle.config_word.specs.declared.item.Item.TheVariants as items
use Rattle.config_word.specs.Attribute.{AttributeRow, AttributeText, attributes}
use Rattle.config_word.specs.Name.{HexPair, NameText, name_shown, word_names}
use Rattle.config_text.specs.Numerals.{place_sum}
use Rattle.config_text.specs.OneOf.{OneOf}
use Rattle.config_text.specs.Laws.OneOf.{all-one, OneOf-map, OneOf-from_map, OneOf-front, OneOf-back}
use Rattle.config_text.specs.Laws.OneOf.{OneOf-from_append, OneOf-flat_map, OneOf-from_flat_map}
use Rattle.config_text.specs.Value.{Reads}
use Rattle.config_text.specs.Laws.Value.{IsValueOf, one_value_by, reads_by}
use Rattle.config_word.specs.Item.{ItemText}
use Rattle.config_word.specs.Reading.Item.{WordRow, name_row, attribute_item, attribute_rows, word_table}
use Rattle.config_word.specs.Reading.Item.{fits, found, known, of_length, decimal_from, palette_of}
use Rattle.config_word.specs.Reading.Item.{hex_pair_of, rgb_from, rgb_of, palette_item, rgb_item, item_of}

-- ---- one row fits

-- a text in lower case
abbrev lowered : List ℕ → List ℕ
lowered t = map to_ascii_lowercase t

-- no row of the list has the word of this row, ignoring ASCII case
abbrev is_new : WordRow → List WordRow → Bool
is_new row [] = true
is_new row (other ∷ rows) = not (bytes_eq (lowered other.0) (lowered row.0)) && is_new row rows

-- no two rows have the same word, ignoring ASCII case
abbrev are_apart : List WordRow → Bool
are_apart [] = true
are_apart (row ∷ rows) = is_new row rows && are_apart rows

-- a text that fits a word is the word, ignoring ASCII case
fits_cases : (folds : Bool) (t w : List ℕ)
    → cond folds (bytes_eq (lowered t) (lowered w)) (bytes_eq t w) ≡ true → lowered t ≡ lowered w
fits_cases true t w h = (bytes_eq-Decides (lowered t) (lowered w)).0 h
fits_cases false t w h = ap (map to_ascii_lowercase) ((bytes_eq-Decides t w).0 h)

-- a text that fits a row is the word of the row, ignoring ASCII case
fits-lowered : (row : WordRow) (t : List ℕ) → fits row t ≡ true → lowered t ≡ lowered row.0
fits-lowered row t h = fits_cases row.1 t row.0 h

-- if no row of a list has the word of a row, each row of the list has another word
is_new-apart : (row other : WordRow) (rows : List WordRow) → is_new row rows ≡ true → OneOf rows other
    → ¬ (lowered other.0 ≡ lowered row.0)
is_new-apart row other [] h o = absurd o
is_new-apart row other (first ∷ rows) h (inl e) =
    λ same.
    let b = and_parts (not (bytes_eq (lowered first.0) (lowered row.0))) (is_new row rows) h in
    let p : lowered first.0 ≡ lowered row.0 = ap (λ (r : WordRow). lowered r.0) (sym e) ∙ same in
    let q = (bytes_eq-Decides (lowered first.0) (lowered row.0)).1 p in
    let r : not true ≡ true = rw q at b.0 in cc
is_new-apart row other (first ∷ rows) h (inr o) =
    is_new-apart row other rows (and_parts (not (bytes_eq (lowered first.0) (lowered row.0)))
    (is_new row rows) h).1 o

-- the item of a row that fits is found
row-found : (rows : List WordRow) (row : WordRow) (t : List ℕ) → are_apart rows ≡ true → OneOf rows row
    → fits row t ≡ true → found rows t ≡ Some row.2
row-found [] row t apart o f = absurd o
row-found (first ∷ rows) row t apart (inl e) f =
    let g : fits first t ≡ true = rw (← e) f in rw (g, e) refl
row-found (first ∷ rows) row t apart (inr o) f =
    let b = and_parts (is_new first rows) (are_apart rows) apart in
    elim (cases_Bool (fits first t)) [
      | inl g ↦ absurd
          (is_new-apart first row rows b.0 o (sym (fits-lowered row t f) ∙ fits-lowered first t g))
      | inr g ↦ rw g (row-found rows row t b.1 o f)
    ]

-- a row of the list that fits the text and has the item
abbrev FoundRow : List WordRow → List ℕ → Item → Type 0
FoundRow rows t i = (row : WordRow) × OneOf rows row × (fits row t ≡ true) × (row.2 ≡ i)

-- an item that is found is the item of a row that fits
found-row : (rows : List WordRow) (t : List ℕ) (i : Item) → found rows t ≡ Some i → FoundRow rows t i
found-row [] t i h = cc
found-row (first ∷ rows) t i h =
    elim (cases_Bool (fits first t)) [
      | inl f ↦ let e = rw f at h in (first, inl refl, f, cc)
      | inr f ↦ let r = found-row rows t i (rw f at h) in (r.0, inr r.1, r.2, r.3)
    ]

-- no two words are the same, ignoring ASCII case
word_table-apart : are_apart word_table ≡ true
unfolding attributes word_names
word_table-apart = refl

-- ---- the first byte of a word

-- a word byte: neither `#` nor `+` nor a digit
abbrev is_word_byte : ℕ → Bool
is_word_byte c = not (c == 35) && (not (c == 43) && not (is_ascii_digit c))

-- a text that begins with a word byte
abbrev starts_word : List ℕ → Bool
starts_word [] = false
starts_word (c ∷ cs) = is_word_byte c

-- each of the words begins with a word byte
word_table-starts : list_all (λ row. starts_word (lowered row.0)) word_table ≡ true
unfolding attributes word_names
word_table-starts = refl

-- the results of the tests of the first byte for a word byte
byte_marks : (c : ℕ) → is_word_byte c ≡ true
    → ((c == 35) ≡ false) × ((c == 43) ≡ false) × (is_ascii_digit c ≡ false)
byte_marks c h = grind (arith, nat_tests)

-- a byte is a word byte if it is one in lower case
lowered_byte : (c : ℕ) → is_word_byte (to_ascii_lowercase c) ≡ true → is_word_byte c ≡ true
lowered_byte c h = grind (arith, nat_tests)

-- a text that fits a row begins with a word byte
starts-fits : (row : WordRow) (t : List ℕ) → OneOf word_table row → fits row t ≡ true → starts_word t ≡ true
starts-fits row t o f =
    told t (ap starts_word (fits-lowered row t f)
    ∙ all-one (λ (r : WordRow). starts_word (lowered r.0)) word_table row word_table-starts o) where
      told : (s : List ℕ) → starts_word (lowered s) ≡ true → starts_word s ≡ true
      told [] h = h
      told (c ∷ cs) h = lowered_byte c h

-- a word that fits a text has the length of the text
length-fits : (row : WordRow) (t : List ℕ) → fits row t ≡ true → length row.0 ≡ length t
length-fits row t f =
    let e : length (lowered t) ≡ length (lowered row.0) = ap length (fits-lowered row t f) in
    omega (arith, e, length-map t to_ascii_lowercase, length-map row.0 to_ascii_lowercase)

-- looking only among the words of the text's length finds the same item
found_of_length : (rows : List WordRow) (t : List ℕ) → found (of_length (length t) rows) t ≡ found rows t
found_of_length [] t = refl
found_of_length (first ∷ rows) t =
    let rest = found_of_length rows t in
    elim (eqb_tells (length first.0) (length t)) [
      | inl e ↦ rw e.0 (ap (cond (fits first t) (Some first.2)) rest)
      | inr n ↦ elim (cases_Bool (fits first t)) [
        | inl f ↦ absurd (n.1 (length-fits first t f))
        | inr f ↦ rw (n.0, f) rest
      ]
    ]

-- a text that begins with a word byte has the item that the table has for it
item_of-word : (t : List ℕ) → starts_word t ≡ true → item_of t ≡ found word_table t
item_of-word [] h = found_of_length word_table []
item_of-word (c ∷ cs) h =
    let m = byte_marks c h in rw (m.0, m.1, m.2) (found_of_length word_table (c ∷ cs))

-- a text that fits a row has the item of the row
row-item : (row : WordRow) (t : List ℕ) → OneOf word_table row → fits row t ≡ true → item_of t ≡ Some row.2
row-item row t o f = item_of-word t (starts-fits row t o f) ∙ row-found word_table row t word_table-apart o f

-- `known` finds the item of a row that fits
row-known : (row : WordRow) (t : List ℕ) → OneOf word_table row → fits row t ≡ true → known t ≡ Some row.2
row-known row t o f = found_of_length word_table t ∙ row-found word_table row t word_table-apart o f

-- ---- numbers

-- a digit value below 10 is that of a decimal digit
digit-is : (d : ℕ) → digit_value d < 10 → (is_ascii_digit d ≡ true) × (digit_value d ≡ d - 48)
digit-is d h = let r = digit_from_value d h in grind (arith, nat_tests)

-- a decimal digit has a value below 10
digit-from : (d : ℕ) → is_ascii_digit d ≡ true → (digit_value d < 10) × (digit_value d ≡ d - 48)
digit-from d h = grind (arith, nat_tests)

-- one more digit, added in two ways
shifted : (n v k p : ℕ) → (n * 10 + v) * 10 ^ k + p ≡ n * 10 ^ suc k + (v * 10 ^ k + p)
shifted n v k p = rw (pow-suc 10 k) (omega arith)

-- further digits make a number no smaller
one_more : (n v k p : ℕ) → n * 10 ^ suc k + (v * 10 ^ k + p) ≤ 255 → n * 10 + v ≤ 255
one_more n v k p h =
    let e = shifted n v k p in
    let less : n * 10 + v ≤ (n * 10 + v) * 10 ^ k =
    le-mul_of_pos_right (n * 10 + v) (one-le-pow k 10 (lit< tt)) in
    omega arith

-- the place sum with one more digit in front
place_sum-more : (d : ℕ) (ds : List ℕ) → digit_value d < 10
    → place_sum (d ∷ ds) 10 ≡ (d - 48) * 10 ^ length ds + place_sum ds 10
place_sum-more d ds h = ap (λ x. x * 10 ^ length ds + place_sum ds 10) (digit-is d h).1

-- digits that make a number of at most 255 are read as this number
decimal-found : (ds : List ℕ) (n : ℕ) → AllDigits 10 ds → n * 10 ^ length ds + place_sum ds 10 ≤ 255
    → decimal_from ds n ≡ Some (n * 10 ^ length ds + place_sum ds 10)
decimal-found [] n all h = ap Some (omega arith)
decimal-found (d ∷ ds) n all h =
    let sum = place_sum-more d ds all.0 in
    let e = shifted n (d - 48) (length ds) (place_sum ds 10) in
    let small : n * 10 + (d - 48) ≤ 255 = one_more n (d - 48) (length ds) (place_sum ds 10) (omega arith) in
    let rest = decimal-found ds (n * 10 + (d - 48)) all.1 (omega arith) in
    rw ((digit-is d all.0).0, le-leb (n * 10 + (d - 48)) 255 small) (rest ∙ ap Some (omega arith))

-- `ds` are digits, and after the number `n` they write `k`, which is at most 255
abbrev DecimalRead : List ℕ → ℕ → ℕ → Type 0
DecimalRead ds n k = AllDigits 10 ds × (k ≡ n * 10 ^ length ds + place_sum ds 10) × (k ≤ 255)

-- if a number is read, it is at most 255 and written by digits
decimal-derived : (ds : List ℕ) (n k : ℕ) → n ≤ 255 → decimal_from ds n ≡ Some k → DecimalRead ds n k
decimal-derived [] n k small h = let e : n ≡ k = cc in (tt, omega arith, omega arith)
decimal-derived (d ∷ ds) n k small h =
    elim (cases_Bool (is_ascii_digit d && nat_le (n * 10 + (d - 48)) 255)) [
      | inl both ↦
          let (digit, fit) = and_parts (is_ascii_digit d) (nat_le (n * 10 + (d - 48)) 255) both in
          let v = digit-from d digit in
          let r = decimal-derived ds (n * 10 + (d - 48)) k (leb-true _ 255 fit) (rw both at h) in
          let sum = place_sum-more d ds v.0 in
          let e = shifted n (d - 48) (length ds) (place_sum ds 10) in
          ((v.0, r.0), omega (arith, r.1, sum, e), r.2)
      | inr other ↦ let e = rw other at h in absurd (cc)
    ]

-- digits that write a number of at most 255 are read as this palette number
pub palette-found : (ds : List ℕ) → IsNumeral 10 ds → place_sum ds 10 ≤ 255
    → palette_of ds ≡ Some (place_sum ds 10)
palette-found [] h small = absurd (omega (arith, h.0))
palette-found (d ∷ ds) h small = decimal-found (d ∷ ds) 0 h.1 (omega arith) ∙ ap Some (omega arith)

-- a palette number that is read is the place sum of decimal digits
pub palette-derived : (ds : List ℕ) (k : ℕ) → palette_of ds ≡ Some k
    → IsNumeral 10 ds × (k ≡ place_sum ds 10) × (k ≤ 255)
palette-derived [] k h = cc
palette-derived (d ∷ ds) k h =
    let r = decimal-derived (d ∷ ds) 0 k (lit≤ tt) h in
    ((omega arith, r.0), omega arith, r.2)

-- ---- hexadecimal digits

-- two hexadecimal digits are read as the number that they write
pair-found : (a b n : ℕ) → HexPair a b n → hex_pair_of a b ≡ Some n
pair-found a b n h = rw (lt-ltb (digit_value a) 16 h.high_digit, lt-ltb (digit_value b) 16 h.low_digit)
    (ap Some (sym h.number))

-- if a number is read, the two bytes are hexadecimal digits that write it
pair-derived : (a b n : ℕ) → hex_pair_of a b ≡ Some n → HexPair a b n
pair-derived a b n h =
    elim (cases_Bool (nat_lt (digit_value a) 16 && nat_lt (digit_value b) 16)) [
      | inl both ↦
          let (high, low) = and_parts (nat_lt (digit_value a) 16) (nat_lt (digit_value b) 16) both in
          let e = rw both at h in
          record { high_digit = ltb-true _ _ high; low_digit = ltb-true _ _ low; number = cc }
      | inr other ↦ let e = rw other at h in absurd (cc)
    ]

-- ---- names and attributes are found

-- `-1` means `Normal`
minus_one-item : item_of (codes "-1") ≡ Some (items.Name names.Normal)
unfolding attributes word_names
minus_one-item = refl

-- the results of the tests of the first byte for a digit
digit_marks : (d : ℕ) → digit_value d < 10
    → ((d == 35) ≡ false) × ((d == 43) ≡ false) × (is_ascii_digit d ≡ true)
digit_marks d h = let r = digit_from_value d h in grind (arith, nat_tests)

-- decimal digits mean the palette number that they write, if it is at most 255
palette_item-found : (ds : List ℕ) → IsNumeral 10 ds → place_sum ds 10 ≤ 255
    → palette_item ds ≡ Some (items.Name (names.Ansi (place_sum ds 10)))
palette_item-found ds h small = rw (palette-found ds h small) refl

-- a text of decimal digits is read as a palette number
item_of-digits : (ds : List ℕ) → IsNumeral 10 ds → item_of ds ≡ palette_item ds
item_of-digits [] h = absurd (omega (arith, h.0))
item_of-digits (d ∷ ds) h = let m = digit_marks d h.1.0 in rw (m.0, m.1, m.2) refl

-- a name text means its name
name-found : (t : List ℕ) (n : Name) → NameText t n → item_of t ≡ Some (items.Name n)
name-found t n (NameText.word o s) =
    row-item (name_row n) t
    (OneOf-front (map name_row word_names)
    ((codes "-1", false, items.Name names.Normal) ∷ flat_map attribute_rows attributes)
    (name_row n) (OneOf-map name_row word_names n o))
    ((bytes_eq-Decides (lowered t) (lowered (name_shown n))).1 s)
name-found t n (NameText.minus_one e f) = rw (e, f) minus_one-item
name-found t n (NameText.palette ds k (inl e) h sum small f) =
    rw (e, f, sum) (item_of-digits ds h ∙ palette_item-found ds h (omega arith))
name-found t n (NameText.palette ds k (inr e) h sum small f) =
    rw (e, f, sum) (palette_item-found ds h (omega arith))
name-found t n (NameText.pairs a b c d e f r g u is x y z v) =
    rw (is, v, pair-found a b r x, pair-found c d g y, pair-found e f u z) refl
name-found t n (NameText.doubled a c e r g u is x y z v) =
    rw (is, v, pair-found a a r x, pair-found c c g y, pair-found e e u z) refl

-- each word fits itself
fits-self : (t : List ℕ) (folds : Bool) (i : Item) → fits (t, folds, i) t ≡ true
fits-self t true i = (bytes_eq-Decides (lowered t) (lowered t)).1 refl
fits-self t false i = (bytes_eq-Decides t t).1 refl

-- each spelling of an attribute has a row in the table
spelling-row : (row : AttributeRow) (w : List ℕ) → OneOf attributes row → OneOf (row.2 ∷ row.3) w
    → OneOf word_table (w, row.1 == 8, attribute_item row.1)
spelling-row row w o h =
    OneOf-back (map name_row word_names)
    ((codes "-1", false, items.Name names.Normal) ∷ flat_map attribute_rows attributes)
    (w, row.1 == 8, attribute_item row.1)
    (inr (OneOf-flat_map attribute_rows attributes row (w, row.1 == 8, attribute_item row.1) o
    (OneOf-map (λ (x : List ℕ). (x, row.1 == 8, attribute_item row.1)) (row.2 ∷ row.3) w h)))

-- `reset` is one of the constants
pub reset-known : OneOf attributes (codes "RESET", 8, codes "reset", [], None)
unfolding attributes
reset-known = inr (inr (inr (inr (inr (inr (inr (inl refl)))))))

-- the item of a bit is the attribute that has only this bit
attribute_is : (a : Attribute) (bit : ℕ) → a.0 ≡ 2 ^ bit → attribute_item bit ≡ items.Attribute a
attribute_is a bit e = ap (λ n. items.Attribute (record { 0 = n })) (sym e)

-- an attribute text fits a row of its attribute
attribute-row : (t : List ℕ) (a : Attribute) → AttributeText t a
    → (row : WordRow) × OneOf word_table row × (fits row t ≡ true) × (row.2 ≡ items.Attribute a)
attribute-row t a (AttributeText.word row o h e) = (
  (t, row.1 == 8, attribute_item row.1),
  spelling-row row t o h,
  fits-self t (row.1 == 8) (attribute_item row.1),
  attribute_is a row.1 e,
)
attribute-row t a (AttributeText.reset s e) = (
  (codes "reset", true, attribute_item 8),
  spelling-row (codes "RESET", 8, codes "reset", [], None) (codes "reset") reset-known (inl refl),
  (bytes_eq-Decides (lowered t) (lowered (codes "reset"))).1 s,
  attribute_is a 8 e,
)

-- an attribute text means its attribute
attribute-found : (t : List ℕ) (a : Attribute) → AttributeText t a → item_of t ≡ Some (items.Attribute a)
attribute-found t a h = let r = attribute-row t a h in row-item r.0 t r.1 r.2 ∙ ap Some r.3

attribute-known : (t : List ℕ) (a : Attribute) → AttributeText t a → known t ≡ Some (items.Attribute a)
attribute-known t a h = let r = attribute-row t a h in row-known r.0 t r.1 r.2 ∙ ap Some r.3

-- an item text means its item
item-found : (t : List ℕ) (v : Item) → ItemText t v → item_of t ≡ Some v
item-found t (items.Name n) h = name-found t n h
item-found t (items.Attribute a) h = attribute-found t a h

-- ---- what is read is a name or an attribute

-- bit 8, which is read ignoring ASCII case, has only the spelling `reset`
reset-spelled : list_all (λ row. not (row.1 == 8)
    || list_all (λ w. bytes_eq w (codes "reset")) (row.2 ∷ row.3)) attributes ≡ true
unfolding attributes
reset-spelled = refl

-- a spelling of the constant with bit 8 is `reset`
reset-only : (row : AttributeRow) (w : List ℕ) → OneOf attributes row → (row.1 == 8) ≡ true
    → OneOf (row.2 ∷ row.3) w → w ≡ codes "reset"
reset-only row w o e h =
    let p = all-one (λ (r : AttributeRow). not (r.1 == 8)
    || list_all (λ w. bytes_eq w (codes "reset")) (r.2 ∷ r.3)) attributes row reset-spelled o in
    let q : list_all (λ w. bytes_eq w (codes "reset")) (row.2 ∷ row.3) ≡ true = rw e at p in
    (bytes_eq-Decides w (codes "reset")).0 (all-one (λ w. bytes_eq w (codes "reset")) (row.2 ∷ row.3) w q h)

-- a text that fits a spelling of a constant is an attribute text
spelled : (row : AttributeRow) (w t : List ℕ) → OneOf attributes row → OneOf (row.2 ∷ row.3) w
    → (x : Bool) → (row.1 == 8) ≡ x → cond x (bytes_eq (lowered t) (lowered w)) (bytes_eq t w) ≡ true
    → AttributeText t (record { 0 = 2 ^ row.1 })
spelled row w t o h true e f =
    let same = (bytes_eq-Decides (lowered t) (lowered w)).0 f in
    let eight : row.1 ≡ 8 = (Decides-eqb row.1 8).0 e in
    AttributeText.reset (rw (reset-only row w o e h) at same) (ap (λ n. 2 ^ n) eight)
spelled row w t o h false e f =
    AttributeText.word row o (rw ((bytes_eq-Decides t w).0 f) h) refl

-- a text that fits a row is an item text of the row's item
row-text : (row : WordRow) (t : List ℕ) → OneOf word_table row → fits row t ≡ true → ItemText t row.2
row-text row t o f =
    elim (OneOf-from_append (map name_row word_names)
    ((codes "-1", false, items.Name names.Normal) ∷ flat_map attribute_rows attributes) row o) [
      | inl a ↦ (let r = OneOf-from_map name_row word_names row a in
          rw r.2
          (NameText.word r.1 ((bytes_eq-Decides (lowered t) (lowered (name_shown r.0))).0 (rw r.2 at f))))
      | inr (inl e) ↦ rw e (NameText.minus_one ((bytes_eq-Decides t (codes "-1")).0 (rw e at f)) refl)
      | inr (inr b) ↦ (let r = OneOf-from_flat_map attribute_rows attributes row b in
          let q = OneOf-from_map (λ (x : List ℕ). (x, r.0.1 == 8, attribute_item r.0.1)) (r.0.2 ∷ r.0.3) row
          r.2 in
          rw q.2 (spelled r.0 q.0 t r.1 q.1 (r.0.1 == 8) refl (rw q.2 at f)))
    ]

-- a color that is read has red, green and blue
rgb_from-parts : (x y z : Option ℕ) (n : Name) → rgb_from x y z ≡ Some n
    → (r g b : ℕ) × (x ≡ Some r) × (y ≡ Some g) × (z ≡ Some b) × (n ≡ names.Rgb r g b)
rgb_from-parts (Some r) (Some g) (Some b) n h = (r, g, b, refl, refl, refl, cc)
rgb_from-parts x y z n h = cc

-- if digits are read as a color, `#` and the digits are a name text of the color
rgb-derived : (ds : List ℕ) (n : Name) → rgb_of ds ≡ Some n → NameText (35 ∷ ds) n
rgb-derived (a ∷ b ∷ c ∷ d ∷ e ∷ f ∷ []) n h =
    let p = rgb_from-parts (hex_pair_of a b) (hex_pair_of c d) (hex_pair_of e f) n h in
    NameText.pairs a b c d e f p.0 p.1 p.2 refl (pair-derived a b p.0 p.3) (pair-derived c d p.1 p.4)
    (pair-derived e f p.2 p.5) p.6
rgb-derived (a ∷ c ∷ e ∷ []) n h =
    let p = rgb_from-parts (hex_pair_of a a) (hex_pair_of c c) (hex_pair_of e e) n h in
    NameText.doubled a c e p.0 p.1 p.2 refl (pair-derived a a p.0 p.3) (pair-derived c c p.1 p.4)
    (pair-derived e e p.2 p.5) p.6
rgb-derived _ n h = cc

-- what is mapped was there before
mapped : {A B : Type 0} (f : A → B) (x : Option A) (v : B) → option_map f x ≡ Some v
    → (y : A) × (x ≡ Some y) × (f y ≡ v)
mapped f (Some y) v e = (y, refl, cc)
mapped f None v e = cc

-- if digits are read as a color, `#` and the digits are an item text of the color
rgb_item-derived : (ds : List ℕ) (v : Item) → rgb_item ds ≡ Some v → ItemText (35 ∷ ds) v
rgb_item-derived ds v h =
    let (n, e, same) = mapped items.Name (rgb_of ds) v h in rw (← same) (rgb-derived ds n e)

-- if digits are read as a palette number, they are an item text of it, alone or after `+`
palette_item-derived : (t ds : List ℕ) (v : Item) → (t ≡ ds) ⊎ (t ≡ 43 ∷ ds) → palette_item ds ≡ Some v
    → ItemText t v
palette_item-derived t ds v spelled h =
    let (k, e, same) = mapped (λ n. items.Name (names.Ansi n)) (palette_of ds) v h in
    let r = palette-derived ds k e in rw (← same) (NameText.palette ds k spelled r.0 r.1 r.2 refl)

-- an item that the table has for a text is an item of the text in the grammar
known-derived : (t : List ℕ) (v : Item) → known t ≡ Some v → ItemText t v
known-derived t v h = let r = found-row word_table t v (sym (found_of_length word_table t) ∙ h) in
    rw (← r.3) (row-text r.0 t r.1 r.2)

-- an item that is read from a text is an item of the text in the grammar
item-derived : (t : List ℕ) (v : Item) → item_of t ≡ Some v → ItemText t v
item-derived [] v h = known-derived [] v h
item-derived (c ∷ cs) v h = told (c == 35) (c == 43) (is_ascii_digit c) refl refl h where
  told : (x y z : Bool) → (c == 35) ≡ x → (c == 43) ≡ y
      → cond x (rgb_item cs) (cond y (palette_item cs) (cond z (palette_item (c ∷ cs)) (known (c ∷ cs))))
      ≡ Some v
      → ItemText (c ∷ cs) v
  told true y z p q e = rw ((Decides-eqb c 35).0 p) (rgb_item-derived cs v e)
  told false true z p q e =
      palette_item-derived (c ∷ cs) cs v (inr (ap (λ n. n ∷ cs) ((Decides-eqb c 43).0 q))) e
  told false false true p q e = palette_item-derived (c ∷ cs) (c ∷ cs) v (inl refl) e
  told false false false p q e = known-derived (c ∷ cs) v e

-- ---- the laws

-- `item_of` computes the grammar of items
pub item-law : IsValueOf ItemText item_of
item-law = record { found = item-found; derived = item-derived }

-- the result of `item_of` is the result of an exact reader of items
pub item_reads : (t : List ℕ) (r : Option Item) → r ≡ item_of t → Reads ItemText t r
item_reads t r e = reads_by item-law t r e

-- a text has at most one item
pub item_one_value : (t : List ℕ) (v w : Item) → ItemText t v → ItemText t w → v ≡ w
item_one_value = one_value_by item-law

-- no text is both a name text and an attribute text
pub not_both : (t : List ℕ) (n : Name) (a : Attribute) → NameText t n → ¬ (AttributeText t a)
not_both t n a p q =
    let e : items.Name n ≡ items.Attribute a = item_one_value t (items.Name n) (items.Attribute a) p q in cc

-- the name, if the item is one
abbrev pub item_name : Option Item → Option Name
item_name (Some (items.Name n)) = Some n
item_name (Some (items.Attribute a)) = None
item_name None = None

-- the attribute, if the item is one
abbrev pub item_attribute : Option Item → Option Attribute
item_attribute (Some (items.Attribute a)) = Some a
item_attribute (Some (items.Name n)) = None
item_attribute None = None

-- the name in the result of `item_of` computes the grammar of names
pub name-law : IsValueOf NameText (λ t. item_name (item_of t))
name-law = record {
  found = λ t n h. rw (name-found t n h) refl;
  derived = λ t n h. told t n (item_of t) refl h;
} where
  told : (t : List ℕ) (n : Name) (x : Option Item) → item_of t ≡ x → item_name x ≡ Some n → NameText t n
  told t n (Some (items.Name m)) e f = let same : m ≡ n = cc in rw (← same) (item-derived t (items.Name m) e)
  told t n x e f = cc

-- the attribute in the result of `item_of` computes the grammar of attributes
pub attribute-law : IsValueOf AttributeText (λ t. item_attribute (item_of t))
attribute-law = record {
  found = λ t a h. rw (attribute-found t a h) refl;
  derived = λ t a h. told t a (item_of t) refl h;
} where
  told : (t : List ℕ) (a : Attribute) (x : Option Item) → item_of t ≡ x → item_attribute x ≡ Some a
      → AttributeText t a
  told t a (Some (items.Attribute b)) e f =
      let same : b ≡ a = cc in rw (← same) (item-derived t (items.Attribute b) e)
  told t a x e f = cc

-- the name in the result of an exact reader of items is the result of an exact reader of names
pub reads_name : (t : List ℕ) (r : Option Item) → Reads ItemText t r → Reads NameText t (item_name r)
reads_name t (Some (items.Name n)) h = h
reads_name t (Some (items.Attribute a)) h = λ n p. not_both t n a p h
reads_name t None h = λ n p. h (items.Name n) p

-- the attribute that the words have for a text is the result of an exact reader of attributes
pub known_reads : (t : List ℕ) (r : Option Item) → r ≡ known t → Reads AttributeText t (item_attribute r)
known_reads t (Some (items.Attribute a)) e = known-derived t (items.Attribute a) (sym e)
known_reads t r e = λ a p. let k = attribute-known t a p in cc

-- ---- long words

-- each word of the table has at most 13 bytes
words-short : list_all (λ row. nat_le (length row.0) 13) word_table ≡ true
unfolding attributes word_names
words-short = refl

-- no row of short words has a longer word
found-longer : (n : ℕ) (rows : List WordRow) (t : List ℕ)
    → list_all (λ (row : WordRow). nat_le (length row.0) 13) rows ≡ true → 13 < n
    → found (of_length n rows) t ≡ None
found-longer n [] t h l = refl
found-longer n (row ∷ rows) t h l =
    let k = and_parts (nat_le (length row.0) 13) (list_all (λ (r : WordRow). nat_le (length r.0) 13) rows) h in
    let short = leb-true (length row.0) 13 k.0 in
    let other : (length row.0 == n) ≡ false = grind (arith, nat_tests) in
    rw other (found-longer n rows t k.1 l)

-- more than six digits are no color
rgb-longer : (ds : List ℕ) → 6 < length ds → rgb_of ds ≡ None
rgb-longer (a ∷ b ∷ c ∷ d ∷ e ∷ f ∷ g ∷ ds) h = refl
rgb-longer ds h = absurd (omega arith)

-- a text that is longer than the longest word is no item, unless it begins as a palette number does
pub long_refused : (c : ℕ) (cs : List ℕ) → 13 ≤ length cs → (c == 43) ≡ false → is_ascii_digit c ≡ false
    → item_of (c ∷ cs) ≡ None
long_refused c cs l plus digit = told (c == 35) refl where
  told : (x : Bool) → (c == 35) ≡ x → item_of (c ∷ cs) ≡ None
  told true e = rw (e, rgb-longer cs (omega arith)) refl
  told false e = rw (e, plus, digit) (found-longer (length (c ∷ cs)) word_table (c ∷ cs) words-short (omega arith))
