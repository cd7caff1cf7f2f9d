-- The laws of `Value` for names.
use Rattle.std.proofs.Common.{◌≡◌, ℕ, zero, suc, Some, ◌+◌, ◌-◌, ◌*◌, ◌/◌, ◌%◌, ◌^◌, ◌<◌, ◌≤◌, ◌⊎◌, inl, inr}
use Rattle.std.proofs.Common.{Bool, true, false, nat_le, List, [], ◌∷◌, ◌++◌, map, length, get_or}
use Rattle.std.proofs.Common.{codes, decimal, refl, sym, ap, ◌∙◌, arith, lit<, lit≤}
use Rattle.std.proofs.lemmas.Bool.Decides.{eqb_tells, nat_tests}
use Rattle.std.proofs.lemmas.Bool.{leb-true}
use Rattle.std.proofs.lemmas.Fmt.{decimal-digits_value, decimal_digit, decimal_is_IsNumeral, first_decimal}
use Rattle.std.proofs.lemmas.Fmt.{length-decimal-le}
use Rattle.std.proofs.lemmas.Str.Parse.{IsNumeralModel, digit_from_value, numerals_by_weight, tells_digits}
use Rattle.std.specs.Char.{digit_char, digit_value, to_ascii_lowercase}
use Rattle.std.specs.Int.{IsInRange}
use Rattle.std.specs.List.{AllByRecursion, list_all, slice_get}
use Rattle.std.specs.Str.Parse.{AllDigits, IsNumeral}
use Rattle.config_word.specs.declared.name.Name.{Name}
use Rattle.config_word.specs.declared.name.Name.TheVariants as names
use Rattle.config_word.specs.declared.name.TheConstants.{LONGEST_NAME}
use Rattle.config_word.specs.Name.{CanonicalName, HexPair, NameFits, NameText, hex_pair, lower_words}
use Rattle.config_word.specs.Name.{name_shown, word_names}
use Rattle.config_word.specs.Orders.{name_place}
use Rattle.config_text.specs.Bytes.{IsLeadingDigit, IsLowerHex}
use Rattle.config_text.specs.Numerals.{place_sum}
use Rattle.config_text.specs.OneOf.{OneOf}
use Rattle.config_text.specs.Laws.OneOf.{all-one, OneOf-from_map, OneOf-map}
use Rattle.config_text.specs.Value.{IsAccepted, IsRefused, IsTextOf, HasText}
use Rattle.config_text.specs.Laws.Value.{IsShown, canonical_reads_by, decided_by, one_text_by, one_value_by}
use Rattle.config_word.specs.Laws.Item.{name-law}

pub name_one_value : (t : List ℕ) (v w : Name) → NameText t v → NameText t w → v ≡ w
name_one_value = one_value_by name-law

pub name_decided : (t : List ℕ) → IsAccepted NameText t ⊎ IsRefused NameText t
name_decided = decided_by name-law

-- ---- decimal numbers

-- what a decimal digit adds to the sum of its text
weight : (c : ℕ) (cs : List ℕ) → IsInRange 48 57 c
    → place_sum (c ∷ cs) 10 ≡ (c - 48) * 10 ^ length cs + place_sum cs 10
weight c cs h =
    let v : digit_value c ≡ c - 48 = grind (arith, nat_tests) in
    ap (λ x. x * 10 ^ length cs + place_sum cs 10) v

-- decimal digits in the form that std's lemmas on numerals need
numerals : IsNumeralModel (AllDigits 10) (λ ds. place_sum ds 10)
numerals = numerals_by_weight (AllDigits 10) tells_digits (λ ds. place_sum ds 10)
    record { empty = refl; more = weight }

-- a number up to 255 is shown as decimal digits whose place sum it is
decimal_text : (n : ℕ) → n ≤ 255 → IsNumeral 10 (decimal n) × (n ≡ place_sum (decimal n) 10)
decimal_text n small =
    let fits : n < 2 ^ 64 = omega arith in
    let r = decimal_is_IsNumeral n fits in
    (r.0, sym (numerals.same (decimal n) r.0.1 ∙ r.1))

-- a number is 0, or its digits do not begin with `0`
first_byte : (n : ℕ) → n ≤ 255 → (n ≡ 0) ⊎ (48 < get_or (decimal n) 0 0)
first_byte n small =
    elim (eqb_tells n 0) [
      | inl e ↦ inl e.1
      | inr e ↦ inr (first_decimal n (omega (arith, e.1)) (omega arith))
    ]

-- what a number up to 255 is shown as is a canonical name
decimal-canonical : (n : ℕ) → n ≤ 255 → CanonicalName (decimal n)
decimal-canonical n small = told (decimal n) refl (first_byte n small) where
  told : (ds : List ℕ) → decimal n ≡ ds → ((n ≡ 0) ⊎ (48 < get_or (decimal n) 0 0)) → CanonicalName ds
  told ds e (inl z) = CanonicalName.nought (sym e ∙ ap decimal z ∙ decimal_digit 0 (lit< tt))
  told [] e (inr first) = let none : 48 < 0 = rw e at first in absurd (omega (arith, none))
  told (d ∷ ds) e (inr first) =
      let r = decimal_text n small in
      let first_digit : 48 < d = rw e at first in
      let all : AllDigits 10 (d ∷ ds) = rw e at r.0.1 in
      let sum : n ≡ place_sum (d ∷ ds) 10 = rw e at r.1 in
      CanonicalName.palette d ds refl (omega arith, (digit_from_value d all.0).1) all.1
      (omega (arith, sum, small))

-- digits that begin with 1 to 9 are what their number is shown as
digits-shown : (d : ℕ) (ds : List ℕ) → IsLeadingDigit d → AllDigits 10 ds → place_sum (d ∷ ds) 10 ≤ 255
    → IsNumeral 10 (d ∷ ds) × (d ∷ ds ≡ decimal (place_sum (d ∷ ds) 10))
digits-shown d ds h all small =
    let v : digit_value d < 10 = grind (arith, nat_tests) in (
      (omega arith, (v, all)),
      sym
          (decimal-digits_value numerals (d ∷ ds) (v, all) (omega arith) (λ e. absurd (omega (arith, h.0, e)))
          (omega arith)),
    )

-- `0` is what 0 is shown as
digits-of_nought : IsNumeral 10 (codes "0") × (0 ≡ place_sum (codes "0") 10) × (codes "0" ≡ decimal 0)
digits-of_nought = ((lit< tt, (lit< tt, tt)), refl, sym (decimal_digit 0 (lit< tt)))

-- ---- hexadecimal digits

-- a lower-case digit is what its value is shown as
lower_digit : (c : ℕ) → IsLowerHex c → (digit_value c < 16) × (digit_char (digit_value c) ≡ c)
lower_digit c h = grind (arith, nat_tests)

-- a value below 16 is shown as a lower-case digit with this value
shown_digit : (n : ℕ) → n < 16 → IsLowerHex (digit_char n) × (digit_value (digit_char n) ≡ n)
shown_digit n h = grind (arith, nat_tests)

-- two lower-case digits are what their number is shown as
hex_pair-back : (a b : ℕ) → IsLowerHex a → IsLowerHex b
    → hex_pair (16 * digit_value a + digit_value b) ≡ a ∷ b ∷ []
hex_pair-back a b h k =
    let p = lower_digit a h in
    let q = lower_digit b k in
    let high : (16 * digit_value a + digit_value b) / 16 ≡ digit_value a = omega arith in
    let low : (16 * digit_value a + digit_value b) % 16 ≡ digit_value b = omega arith in
    rw (high, low, p.1, q.1) refl

-- two lower-case digits write their number
pair_of : (a b : ℕ) → IsLowerHex a → IsLowerHex b → HexPair a b (16 * digit_value a + digit_value b)
pair_of a b h k = record { high_digit = (lower_digit a h).0; low_digit = (lower_digit b k).0; number = refl }

-- a byte is shown as two digits that write it
pair_shown : (n : ℕ) → n ≤ 255 → HexPair (digit_char (n / 16)) (digit_char (n % 16)) n
pair_shown n small =
    let p = shown_digit (n / 16) (omega arith) in
    let q = shown_digit (n % 16) (omega arith) in
    record {
      high_digit = omega (arith, p.1);
      low_digit = omega (arith, q.1);
      number = omega (arith, p.1, q.1);
    }

-- ---- canonical texts

-- the words that are canonical texts are what the names without numbers are shown as
shown_words : map name_shown word_names ≡ lower_words
unfolding word_names lower_words
shown_words = refl

-- six digits, in three pairs
six : (a b c d e f : ℕ) (x y z : List ℕ) → x ≡ a ∷ b ∷ [] → y ≡ c ∷ d ∷ [] → z ≡ e ∷ f ∷ []
    → 35 ∷ a ∷ b ∷ c ∷ d ∷ e ∷ f ∷ [] ≡ 35 ∷ x ++ y ++ z
six a b c d e f x y z p q r = rw (p, q, r) refl

-- `#` and six lower-case digits are what their color is shown as
rgb-shown : (ds : List ℕ) → length ds ≡ 6 → AllByRecursion IsLowerHex ds
    → IsShown NameText name_shown (codes "#" ++ ds)
rgb-shown (a ∷ b ∷ c ∷ d ∷ e ∷ f ∷ []) l h = record {
  value = names.Rgb (16 * digit_value a + digit_value b) (16 * digit_value c + digit_value d)
      (16 * digit_value e + digit_value f);
  reads_to = NameText.pairs a b c d e f _ _ _ refl (pair_of a b h.0 h.1.0) (pair_of c d h.1.1.0 h.1.1.1.0)
      (pair_of e f h.1.1.1.1.0 h.1.1.1.1.1.0) refl;
  same = six a b c d e f _ _ _ (hex_pair-back a b h.0 h.1.0) (hex_pair-back c d h.1.1.0 h.1.1.1.0)
      (hex_pair-back e f h.1.1.1.1.0 h.1.1.1.1.1.0);
}
rgb-shown _ l h = absurd (omega (arith, l))

-- a canonical text is what its name is shown as
canonical-shown : (s : List ℕ) → CanonicalName s → IsShown NameText name_shown s
canonical-shown s (CanonicalName.word o) =
    let r : (n : Name) × OneOf word_names n × (s ≡ name_shown n) =
    OneOf-from_map name_shown word_names s (rw shown_words o) in
    record { value = r.0; reads_to = NameText.word r.1 (ap (map to_ascii_lowercase) r.2); same = r.2 }
canonical-shown s (CanonicalName.nought e) =
    let r = digits-of_nought in
    rw e record {
      value = names.Ansi 0;
      reads_to = NameText.palette (codes "0") 0 (inl refl) r.0 r.1 (lit≤ tt) refl;
      same = r.2;
    }
canonical-shown s (CanonicalName.palette d ds e h all small) =
    let small_sum : place_sum (d ∷ ds) 10 ≤ 255 = rw e at small in
    let r = digits-shown d ds h all small_sum in
    rw e record {
      value = names.Ansi (place_sum (d ∷ ds) 10);
      reads_to = NameText.palette (d ∷ ds) (place_sum (d ∷ ds) 10) (inl refl) r.0 refl small_sum refl;
      same = r.1;
    }
canonical-shown s (CanonicalName.rgb ds e l h) = rw e (rgb-shown ds l h)

pub name_canonical_reads : (t : List ℕ) → CanonicalName t → IsAccepted NameText t
name_canonical_reads = canonical_reads_by canonical-shown

pub name_one_text : (s t : List ℕ) (v : Name) → CanonicalName s → CanonicalName t → NameText s v
    → NameText t v → s ≡ t
name_one_text = one_text_by name_one_value canonical-shown

-- ---- shown texts

-- a name is one of the words, or has numbers
abbrev NameKind : Name → Type 0
NameKind v = OneOf word_names v ⊎ (((n : ℕ) × (v ≡ names.Ansi n)) ⊎ ((r g b : ℕ) × (v ≡ names.Rgb r g b)))

-- what is at a place of a list is an element of the list
one_at : (ns : List Name) (place : ℕ) (v : Name) → slice_get ns place ≡ Some v → OneOf ns v
one_at [] place v h = cc
one_at (n ∷ ns) zero v h = let same : n ≡ v = cc in inl (sym same)
one_at (n ∷ ns) (suc place) v h = inr (one_at ns place v h)

-- which of the three a name is
name_told : (v : Name) → NameKind v
unfolding word_names
name_told (names.Ansi n) = inr (inl (n, refl))
name_told (names.Rgb r g b) = inr (inr (r, g, b, refl))
name_told v = inl (one_at word_names (name_place v) v refl)

-- a name without numbers
abbrev is_word : Name → Bool
is_word (names.Ansi n) = false
is_word (names.Rgb r g b) = false
is_word _ = true

-- the words have no numbers
words-are : list_all is_word word_names ≡ true
unfolding word_names
words-are = refl

-- no word is longer than `LONGEST_NAME`
words-short : list_all (λ v. nat_le (length (name_shown v)) LONGEST_NAME) word_names ≡ true
unfolding word_names
words-short = refl

-- the name is shown as a canonical text that reads back to it and is no longer than the longest word
abbrev ShownWell : Name → Type 0
ShownWell v =
    NameText (name_shown v) v × CanonicalName (name_shown v) × (length (name_shown v) ≤ LONGEST_NAME)

-- `ShownWell` for a palette number
ansi-shown : (n : ℕ) → n ≤ 255 → ShownWell (names.Ansi n)
ansi-shown n small =
    let r = decimal_text n small in
    let size : length (decimal n) ≤ 3 = length-decimal-le 3 n (lit< tt) (omega arith) (omega arith) in (
      NameText.palette (decimal n) n (inl refl) r.0 r.1 small refl,
      decimal-canonical n small,
      omega (arith, size),
    )

-- the two digits of a byte are in lower case
hex_lower : (n : ℕ) (ds : List ℕ) → n ≤ 255 → AllByRecursion IsLowerHex ds
    → AllByRecursion IsLowerHex (hex_pair n ++ ds)
hex_lower n ds small all =
    ((shown_digit (n / 16) (omega arith)).0, ((shown_digit (n % 16) (omega arith)).0, all))

-- `ShownWell` for red, green and blue
rgb-shown_well : (r g b : ℕ) → r ≤ 255 → g ≤ 255 → b ≤ 255 → ShownWell (names.Rgb r g b)
rgb-shown_well r g b p q u = (
  NameText.pairs _ _ _ _ _ _ r g b refl (pair_shown r p) (pair_shown g q) (pair_shown b u) refl,
  CanonicalName.rgb (hex_pair r ++ hex_pair g ++ hex_pair b) refl refl
      (hex_lower r (hex_pair g ++ hex_pair b) p (hex_lower g (hex_pair b) q (hex_lower b [] u tt))),
  lit≤ tt,
)

-- `ShownWell` for each name whose numbers are bytes
shown-well : (v : Name) → NameFits v → ShownWell v
shown-well v fits = told (name_told v) fits where
  told : NameKind v → NameFits v → ShownWell v
  told (inl o) h = (
    NameText.word o refl,
    CanonicalName.word (rw (← shown_words) (OneOf-map name_shown word_names v o)),
    leb-true (length (name_shown v)) LONGEST_NAME
        (all-one (λ (w : Name). nat_le (length (name_shown w)) LONGEST_NAME) word_names v words-short o),
  )
  told (inr (inl (n, e))) h = rw e (ansi-shown n (rw e at h))
  told (inr (inr (r, g, b, e))) h =
      let k : NameFits (names.Rgb r g b) = rw e at h in rw e (rgb-shown_well r g b k.0 k.1 k.2)

-- a name is shown in no more bytes than the longest word
pub name_short : (v : Name) → NameFits v → length (name_shown v) ≤ LONGEST_NAME
name_short v h = (shown-well v h).2

-- a name without numbers has no number that is too large
word-fits : (v : Name) → is_word v ≡ true → NameFits v
word-fits (names.Ansi n) h = cc
word-fits (names.Rgb r g b) h = cc
word-fits _ h = tt

-- two hexadecimal digits write a byte
pair-small : (a b n : ℕ) → HexPair a b n → n ≤ 255
pair-small a b n h = omega (arith, h.high_digit, h.low_digit, h.number)

-- the numbers of a name that was read are bytes
pub name_fits : (t : List ℕ) (v : Name) → NameText t v → NameFits v
name_fits t v (NameText.word o s) = word-fits v (all-one is_word word_names v words-are o)
name_fits t v (NameText.minus_one e f) = rw f tt
name_fits t v (NameText.palette ds k s h sum small f) = rw f small
name_fits t v (NameText.pairs a b c d e f r g u is x y z w) =
    rw w (pair-small a b r x, pair-small c d g y, pair-small e f u z)
name_fits t v (NameText.doubled a c e r g u is x y z w) =
    rw w (pair-small a a r x, pair-small c c g y, pair-small e e u z)

-- a name that has a text is shown as its canonical text
pub name_shown_is_text : (v : Name) → HasText NameText v → IsTextOf NameText CanonicalName v (name_shown v)
name_shown_is_text v h =
    let s = shown-well v (name_fits h.0 v h.1) in
    record { canonical_text = s.1; reads_to = s.0; short = omega (arith, s.2) }

pub name_has_text : (v : Name) → NameFits v → HasText NameText v
name_has_text v fits = (name_shown v, (shown-well v fits).0)
