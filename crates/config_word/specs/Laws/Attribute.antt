-- The laws of `Value` for attributes, and how several attributes are shown.
use Rattle.std.proofs.Common.{◌≡◌, ℕ, zero, suc, ◌+◌, ◌*◌, ◌^◌, ◌<◌, ◌≤◌, ◌⊎◌, ◌↔◌, inl, inr, Bool, true}
use Rattle.std.proofs.Common.{false, List, [], ◌∷◌, ◌++◌, map, filter, flat_map, length, take}
use Rattle.std.proofs.Common.{drop, codes, refl, sym, ap, ◌∙◌, arith, lit≤, ◌==◌, nat_le, bit_and}
use Rattle.std.proofs.Common.{bytes_eq, IsTrue, None, slice_index_or}
use Rattle.std.proofs.Math.Bool.{or-true}
use Rattle.std.proofs.lemmas.Bool.{and_parts, cases_Bool, leb-true}
use Rattle.std.proofs.lemmas.Bool.Decides.{Decides-eqb, eqb_tells, nat_tests}
use Rattle.std.proofs.lemmas.Grind.{flat_map-append}
use Rattle.std.proofs.lemmas.List.{append-nil, length-append, map-append, take-append-drop}
use Rattle.std.proofs.lemmas.List.Elements.{filter-append}
use Rattle.std.proofs.lemmas.Nat.{pow_pos}
use Rattle.std.proofs.lemmas.Nat.Bits.{and_pow, bit_at-lt}
use Rattle.std.proofs.lemmas.Slice.Eq.{bytes_eq-Decides}
use Rattle.std.specs.Int.{bit_at}
use Rattle.std.specs.Int.RustNames.{bit_or}
use Rattle.std.specs.List.{join_with_byte, list_all, list_any}
use Rattle.config_word.specs.declared.attribute.Attribute.{Attribute}
use Rattle.config_word.specs.declared.attribute.Shown.{Shown}
use Rattle.config_word.specs.declared.attribute.TheConstants.{LONGEST_SET}
use Rattle.config_word.specs.Attribute.{AttributeRow, AttributeText, CanonicalAttribute, IsKnownBit}
use Rattle.config_word.specs.Attribute.{attribute_shown, attribute_words, attributes}
use Rattle.config_word.specs.Reading.Attribute.{remaining, shown_row, shown_rows, words_in}
use Rattle.config_text.specs.Bytes.{space}
use Rattle.config_text.specs.OneOf.{OneOf}
use Rattle.config_text.specs.Laws.OneOf.{all-one, OneOf-from_map, OneOf-map}
use Rattle.config_text.specs.Value.{IsAccepted, IsRefused, IsTextOf, HasText}
use Rattle.config_text.specs.Laws.Value.{IsShown, canonical_reads_by, decided_by, one_text_by, one_value_by}
use Rattle.config_word.specs.Laws.Item.{attribute-law, reset-known}

pub attribute_one_value : (t : List ℕ) (v w : Attribute) → AttributeText t v → AttributeText t w → v ≡ w
attribute_one_value = one_value_by attribute-law

pub attribute_decided : (t : List ℕ) → IsAccepted AttributeText t ⊎ IsRefused AttributeText t
attribute_decided = decided_by attribute-law

-- ---- one attribute

-- the set is one of the constants
abbrev IsConstant : Attribute → Type 0
IsConstant a = (row : AttributeRow) × OneOf attributes row × (a.0 ≡ 2 ^ row.1)

-- an attribute that has a text is a constant
text-constant : (t : List ℕ) (a : Attribute) → AttributeText t a → IsConstant a
text-constant t a (AttributeText.word row o h e) = (row, o, e)
text-constant t a (AttributeText.reset s e) = ((codes "RESET", 8, codes "reset", [], None), reset-known, e)

-- each constant is shown as its word
singles-shown : list_all (λ row. bytes_eq (attribute_shown (2 ^ row.1)) row.2) attributes ≡ true
unfolding attributes
singles-shown = refl

-- one constant is shown as its word
single-shown : (row : AttributeRow) → OneOf attributes row → attribute_shown (2 ^ row.1) ≡ row.2
single-shown row o =
    (bytes_eq-Decides (attribute_shown (2 ^ row.1)) row.2).0
    (all-one (λ (r : AttributeRow). bytes_eq (attribute_shown (2 ^ r.1)) r.2) attributes row singles-shown o)

-- a set that is a constant is shown as the word of the constant
constant-shown : (a : Attribute) (k : IsConstant a) → attribute_shown a.0 ≡ k.0.2
constant-shown a (row, o, e) = ap attribute_shown e ∙ single-shown row o

-- no word is longer than the longest set
words-short : list_all (λ row. nat_le (length row.2) LONGEST_SET) attributes ≡ true
unfolding attributes
words-short = refl

-- the word of a constant is a text of it
spelled-as : (row : AttributeRow) (s : List ℕ) → OneOf attributes row → s ≡ row.2
    → AttributeText s (record { 0 = 2 ^ row.1 })
spelled-as row s o e = AttributeText.word row o (inl e) refl

-- a canonical text is what its constant is shown as
canonical-shown : (s : List ℕ) → CanonicalAttribute s → IsShown AttributeText (λ a. attribute_shown a.0) s
canonical-shown s c =
    let r = OneOf-from_map (λ (r : AttributeRow). r.2) attributes s c in
    record {
      value = record { 0 = 2 ^ r.0.1 };
      reads_to = spelled-as r.0 s r.1 r.2;
      same = r.2 ∙ sym (single-shown r.0 r.1);
    }

pub attribute_canonical_reads : (t : List ℕ) → CanonicalAttribute t → IsAccepted AttributeText t
attribute_canonical_reads = canonical_reads_by canonical-shown

pub attribute_one_text : (s t : List ℕ) (v : Attribute) → CanonicalAttribute s → CanonicalAttribute t
    → AttributeText s v → AttributeText t v → s ≡ t
attribute_one_text = one_text_by attribute_one_value canonical-shown

-- an attribute that has a text is shown as its canonical text
pub attribute_shown_is_text : (v : Attribute) → HasText AttributeText v
    → IsTextOf AttributeText CanonicalAttribute v (attribute_shown v.0)
attribute_shown_is_text v h = told (text-constant h.0 v h.1) where
  told : IsConstant v → IsTextOf AttributeText CanonicalAttribute v (attribute_shown v.0)
  told (row, o, e) =
      let small = leb-true (length row.2) LONGEST_SET
      (all-one (λ (r : AttributeRow). nat_le (length r.2) LONGEST_SET) attributes row words-short o) in
      rw (constant-shown v (row, o, e)) (record {
        canonical_text = OneOf-map (λ (r : AttributeRow). r.2) attributes row o;
        reads_to = AttributeText.word row o (inl refl) e;
        short = omega arith;
      })

-- a set has a text exactly if only one bit is set and that bit is known
pub attribute_has_text : (a : Attribute)
    → (HasText AttributeText a) ↔ ((bit : ℕ) × IsKnownBit bit × (a.0 ≡ 2 ^ bit))
attribute_has_text a = (to, from) where
  to : HasText AttributeText a → (bit : ℕ) × IsKnownBit bit × (a.0 ≡ 2 ^ bit)
  to h = let k = text-constant h.0 a h.1 in
      (k.0.1, OneOf-map (λ (r : AttributeRow). r.1) attributes k.0 k.1, k.2)

  from : (bit : ℕ) × IsKnownBit bit × (a.0 ≡ 2 ^ bit) → HasText AttributeText a
  from (bit, known, e) =
      let r = OneOf-from_map (λ (x : AttributeRow). x.1) attributes bit known in
      (r.0.2, AttributeText.word r.0 r.1 (inl refl) (e ∙ ap (λ n. 2 ^ n) r.2))

-- ---- how several are shown

-- the union of the rows' bits
abbrev pub bits_of : List AttributeRow → ℕ
bits_of [] = 0
bits_of (row ∷ rows) = bit_or (2 ^ row.1) (bits_of rows)

-- words with a space before each
abbrev pub spaced : List (List ℕ) → List ℕ
spaced words = flat_map (λ w. space ∷ w) words

-- at the beginning, the words with a space between are left to write
pub join-remaining : (words : List (List ℕ)) → join_with_byte space words ≡ remaining true words
join-remaining [] = refl
join-remaining (w ∷ []) = sym (append-nil w)
join-remaining (w ∷ x ∷ xs) = ap (λ rest. w ++ space ∷ rest) (join-remaining (x ∷ xs))

-- if `b` is 0 or 1, `b` times a power of 2 is that power exactly if `b` is 1
bit_test-of : (k b : ℕ) → b < 2 → (b * 2 ^ k == 2 ^ k) ≡ (b == 1)
bit_test-of k zero h = let p = pow_pos k in grind (arith, nat_tests)
bit_test-of k (suc zero) h = let e : 1 * 2 ^ k ≡ 2 ^ k = omega arith in grind (arith, nat_tests)
bit_test-of k (suc (suc b)) h = absurd (omega arith)

-- the test that the code makes is true exactly if the bit is set
pub bit_test : (bits k : ℕ) → (bit_and bits (2 ^ k) == 2 ^ k) ≡ (bit_at bits k == 1)
bit_test bits k = ap (λ n. n == 2 ^ k) (and_pow bits k) ∙ bit_test-of k (bit_at bits k) (bit_at-lt bits k)

-- the words that the code writes are those of the bits that are set
words_in-rows : (bits : ℕ) (rows : List AttributeRow)
    → words_in bits (map (λ row. (2 ^ row.1, row.2)) rows)
    ≡ map (λ row. row.2) (filter (λ row. bit_at bits row.1 == 1) rows)
words_in-rows bits [] = refl
words_in-rows bits (row ∷ rows) =
    let rest = words_in-rows bits rows in
    rw (bit_test bits row.1) (elim (cases_Bool (bit_at bits row.1 == 1)) [
      | inl e ↦ rw e (ap (λ ws. row.2 ∷ ws) rest)
      | inr e ↦ rw e rest
    ])

-- the words that the code writes are those that are shown
pub words_in-shown : (bits : ℕ) → words_in bits shown_rows ≡ attribute_words bits
words_in-shown bits = words_in-rows bits attributes

-- at the beginning, the whole shown text is left to write
pub shown-remaining : (bits : ℕ) → attribute_shown bits ≡ remaining true (words_in bits shown_rows)
shown-remaining bits = join-remaining (attribute_words bits) ∙ ap (remaining true) (sym (words_in-shown bits))

-- the words of two lists of rows are those of the first, then those of the second
words_in-append : (bits : ℕ) (xs ys : List (ℕ × List ℕ))
    → words_in bits (xs ++ ys) ≡ words_in bits xs ++ words_in bits ys
words_in-append bits xs ys = rw (filter-append, map-append)

-- the words of the first rows and of the others are those that are shown
pub both_parts : (bits n : ℕ) (rows front back : List Shown) → map shown_row rows ≡ shown_rows
    → front ≡ take n rows → back ≡ drop n rows
    → remaining true (words_in bits (map shown_row front) ++ words_in bits (map shown_row back))
    ≡ attribute_shown bits
both_parts bits n rows front back h f b =
    rw (
      ← (words_in-append bits (map shown_row front) (map shown_row back)),
      ← (map-append shown_row front back),
      f,
      b,
      take-append-drop,
      h,
    ) (sym (shown-remaining bits))

-- words have no more bytes than the same words with further ones
pub remaining-prefix : (begins : Bool) (xs ys : List (List ℕ))
    → length (remaining begins xs) ≤ length (remaining begins (xs ++ ys))
remaining-prefix true [] ys = omega arith
remaining-prefix true (x ∷ xs) ys =
    let longer = remaining-prefix false xs ys in
    simp length-append (omega (arith, longer))
remaining-prefix false xs ys =
    let whole = ap length (flat_map-append (λ w. space ∷ w) xs ys) ∙ length-append (spaced xs) (spaced ys) in
    omega (arith, whole)

-- without words, nothing is left to write
pub remaining-none : (begins : Bool) → remaining begins [] ≡ []
remaining-none true = refl
remaining-none false = refl

-- some of the words have no more bytes than all of them
spaced-filter : (p : AttributeRow → Bool) (rows : List AttributeRow)
    → length (spaced (map (λ (r : AttributeRow). r.2) (filter p rows)))
    ≤ length (spaced (map (λ (r : AttributeRow). r.2) rows))
spaced-filter p [] = lit≤ tt
spaced-filter p (row ∷ rows) =
    let rest = spaced-filter p rows in
    elim (cases_Bool (p row)) [
      | inl e ↦ rw e (simp length-append (omega arith))
      | inr e ↦ rw e (simp length-append (omega arith))
    ]

-- the number of bytes of all words, with a space before each
spaced-all : length (spaced (map (λ row. row.2) attributes)) ≡ LONGEST_SET + 1
unfolding attributes
spaced-all = refl

-- the first word has no space before it
remaining-short : (words : List (List ℕ)) (n : ℕ) → length (spaced words) ≤ n + 1
    → length (remaining true words) ≤ n
remaining-short [] n h = omega arith
remaining-short (w ∷ ws) n h =
    let p = length-append (space ∷ w) (spaced ws) in
    simp length-append (omega arith)

-- a set is shown in no more bytes than all attributes
pub attribute_short : (bits : ℕ) → length (attribute_shown bits) ≤ LONGEST_SET
attribute_short bits =
    let all = spaced-all in
    let few = spaced-filter (λ row. bit_at bits row.1 == 1) attributes in
    let r = remaining-short (attribute_words bits) LONGEST_SET (omega arith) in
    rw (join-remaining (attribute_words bits)) r

-- ---- the test that the code makes

-- a set that passes the test of some row is the constant of that row
any-one : (bits : ℕ) (rows : List AttributeRow)
    → list_any (λ (row : ℕ × List ℕ). row.0 == bits) (map (λ (row : AttributeRow). (2 ^ row.1, row.2)) rows)
    ≡ true
    → (row : AttributeRow) × OneOf rows row × (bits ≡ 2 ^ row.1)
any-one bits [] h = cc
any-one bits (row ∷ rows) h =
    elim (eqb_tells (2 ^ row.1) bits) [
      | inl e ↦ (row, inl refl, sym e.1)
      | inr n ↦ let r = any-one bits rows (rw n.0 at h) in (r.0, inr r.1, r.2)
    ]

-- a constant passes the test of its row
one-any : (bits : ℕ) (rows : List AttributeRow) (row : AttributeRow) → OneOf rows row → bits ≡ 2 ^ row.1
    → list_any (λ (row : ℕ × List ℕ). row.0 == bits) (map (λ (row : AttributeRow). (2 ^ row.1, row.2)) rows)
    ≡ true
one-any bits [] row o e = absurd o
one-any bits (first ∷ rows) row (inl f) e =
    let same : 2 ^ first.1 ≡ bits = ap (λ (r : AttributeRow). 2 ^ r.1) (sym f) ∙ sym e in
    rw ((Decides-eqb (2 ^ first.1) bits).1 same) refl
one-any bits (first ∷ rows) row (inr o) e = rw (one-any bits rows row o e) (or-true (2 ^ first.1 == bits))

-- a set is one of the constants exactly if it has a text
pub constant_told : (a : Attribute)
    → IsTrue (list_any (λ (row : ℕ × List ℕ). row.0 == a.0) shown_rows) ↔ (HasText AttributeText a)
constant_told a = (to, from) where
  to : IsTrue (list_any (λ (row : ℕ × List ℕ). row.0 == a.0) shown_rows) → HasText AttributeText a
  to h = let r = any-one a.0 attributes h in (r.0.2, AttributeText.word r.0 r.1 (inl refl) r.2)

  from : HasText AttributeText a → IsTrue (list_any (λ (row : ℕ × List ℕ). row.0 == a.0) shown_rows)
  from h = let k = text-constant h.0 a h.1 in one-any a.0 attributes k.0 k.1 k.2

-- ---- the word of one row

-- whether the value of a row is shown as its word
abbrev pub is_shown : ℕ × List ℕ → Bool
is_shown row = bytes_eq (attribute_shown row.0) row.1

-- the value of each row is shown as its word
pub rows-shown : list_all is_shown shown_rows ≡ true
unfolding attributes
rows-shown = refl

-- if the value of each row from place `i` on is shown as its word, so is the value of the row at this place
pub row-shown : (rows : List Shown) (i : ℕ) (d : Shown) (bits : ℕ) → i < length rows
    → list_all is_shown (map shown_row (drop i rows)) ≡ true → (slice_index_or rows i d).attribute.0 ≡ bits
    → (slice_index_or rows i d).word.now ≡ attribute_shown bits
row-shown [] i d bits l h e = absurd (omega arith)
row-shown (row ∷ rows) zero d bits l h e =
    let k = and_parts (is_shown (shown_row row)) (list_all is_shown (map shown_row rows)) h in
    sym ((bytes_eq-Decides (attribute_shown row.attribute.0) row.word.now).0 k.0) ∙ ap attribute_shown e
row-shown (row ∷ rows) (suc i) d bits l h e = row-shown rows i d bits (omega arith) h e
