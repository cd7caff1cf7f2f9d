-- The laws of `Value` for colors: each canonical text has a color, a color has at most one canonical text,
-- and it is the text that the color is shown as.
use Rattle.std.proofs.Common.{◌≡◌, ◌≢◌, ℕ, zero, suc, ◌+◌, ◌^◌, ◌<◌, ◌≤◌, ◌↔◌, ◌⊎◌, inl, inr, ◌&&◌, Bool}
use Rattle.std.proofs.Common.{true, false, ◌==◌, List, [], ◌∷◌, ◌++◌, length, map, filter, Option, Some, None}
use Rattle.std.proofs.Common.{bit_and, refl, sym, ap, ◌∙◌, length-append, arith}
use Rattle.std.specs.Bool.{⊤, IsTrue}
use Rattle.std.specs.Option.{option_eq, is_some}
use Rattle.std.specs.Prelude.{not}
use Rattle.bitflags.specs.Sets.{known_bits as known_bits_of, known_from}
use Rattle.std.specs.Int.{bit_at}
use Rattle.std.specs.Int.RustNames.{bit_or}
use Rattle.std.specs.Int.Bits.{or_zero_l}
use Rattle.std.specs.List.{AllByRecursion, join_with_byte}
use Rattle.std.proofs.lemmas.List.{append-nil, length-map}
use Rattle.std.proofs.lemmas.Bool.{and_from, and_parts}
use Rattle.std.proofs.lemmas.List.Folds.{list_all-append}
use Rattle.std.proofs.lemmas.Nat.{and_comm}
use Rattle.std.proofs.lemmas.Bool.Decides.{Decides-eqb, eqb_tells}
use Rattle.std.proofs.lemmas.Nat.Bits.{and_pow, bit_at_or, bit_at_and, bit_at-lt, bit_at-zero}
use Rattle.std.proofs.lemmas.Nat.Bits.{bit_at-pow_same, bit_at-pow_other, same_from_bits}
use Rattle.config_color.specs.declared.color.Color.{Color}
use Rattle.config_word.specs.declared.attribute.Attribute.{Attribute}
use Rattle.config_word.specs.declared.name.Name.{Name}
use Rattle.config_word.specs.Attribute.{AttributeRow, attributes, attribute_flags, AttributeText}
use Rattle.config_word.specs.Attribute.{attribute_words, shown_word}
use Rattle.config_color.specs.Color.{WordsRead, Placed, ColorText, part_shown, set_shown, color_shown, Chosen}
use Rattle.config_color.specs.Color.{CanonicalColor, PartFits, AreKnown}
use Rattle.config_color.specs.Laws.Color.{text_read, WordsRead-join, Placed-short, placing, same_color}
use Rattle.config_color.specs.Laws.Color.{color_one_value, color_with}
use Rattle.config_text.specs.Bytes.{space}
use Rattle.config_text.specs.declared.value.TheConstants.{LONGEST_TEXT}
use Rattle.config_word.specs.declared.attribute.TheConstants.{LONGEST_SET}
use Rattle.config_word.specs.declared.name.TheConstants.{LONGEST_NAME}
use Rattle.config_word.specs.Laws.Attribute.{attribute_short, bits_of}
use Rattle.config_color.specs.Laws.Composition.{background_beside, some_none}
use Rattle.config_word.specs.Name.{NameText, CanonicalName, name_shown}
use Rattle.config_word.specs.Laws.Name.{name_canonical_reads, name_one_text, name_short, name_fits}
use Rattle.config_word.specs.Laws.Name.{name_shown_is_text, name_has_text}
use Rattle.config_text.specs.OneOf.{OneOf}
use Rattle.config_text.specs.Laws.OneOf.{all-one}
use Rattle.config_text.specs.Laws.Value.{IsShown, canonical_reads_by, one_text_by}
use Rattle.config_color.specs.Laws.PlainWords.{is_plain_word, words_spaced, chosen_plain, names_plain}
use Rattle.config_text.specs.Value.{IsAccepted, HasText, IsTextOf}
use Rattle.config_color.specs.Reading.Split.{words}

-- the words of the rows whose bits are set
abbrev pub set_words : ℕ → List AttributeRow → List (List ℕ)
set_words bits rows = map (λ row. row.2) (filter (λ row. bit_at bits row.1 == 1) rows)

-- each row's word is a text of its bit
abbrev pub AreRead : List AttributeRow → Type 0
AreRead [] = ⊤
AreRead (row ∷ rows) = AttributeText row.2 (record { 0 = 2 ^ row.1 }) × AreRead rows

-- the rows' bits rise, and the first is at least `low`
abbrev pub Rise : ℕ → List AttributeRow → Type 0
Rise low [] = ⊤
Rise low (row ∷ rows) = (low ≤ row.1) × Rise (row.1 + 1) rows

and_or : (a b m : ℕ) → bit_and (bit_or a b) m ≡ bit_or (bit_and a m) (bit_and b m)
and_or a b m = same_from_bits _ _ (λ i. simp (bit_at_or, bit_at_and) (omega arith))

or_and : (m a b : ℕ) → bit_and m (bit_or a b) ≡ bit_or (bit_and m a) (bit_and m b)
or_and m a b = same_from_bits _ _ (λ i. simp (bit_at_or, bit_at_and) (omega arith))

-- a bit is set or it is not
pub bit_told : (n i : ℕ) → (bit_at n i ≡ 1) ⊎ (bit_at n i ≡ 0)
bit_told n i = let l = bit_at-lt n i in grind arith

and_zero : (n : ℕ) → bit_and n 0 ≡ 0
and_zero n = same_from_bits _ _ (λ i. simp (bit_at_and, bit_at-zero) (omega arith))

-- the words of the set bits are read as those bits
set_words_read : (rows : List AttributeRow) (bits : ℕ) → AreRead rows
    → WordsRead (set_words bits rows) [] (bit_and bits (bits_of rows))
set_words_read [] bits h = rw and_zero WordsRead.nothing
set_words_read (row ∷ rows) bits h =
    elim (bit_told bits row.1) [
      | inl e ↦
          let one : bit_and bits (2 ^ row.1) ≡ 2 ^ row.1 = and_pow bits row.1 ∙ rw e (omega arith) in
          rw (e, or_and, one) (WordsRead.attribute h.0 (set_words_read rows bits h.1))
      | inr e ↦
          let none : bit_and bits (2 ^ row.1) ≡ 0 = and_pow bits row.1 ∙ rw e (omega arith) in
          rw (e, or_and, none, or_zero_l (bit_and bits (bits_of rows))) (set_words_read rows bits h.1)
    ]

chosen_more : (row : List ℕ) (rows ws : List (List ℕ)) → Chosen rows ws → Chosen (row ∷ rows) ws
chosen_more row rows [] h = tt
chosen_more row rows (w ∷ ws) h = inr h

-- the words of the set bits are some of the rows' words
set_words_chosen : (rows : List AttributeRow) (bits : ℕ)
    → Chosen (map (λ row. row.2) rows) (set_words bits rows)
set_words_chosen [] bits = tt
set_words_chosen (row ∷ rows) bits =
    elim (bit_told bits row.1) [
      | inl e ↦ rw e (inl (refl, set_words_chosen rows bits))
      | inr e ↦ rw e (chosen_more row.2 (map (λ row. row.2) rows) (set_words bits rows)
          (set_words_chosen rows bits))
    ]

set_words_zero : (rows : List AttributeRow) → set_words 0 rows ≡ []
set_words_zero [] = refl
set_words_zero (row ∷ rows) = rw (bit_at-zero row.1) (set_words_zero rows)

-- numbers whose bits agree from `low` on have the same words
set_words_same : (low : ℕ) (rows : List AttributeRow) (a b : ℕ) → Rise low rows
    → ((i : ℕ) → low ≤ i → bit_at a i ≡ bit_at b i)
    → set_words a rows ≡ set_words b rows
set_words_same low [] a b r h = refl
set_words_same low (row ∷ rows) a b r h =
    let more = set_words_same (row.1 + 1) rows a b r.1 (λ i l. h i (omega arith)) in
    elim (bit_told b row.1) [
      | inl e ↦ rw (h row.1 r.0 ∙ e, e) (ap (λ ws. row.2 ∷ ws) more)
      | inr e ↦ rw (h row.1 r.0 ∙ e, e) more
    ]

-- chosen words are read as bits from `low` on, and are the words of these bits
pub record ChosenRead (low : ℕ) (rows : List AttributeRow) (ws : List (List ℕ)) : Type 0 where
  pub bits : ℕ
  pub read : WordsRead ws [] bits
  pub shown : ws ≡ set_words bits rows
  pub above : (i : ℕ) → i < low → bit_at bits i ≡ 0

chosen_read : (rows : List AttributeRow) (low : ℕ) (ws : List (List ℕ)) → Rise low rows → AreRead rows
    → Chosen (map (λ row. row.2) rows) ws
    → ChosenRead low rows ws
chosen_read rows low [] r h c =
    record {
      bits = 0;
      read = WordsRead.nothing;
      shown = sym (set_words_zero rows);
      above = λ i l. bit_at-zero i;
    }
chosen_read [] low (w ∷ ws) r h c = absurd c
chosen_read (row ∷ rows) low (w ∷ ws) r h (inl c) =
    let more = chosen_read rows (row.1 + 1) ws r.1 h.1 c.1 in
    let bits = bit_or (2 ^ row.1) more.bits in
    let others : (i : ℕ) → i ≢ row.1 → bit_at bits i ≡ bit_at more.bits i =
    λ i other. bit_at_or (2 ^ row.1) more.bits i ∙ rw bit_at-pow_other (omega arith) in
    let set : bit_at bits row.1 ≡ 1 = bit_at_or (2 ^ row.1) more.bits row.1
    ∙ rw (bit_at-pow_same row.1) (omega (arith, bit_at-lt more.bits row.1)) in
    let same = set_words_same (row.1 + 1) rows bits more.bits r.1 (λ i l. others i (omega arith)) in
    record {
      bits = bits;
      read = WordsRead.attribute (rw c.0 h.0) more.read;
      shown = rw (set, same) (cc (c.0, more.shown));
      above = λ i l. others i (omega arith) ∙ more.above i (omega arith);
    }
chosen_read (row ∷ rows) low (w ∷ ws) r h (inr c) =
    let more = chosen_read rows (row.1 + 1) (w ∷ ws) r.1 h.1 c in
    record {
      bits = more.bits;
      read = more.read;
      shown = rw (more.above row.1 (omega arith)) more.shown;
      above = λ i l. more.above i (omega arith);
    }

are_read : (rows : List AttributeRow) → ((row : AttributeRow) → OneOf rows row → OneOf attributes row)
    → AreRead rows
are_read [] f = tt
are_read (row ∷ rows) f =
    (AttributeText.word row (f row (inl refl)) (inl refl) refl, are_read rows (λ r o. f r (inr o)))

attributes_read : AreRead attributes
attributes_read = are_read attributes (λ row o. o)

attributes_rise : Rise 0 attributes
unfolding attributes
attributes_rise = omega arith

-- the bits of the rows are those that are set in their union
row_bit : (rows : List AttributeRow) (i : ℕ) → OneOf (map (λ row. row.1) rows) i → bit_at (bits_of rows) i ≡ 1
row_bit [] i o = absurd o
row_bit (row ∷ rows) i (inl e) =
    rw e (bit_at_or (2 ^ row.1) (bits_of rows) row.1
    ∙ rw (bit_at-pow_same row.1) (omega (arith, bit_at-lt (bits_of rows) row.1)))
row_bit (row ∷ rows) i (inr o) =
    bit_at_or (2 ^ row.1) (bits_of rows) i ∙ rw (row_bit rows i o) (omega (arith, bit_at-lt (2 ^ row.1) i))

bit_row : (rows : List AttributeRow) (i : ℕ) → bit_at (bits_of rows) i ≡ 1 → OneOf (map (λ row. row.1) rows) i
bit_row [] i h = absurd (omega (arith, bit_at-zero i))
bit_row (row ∷ rows) i h =
    elim (eqb_tells i row.1) [
      | inl e ↦ inl e.1
      | inr n ↦ inr (bit_row rows i
          (omega (arith, h, bit_at_or (2 ^ row.1) (bits_of rows) i, bit_at-pow_other row.1 i n.1)))
    ]

-- the set has no bits except those of the constants
abbrev IsMasked : ℕ → Type 0
IsMasked bits = bit_and bits (bits_of attributes) ≡ bits

-- a set whose bits are all known has no bits except those of the constants
known_mask : (bits : ℕ) → AreKnown bits → IsMasked bits
known_mask bits known = same_from_bits _ _ (λ i. bit_at_and bits (bits_of attributes) i
    ∙ elim (bit_told bits i) [
      | inl e ↦ rw (e, row_bit attributes i (known i e)) refl
      | inr e ↦ rw e (omega arith)
    ])

mask_known : (bits : ℕ) → IsMasked bits → AreKnown bits
mask_known bits h = λ i e.
    let masked : bit_at (bit_and bits (bits_of attributes)) i ≡ bit_at bits i = ap (λ n. bit_at n i) h in
    let both = bit_at_and bits (bits_of attributes) i in
    bit_row attributes i (omega (arith, masked, e, both, bit_at-lt (bits_of attributes) i))

-- words that are chosen from the canonical ones are read
rising_read : (ws : List (List ℕ)) → Chosen (map shown_word attributes) ws → ChosenRead 0 attributes ws
rising_read ws c = chosen_read attributes 0 ws attributes_rise attributes_read c

attribute_words_chosen : (bits : ℕ) → Chosen (map shown_word attributes) (attribute_words bits)
attribute_words_chosen bits = set_words_chosen attributes bits

attribute_words_read : (bits : ℕ) → IsMasked bits → WordsRead (attribute_words bits) [] bits
attribute_words_read bits e = rw e at (set_words_read attributes bits attributes_read)

attribute_known : (w : List ℕ) (a : Attribute) → AttributeText w a → IsMasked a.0
unfolding attributes
attribute_known w a (AttributeText.word row o p e) =
    let mask : ℕ = bits_of attributes in
    rw e ((Decides-eqb (bit_and (2 ^ row.1) mask) (2 ^ row.1)).0
    (all-one (λ (row : AttributeRow). bit_and (2 ^ row.1) mask == 2 ^ row.1) attributes row refl o))
attribute_known w a (AttributeText.reset p e) = rw e refl

-- words are read as bits that are all known
WordsRead-known : {ws : List (List ℕ)} {ns : List Name} {bits : ℕ} → WordsRead ws ns bits → IsMasked bits
WordsRead-known WordsRead.nothing = refl
WordsRead-known (WordsRead.name t r) = WordsRead-known r
WordsRead-known (WordsRead.attribute {w = w} {a = a} t r) =
    rw (and_or, attribute_known w a t, WordsRead-known r)

-- each of the names has a text
abbrev HaveTexts : List Name → Type 0
HaveTexts ns = AllByRecursion (HasText NameText) ns

-- words are read as names that all have texts
names_have_texts : {ws : List (List ℕ)} {ns : List Name} {bits : ℕ} → WordsRead ws ns bits → HaveTexts ns
names_have_texts WordsRead.nothing = tt
names_have_texts (WordsRead.name {w = w} t r) = ((w, t), names_have_texts r)
names_have_texts (WordsRead.attribute t r) = names_have_texts r

-- the shown texts of names are read as the names
names_read : (ns : List Name) → HaveTexts ns → WordsRead (map name_shown ns) ns 0
names_read [] h = WordsRead.nothing
names_read (n ∷ ns) h = WordsRead.name (name_shown_is_text n h.0).reads_to (names_read ns h.1)

names_canonical : (ns : List Name) → HaveTexts ns → AllByRecursion CanonicalName (map name_shown ns)
names_canonical [] h = tt
names_canonical (n ∷ ns) h = ((name_shown_is_text n h.0).canonical_text, names_canonical ns h.1)

-- the texts are what some names are shown as, and are read as these names
pub record NamesRead (ts : List (List ℕ)) : Type 0 where
  pub names : List Name
  pub read : WordsRead ts names 0
  pub shown : ts ≡ map name_shown names
  pub as_many : length names ≡ length ts

canonical_names_read : (ts : List (List ℕ)) → AllByRecursion CanonicalName ts → NamesRead ts
canonical_names_read [] h = record { names = []; read = WordsRead.nothing; shown = refl; as_many = refl }
canonical_names_read (t ∷ ts) h =
    let (n, p) = name_canonical_reads t h.0 in
    let more = canonical_names_read ts h.1 in
    let text = name_shown_is_text n (t, p) in
    record {
      names = n ∷ more.names;
      read = WordsRead.name p more.read;
      shown = cc (name_one_text t (name_shown n) n h.0 text.canonical_text p text.reads_to, more.shown);
      as_many = ap suc more.as_many;
    }

-- texts of names and then words of attributes are read as the names and the bits of the attributes
names_and_words : (ts ws : List (List ℕ)) (ns : List Name) (bits : ℕ) → WordsRead ts ns 0
    → WordsRead ws [] bits
    → WordsRead (ts ++ ws) ns bits
names_and_words ts ws ns bits r s = rw (append-nil, or_zero_l) at (WordsRead-join r s)

-- canonical names and then words of attributes are the words of the text that joins them by spaces
words_of_parts : (ts ws : List (List ℕ)) → AllByRecursion CanonicalName ts → Chosen (map shown_word attributes) ws
    → words (join_with_byte space (ts ++ ws)) ≡ ts ++ ws
words_of_parts ts ws named chosen =
    words_spaced (ts ++ ws)
    (list_all-append is_plain_word ts ws ∙ and_from _ _ (names_plain ts named) (chosen_plain ws chosen))

-- ---- the text that a color is shown as

-- joining words to others that are joined already is the same as joining all of them
join_last : (xs : List (List ℕ)) (y : List ℕ) (ys : List (List ℕ))
    → join_with_byte space (xs ++ join_with_byte space (y ∷ ys) ∷ []) ≡ join_with_byte space (xs ++ y ∷ ys)
join_last [] y ys = refl
join_last (x ∷ []) y ys = refl
join_last (x ∷ z ∷ xs) y ys = ap (λ t. x ++ space ∷ t) (join_last (z ∷ xs) y ys)

-- the shown foreground and background are what the names are shown as
parts_named : (ns : List Name) (f b : Option Name) → Placed ns f b
    → part_shown f ++ part_shown b ≡ map name_shown ns
parts_named (n ∷ m ∷ o ∷ ns) f b p = absurd p
parts_named ns f b p = rw (p.0, p.1) refl

no_words_no_bits : {ns : List Name} {bits : ℕ} → WordsRead [] ns bits → bits ≡ 0
no_words_no_bits WordsRead.nothing = refl

join_set : (xs : List (List ℕ)) (bits : ℕ) → IsMasked bits
    → join_with_byte space (xs ++ set_shown bits) ≡ join_with_byte space (xs ++ attribute_words bits)
join_set xs zero e = ap (λ ws. join_with_byte space (xs ++ ws)) (sym (set_words_zero attributes))
join_set xs (suc n) e = some (attribute_words (suc n)) refl where
  some : (ws : List (List ℕ)) → attribute_words (suc n) ≡ ws
      → join_with_byte space (xs ++ join_with_byte space (attribute_words (suc n)) ∷ [])
      ≡ join_with_byte space (xs ++ attribute_words (suc n))
  some [] k = absurd (omega (arith, no_words_no_bits (rw k at (attribute_words_read (suc n) e))))
  some (y ∷ ys) k = rw k (join_last xs y ys)

-- a color is shown as its names and the words of its attributes, with a space between
shown_spaced : (c : Color) (ns : List Name) → Placed ns c.foreground c.background → IsMasked c.attributes.0
    → color_shown c ≡ join_with_byte space (map name_shown ns ++ attribute_words c.attributes.0)
shown_spaced c ns placed e =
    join_set (part_shown c.foreground ++ part_shown c.background) c.attributes.0 e
    ∙ ap (λ xs. join_with_byte space (xs ++ attribute_words c.attributes.0))
    (parts_named ns c.foreground c.background placed)

-- a canonical text has a color, and is what this color is shown as
canonical_shown : (t : List ℕ) → CanonicalColor t → IsShown ColorText color_shown t
canonical_shown t h =
    let n = canonical_names_read h.names h.named in
    let w = rising_read h.words h.chosen in
    let (f, b, p) = placing n.names (omega (arith, n.as_many, h.at_most_two)) in
    let joined = names_and_words h.names h.words n.names w.bits n.read w.read in
    let shown = shown_spaced (color_with f b w.bits) n.names p (WordsRead-known joined) in
    let spelled = ap words h.spelled ∙ words_of_parts h.names h.words h.named h.chosen in
    record {
      value = color_with f b w.bits;
      reads_to = record { names = n.names; read = text_read t (rw spelled joined); placed = p };
      same = cc (h.spelled, n.shown, w.shown, shown);
    }

pub color_canonical_reads : (t : List ℕ) → CanonicalColor t → IsAccepted ColorText t
color_canonical_reads = canonical_reads_by canonical_shown

pub color_one_text : (s t : List ℕ) (v : Color) → CanonicalColor s → CanonicalColor t → ColorText s v
    → ColorText t v → s ≡ t
color_one_text = one_text_by color_one_value canonical_shown

-- ---- its length

-- the number of bytes of words, with one more for each word
abbrev weight : List (List ℕ) → ℕ
weight [] = 0
weight (w ∷ ws) = length w + 1 + weight ws

spaced_weight : (w : List ℕ) (ws : List (List ℕ))
    → length (join_with_byte space (w ∷ ws)) + 1 ≡ weight (w ∷ ws)
spaced_weight w [] = omega arith
spaced_weight w (v ∷ ws) =
    omega (arith, length-append w (space ∷ join_with_byte space (v ∷ ws)), spaced_weight v ws)

spaced_short : (ws : List (List ℕ)) (n : ℕ) → weight ws ≤ n + 1 → length (join_with_byte space ws) ≤ n
spaced_short [] n l = omega arith
spaced_short (w ∷ ws) n l = omega (arith, spaced_weight w ws)

weight-append : (xs ys : List (List ℕ)) → weight (xs ++ ys) ≡ weight xs + weight ys
weight-append [] ys = omega arith
weight-append (x ∷ xs) ys = omega (arith, weight-append xs ys)

part_weight : (o : Option Name) → PartFits o → weight (part_shown o) ≤ LONGEST_NAME + 1
part_weight None h = omega arith
part_weight (Some n) h = omega (arith, name_short n h)

set_weight : (bits : ℕ) → weight (set_shown bits) ≤ LONGEST_SET + 1
set_weight zero = omega arith
set_weight (suc n) = omega (arith, attribute_short (suc n))

-- no color is longer than two of the longest names and the longest set, with a space between
color_short : (c : Color) → PartFits c.foreground → PartFits c.background
    → length (color_shown c) ≤ LONGEST_TEXT
color_short c f b =
    let names = part_shown c.foreground ++ part_shown c.background in
    spaced_short (names ++ set_shown c.attributes.0) LONGEST_TEXT (omega (
      arith,
      weight-append names (set_shown c.attributes.0),
      weight-append (part_shown c.foreground) (part_shown c.background),
      part_weight c.foreground f,
      part_weight c.background b,
      set_weight c.attributes.0,
    ))

-- ---- the laws

-- the numbers of names that have texts are bytes
texts_fit : (ns : List Name) (f b : Option Name) → HaveTexts ns → Placed ns f b → PartFits f × PartFits b
texts_fit [] f b h p = rw (p.0, p.1) (tt, tt)
texts_fit (n ∷ []) f b h p = rw (p.0, p.1) (name_fits h.0.0 n h.0.1, tt)
texts_fit (n ∷ m ∷ []) f b h p = rw (p.0, p.1) (name_fits h.0.0 n h.0.1, name_fits h.1.0.0 m h.1.0.1)
texts_fit (n ∷ m ∷ o ∷ ns) f b h p = absurd p

-- a color is shown as its canonical text if its names have texts and its bits are known
shown_is_text : (c : Color) (ns : List Name) → Placed ns c.foreground c.background → HaveTexts ns
    → IsMasked c.attributes.0
    → IsTextOf ColorText CanonicalColor c (color_shown c)
shown_is_text c ns placed texts e =
    let spelled = shown_spaced c ns placed e in
    let named = names_canonical ns texts in
    let chosen = attribute_words_chosen c.attributes.0 in
    let shown_words = ap words spelled ∙ words_of_parts _ _ named chosen in
    let fit = texts_fit ns c.foreground c.background texts placed in
    let read = names_and_words _ _ ns c.attributes.0 (names_read ns texts)
    (attribute_words_read c.attributes.0 e) in
    record {
      canonical_text = record {
        names = map name_shown ns;
        words = attribute_words c.attributes.0;
        at_most_two =
            omega (arith, length-map ns name_shown, Placed-short ns c.foreground c.background placed);
        named = named;
        chosen = chosen;
        spelled = spelled;
      };
      reads_to = record { names = ns; read = text_read _ (rw shown_words read); placed = placed };
      short = color_short c fit.0 fit.1;
    }

pub color_shown_is_text : (c : Color) → HasText ColorText c
    → IsTextOf ColorText CanonicalColor c (color_shown c)
color_shown_is_text c (t, h) =
    shown_is_text c h.names h.placed (names_have_texts h.read.read) (WordsRead-known h.read.read)

-- the numbers of a color that was read are bytes
pub parts_fit : (t : List ℕ) (c : Color) → ColorText t c → PartFits c.foreground × PartFits c.background
parts_fit t c h =
    texts_fit h.names c.foreground c.background (names_have_texts h.read.read) h.placed

-- a color has a text exactly if its set bits are known and it has no background without a foreground
pub color_has_text : (c : Color) → PartFits c.foreground → PartFits c.background
    → (HasText ColorText c) ↔ (AreKnown c.attributes.0 × (c.foreground ≡ None → c.background ≡ None))
color_has_text c f b = (
  λ h. (mask_known c.attributes.0 (WordsRead-known h.1.read.read), background_beside h.0 c h.1),
  λ k. told c.foreground c.background f b refl refl k.1 (known_mask c.attributes.0 k.0),
) where
  text : (ns : List Name) → Placed ns c.foreground c.background → HaveTexts ns → IsMasked c.attributes.0
      → HasText ColorText c
  text ns placed texts e = (color_shown c, (shown_is_text c ns placed texts e).reads_to)

  told : (g d : Option Name) → PartFits g → PartFits d → c.foreground ≡ g → c.background ≡ d
      → (c.foreground ≡ None → c.background ≡ None) → IsMasked c.attributes.0 → HasText ColorText c
  told None None p q e h beside masked = text [] (e, h) tt masked
  told None (Some m) p q e h beside masked = cc (beside e, h)
  told (Some n) None p q e h beside masked = text (n ∷ []) (e, h) (name_has_text n p, tt) masked
  told (Some n) (Some m) p q e h beside masked =
      text (n ∷ m ∷ []) (e, h) (name_has_text n p, (name_has_text m q, tt)) masked

-- ---- tests that the code makes

-- whether the parts of two colors are the same, in the order in which `==` compares them
abbrev pub same_parts : (Name → Name → Bool) → Color → Color → Bool
same_parts E v w =
    option_eq E v.foreground w.foreground
    && (option_eq E v.background w.background && (v.attributes.0 == w.attributes.0))

-- the test of the parts is true exactly if the colors are the same
pub color_equal : (E : Name → Name → Bool) → ((n m : Name) → (IsTrue (E n m)) ↔ (n ≡ m))
    → (v w : Color) → (IsTrue (same_parts E v w)) ↔ (v ≡ w)
color_equal E law v w = (to, from) where
  part_same : (f g : Option Name) → option_eq E f g ≡ true → f ≡ g
  part_same None None h = refl
  part_same (Some n) (Some m) h = ap Some ((law n m).0 h)
  part_same f g h = absurd (cc)

  part_equal : (f : Option Name) → option_eq E f f ≡ true
  part_equal None = refl
  part_equal (Some n) = (law n n).1 refl

  to : IsTrue (same_parts E v w) → v ≡ w
  to h =
      let (front, rest) = and_parts _ _ h in
      let (back, bits) = and_parts _ _ rest in
      same_color v w (part_same _ _ front) (part_same _ _ back) ((Decides-eqb _ _).0 bits)

  from : v ≡ w → IsTrue (same_parts E v w)
  from e =
      let same = (Decides-eqb v.attributes.0 v.attributes.0).1 refl in
      rw (← e) (rw (part_equal v.foreground, part_equal v.background, same) refl)

-- the test whether all set bits are known
pub known_told : (all bits : ℕ) (r : Bool) → all ≡ known_bits_of attribute_flags
    → r ≡ (bit_and all bits == bits)
    → (IsTrue r) ↔ (AreKnown bits)
unfolding attributes known_from
known_told all bits r e f = (
  λ h. mask_known bits (and_comm bits all_bits
      ∙ (ap (λ m. bit_and m bits) (sym e) ∙ (Decides-eqb (bit_and all bits) bits).0 (sym f ∙ h))),
  λ h. f ∙ (Decides-eqb (bit_and all bits) bits).1
      (ap (λ m. bit_and m bits) e ∙ (and_comm all_bits bits ∙ known_mask bits h)),
) where
  all_bits : ℕ
  all_bits = known_bits_of attribute_flags

-- the test whether there is no background without a foreground
pub none_told : {X : Type 0} (o : Option X) (n : Bool) → is_some o ≡ not n → n ≡ true → o ≡ None
none_told None n e h = refl
none_told (Some x) n e h = let k = rw h at e in absurd (cc)

pub beside_told : (f b : Option Name) (n s : Bool) → is_some b ≡ not n → n ≡ false → s ≡ is_some f
    → (IsTrue s) ↔ (f ≡ None → b ≡ None)
beside_told None None n s e h k = let l = rw h at e in absurd (cc)
beside_told None (Some x) n s e h k = (λ t. absurd (cc), λ t. absurd (some_none x (t refl)))
beside_told (Some y) b n s e h k = (λ t z. absurd (some_none y z), λ t. k)
