-- The laws of color texts: how joined and split words are read, how names are placed, and that a text has at
-- most one color.
use Rattle.std.proofs.Common.{◌≡◌, ◌≢◌, take, drop, ℕ, ◌+◌, ◌≤◌, ◌⊎◌, inl, inr, List, [], ◌∷◌, ◌++◌, length}
use Rattle.std.proofs.Common.{Option, Some, None, refl, sym, ap, ◌∙◌, append_assoc, arith, zero, suc, ◌-◌}
use Rattle.std.proofs.Common.{length-take-le}
use Rattle.std.specs.Int.RustNames.{bit_or}
use Rattle.std.specs.Int.Bits.{or_zero_l, or_zero_r}
use Rattle.std.proofs.lemmas.Bool.Decides.{eqb_tells}
use Rattle.std.proofs.lemmas.List.{append-nil, drop_all, take_all}
use Rattle.std.proofs.lemmas.Nat.Bits.{bit_at_or, same_from_bits}
use Rattle.config_color.specs.declared.color.Color.{Color}
use Rattle.config_word.specs.declared.attribute.Attribute.{Attribute}
use Rattle.config_word.specs.declared.name.Name.{Name}
use Rattle.config_word.specs.declared.item.Item.{Item}
use Rattle.config_word.specs.declared.item.Item.TheVariants as items
use Rattle.config_word.specs.Attribute.{AttributeText}
use Rattle.config_color.specs.Color.{WordsRead, TextRead, Placed, ColorText, no_color}
use Rattle.config_color.specs.Reading.Color.{FirstWordEnds, IsTooLong, word_item, next_name, with_item}
use Rattle.config_color.specs.Reading.Color.{read_from, color_of}
use Rattle.std.specs.Option.{option_and_then, option_to_list}
use Rattle.config_word.specs.Name.{NameText}
use Rattle.config_text.specs.Value.{IsAccepted, IsRefused, Reads}
use Rattle.config_text.specs.Laws.Value.{IsValueOf, decided_by, one_value_by, read_by, reads_by}
use Rattle.config_word.specs.Item.{ItemText}
use Rattle.config_word.specs.Laws.Item.{item-law, item_one_value, long_refused, not_both}
use Rattle.config_color.specs.Words.{piece}
use Rattle.config_color.specs.Reading.Split.{IsWithoutSpace, words}
use Rattle.config_color.specs.Laws.Split.{words_are, words_only, words_step, words_last, option_told}
use Rattle.config_color.specs.Laws.Split.{first_end}

word_item-value : IsValueOf ItemText word_item
unfolding word_item
word_item-value = item-law

pub or_assoc : (a b c : ℕ) → bit_or (bit_or a b) c ≡ bit_or a (bit_or b c)
or_assoc a b c = same_from_bits _ _ (λ i. simp bit_at_or (omega arith))

-- the words that are read are those that the function `words` gives
pub read_words : {t : List ℕ} {names : List Name} {bits : ℕ} → TextRead t names bits
    → WordsRead (words t) names bits
read_words h = rw (← (words_only h.cut)) h.read

pub text_read : (t : List ℕ) {names : List Name} {bits : ℕ} → WordsRead (words t) names bits
    → TextRead t names bits
text_read t r = record { words = words t; cut = words_are t; read = r }

pub WordsRead-join : {xs ys : List (List ℕ)} {ns ms : List Name} {i j : ℕ} → WordsRead xs ns i
    → WordsRead ys ms j
    → WordsRead (xs ++ ys) (ns ++ ms) (bit_or i j)
WordsRead-join WordsRead.nothing s = rw or_zero_l s
WordsRead-join (WordsRead.name t r) s = WordsRead.name t (WordsRead-join r s)
WordsRead-join (WordsRead.attribute t r) s = rw or_assoc (WordsRead.attribute t (WordsRead-join r s))

-- words that are read are read in two parts, which together have their names and bits
pub WordsRead-split : (xs ys : List (List ℕ)) {names : List Name} {bits : ℕ} → WordsRead (xs ++ ys) names bits
    → (ns ms : List Name) × (i j : ℕ) × WordsRead xs ns i × WordsRead ys ms j × (names ≡ ns ++ ms)
    × (bits ≡ bit_or i j)
WordsRead-split [] ys {names = names} {bits = bits} r =
    ([], names, 0, bits, WordsRead.nothing, r, refl, sym (or_zero_l bits))
WordsRead-split (w ∷ xs) ys (WordsRead.name {n = n} t r) =
    let (ns, ms, i, j, front, back, names, bits) = WordsRead-split xs ys r in
    (n ∷ ns, ms, i, j, WordsRead.name t front, back, ap (λ ns. n ∷ ns) names, bits)
WordsRead-split (w ∷ xs) ys (WordsRead.attribute {a = a} t r) =
    let (ns, ms, i, j, front, back, names, bits) = WordsRead-split xs ys r in
    let all_bits = ap (bit_or a.0) bits ∙ sym (or_assoc a.0 i j) in
    (ns, ms, bit_or a.0 i, j, WordsRead.attribute t front, back, names, all_bits)

one_name : (w : List ℕ) (n m : Name) → NameText w n → NameText w m → n ≡ m
one_name w n m p q = let e = item_one_value w (items.Name n) (items.Name m) p q in cc

pub one_attribute : (w : List ℕ) (a b : Attribute) → AttributeText w a → AttributeText w b → a ≡ b
one_attribute w a b p q = let e = item_one_value w (items.Attribute a) (items.Attribute b) p q in cc

-- words are read in at most one way
pub WordsRead-one : {ws : List (List ℕ)} {ns ms : List Name} {i j : ℕ} → WordsRead ws ns i → WordsRead ws ms j
    → (ns ≡ ms) × (i ≡ j)
WordsRead-one WordsRead.nothing WordsRead.nothing = (refl, refl)
WordsRead-one (WordsRead.name {w = w} {n = n} t r) (WordsRead.name {n = m} u s) =
    let o = WordsRead-one r s in (cc (one_name w n m t u, o.0), o.1)
WordsRead-one (WordsRead.name {w = w} {n = n} t r) (WordsRead.attribute {a = b} u s) =
    absurd (not_both w n b t u)
WordsRead-one (WordsRead.attribute {w = w} {a = a} t r) (WordsRead.name {n = m} u s) =
    absurd (not_both w m a u t)
WordsRead-one (WordsRead.attribute {w = w} {a = a} t r) (WordsRead.attribute {a = b} u s) =
    let o = WordsRead-one r s in (o.0, cc (one_attribute w a b t u, o.1))

pub Placed-words : (ns : List Name) (f b : Option Name) → Placed ns f b
    → option_to_list f ++ option_to_list b ≡ ns
Placed-words (n ∷ m ∷ o ∷ ns) f b p = absurd p
Placed-words ns f b p = rw (p.0, p.1) refl

pub Placed-short : (ns : List Name) (f b : Option Name) → Placed ns f b → length ns ≤ 2
Placed-short (n ∷ m ∷ o ∷ ns) f b p = absurd p
Placed-short ns f b p = omega arith

pub Placed-one : (ns : List Name) (f b g d : Option Name) → Placed ns f b → Placed ns g d → (f ≡ g) × (b ≡ d)
Placed-one (n ∷ m ∷ o ∷ ns) f b g d p q = absurd p
Placed-one ns f b g d p q = (cc, cc)

-- the foreground and background of at most two names
pub placing : (ns : List Name) → length ns ≤ 2 → (f : Option Name) × (b : Option Name) × Placed ns f b
placing [] l = (None, None, (refl, refl))
placing (n ∷ []) l = (Some n, None, (refl, refl))
placing (n ∷ m ∷ []) l = (Some n, Some m, (refl, refl))
placing (n ∷ m ∷ o ∷ ns) l = absurd (omega arith)

-- colors with the same parts are the same
pub same_color : (c d : Color) → c.foreground ≡ d.foreground → c.background ≡ d.background
    → c.attributes.0 ≡ d.attributes.0 → c ≡ d
same_color c d e f g = λ i. record { foreground = e i; background = f i; attributes = record { 0 = g i } }

abbrev pub color_with : Option Name → Option Name → ℕ → Color
color_with f b bits = record { foreground = f; background = b; attributes = record { 0 = bits } }

-- one more name is placed after those that are already placed
next_placed : (ns : List Name) (f b : Option Name) (bits : ℕ) (n : Name) (more : List Name)
    (g d : Option Name) → Placed ns f b
    → Placed (ns ++ n ∷ more) g d
    → (c : Color) × (next_name f b bits n ≡ Some c) × Placed (ns ++ n ∷ []) c.foreground c.background
    × (c.attributes.0 ≡ bits)
next_placed [] f b bits n more g d p q = (color_with (Some n) b bits, rw p.0 refl, (refl, p.1), refl)
next_placed (m ∷ []) f b bits n more g d p q =
    (color_with (Some m) (Some n) bits, rw (p.0, p.1) refl, (refl, refl), refl)
next_placed (m ∷ o ∷ []) f b bits n more g d p q = absurd q
next_placed (m ∷ o ∷ k ∷ ns) f b bits n more g d p q = absurd p

next_from : (ns : List Name) (f b : Option Name) (bits : ℕ) (n : Name) (c : Color) → Placed ns f b
    → next_name f b bits n ≡ Some c
    → Placed (ns ++ n ∷ []) c.foreground c.background × (c.attributes.0 ≡ bits)
next_from [] f b bits n c p e =
    let h = rw p.0 at e in let k : color_with (Some n) b bits ≡ c = cc in rw (← k) ((refl, p.1), refl)
next_from (m ∷ []) f b bits n c p e =
    let h = rw (p.0, p.1) at e in
    let k : color_with (Some m) (Some n) bits ≡ c = cc in rw (← k) ((refl, refl), refl)
next_from (m ∷ o ∷ []) f b bits n c p e = let h = rw (p.0, p.1) at e in absurd (cc)
next_from (m ∷ o ∷ k ∷ ns) f b bits n c p e = absurd p

-- words with a reading give the same color if they are read from the front
reading_found : {ws : List (List ℕ)} {names : List Name} {bits : ℕ} (p c : Color) (ns : List Name)
    → WordsRead ws names bits
    → Placed ns p.foreground p.background → Placed (ns ++ names) c.foreground c.background
    → c.attributes.0 ≡ bit_or p.attributes.0 bits → read_from p ws ≡ Some c
reading_found p c ns WordsRead.nothing before after united =
    let k = rw append-nil at after in
    let o = Placed-one ns p.foreground p.background c.foreground c.background before k in
    ap Some (same_color p c o.0 o.1 (sym (united ∙ or_zero_r p.attributes.0)))
reading_found p c ns (WordsRead.name {w = w} {n = n} {names = more} {bits = bits} t r) before after united =
    let d = next_placed ns p.foreground p.background p.attributes.0 n more c.foreground c.background before
    after in
    rw (word_item-value.found w (items.Name n) t, d.1)
    (reading_found d.0 c (ns ++ n ∷ []) r d.2 (rw append_assoc after)
    (united ∙ ap (λ a. bit_or a bits) (sym d.3)))
reading_found p c ns (WordsRead.attribute {w = w} {a = a} {bits = more} t r) before after united =
    rw (word_item-value.found w (items.Attribute a) t)
    (reading_found (record p { attributes = record { 0 = bit_or p.attributes.0 a.0 } }) c ns r before after
    (united ∙ sym (or_assoc p.attributes.0 a.0 more)))

-- the names and bits of words that are read from the front, after a color with the names `ns`
pub record ReadOn (ws : List (List ℕ)) (p c : Color) (ns : List Name) : Type 0 where
  pub names : List Name
  pub bits : ℕ
  pub read : WordsRead ws names bits
  pub placed : Placed (ns ++ names) c.foreground c.background
  pub united : c.attributes.0 ≡ bit_or p.attributes.0 bits

reading_derived : (ws : List (List ℕ)) (p c : Color) (ns : List Name) → Placed ns p.foreground p.background
    → read_from p ws ≡ Some c → ReadOn ws p c ns
reading_derived [] p c ns before h =
    let e : p ≡ c = cc in
    record {
      names = [];
      bits = 0;
      read = WordsRead.nothing;
      placed = rw append-nil (rw e at before);
      united = ap (λ (c : Color). c.attributes.0) (sym e) ∙ sym (or_zero_r p.attributes.0);
    }
reading_derived (w ∷ ws) p c ns before h =
    elim (option_told (word_item w)) [
      | inl e ↦ let k = rw e at h in absurd (cc)
      | inr i ↦ at_item i.0 i.1 (rw i.1 at h) (λ d ms q e. reading_derived ws d c ms q e)
    ] where
      at_item : (i : Item) → word_item w ≡ Some i
          → option_and_then (λ d. read_from d ws) (with_item p i) ≡ Some c
          → ((d : Color) (ms : List Name) → Placed ms d.foreground d.background → read_from d ws ≡ Some c
          → ReadOn ws d c ms) → ReadOn (w ∷ ws) p c ns
      at_item (items.Name n) e k more =
          elim (option_told (next_name p.foreground p.background p.attributes.0 n)) [
            | inl f ↦ let l = rw f at k in absurd (cc)
            | inr d ↦
                let at = next_from ns p.foreground p.background p.attributes.0 n d.0 before d.1 in
                let r = more d.0 (ns ++ n ∷ []) at.0 (rw d.1 at k) in
                record {
                  names = n ∷ r.names;
                  bits = r.bits;
                  read = WordsRead.name (word_item-value.derived w (items.Name n) e) r.read;
                  placed = rw append_assoc at r.placed;
                  united = r.united ∙ ap (λ a. bit_or a r.bits) at.1;
                }
          ]
      at_item (items.Attribute a) e k more =
          let r = more (record p { attributes = record { 0 = bit_or p.attributes.0 a.0 } }) ns before k in
          record {
            names = r.names;
            bits = bit_or a.0 r.bits;
            read = WordsRead.attribute (word_item-value.derived w (items.Attribute a) e) r.read;
            placed = r.placed;
            united = r.united ∙ or_assoc p.attributes.0 a.0 r.bits;
          }

-- `color_of` computes the grammar of colors
pub color_of-value : IsValueOf ColorText color_of
color_of-value = record {
  found = λ t c h. reading_found no_color c [] (read_words h.read) (refl, refl) h.placed
      (sym (or_zero_l c.attributes.0));
  derived = λ t c e. let r = reading_derived (words t) no_color c [] (refl, refl) e in record {
    names = r.names;
    read = text_read t (rw (sym (r.united ∙ or_zero_l r.bits)) at r.read);
    placed = r.placed;
  };
}

pub color_one_value : (t : List ℕ) (v w : Color) → ColorText t v → ColorText t w → v ≡ w
color_one_value t v w p q = one_value_by color_of-value t v w p q

pub color_decided : (t : List ℕ) → IsAccepted ColorText t ⊎ IsRefused ColorText t
color_decided t = decided_by color_of-value t

and_then_only : (o : Option Color) → option_and_then (λ d. Some d) o ≡ o
and_then_only None = refl
and_then_only (Some c) = refl

and_then_both : (o : Option Color) (more : Color → Option Color)
    → option_and_then more o ≡ option_and_then more (option_and_then (λ d. Some d) o)
and_then_both None more = refl
and_then_both (Some c) more = refl

-- one more word adds the item that an exact reader returns for it
pub read_word : (c : Color) (t : List ℕ) (r : Option Item) → t ≢ [] → Reads ItemText t r
    → read_from c (piece t) ≡ option_and_then (λ i. with_item c i) r
read_word c [] r n h = absurd (n refl)
read_word c (x ∷ t) r n h =
    rw (sym (read_by word_item-value (x ∷ t) r h)) (and_then_only (option_and_then (λ i. with_item c i) r))

-- a piece is read first, and then the words after it
read_piece : (c : Color) (t : List ℕ) (ws : List (List ℕ))
    → read_from c (piece t ++ ws) ≡ option_and_then (λ d. read_from d ws) (read_from c (piece t))
read_piece c [] ws = refl
read_piece c (x ∷ t) ws =
    and_then_both (option_and_then (λ i. with_item c i) (word_item (x ∷ t))) (λ d. read_from d ws)

-- what follows the last word does not change the color
at_end : (o : Option Color) → o ≡ option_and_then (λ d. read_from d (words [])) o
unfolding words
at_end None = refl
at_end (Some d) = refl

-- a text is read by its first word, of `n` bytes, then by what follows the `s` bytes of white space after it
read_step : (c : Color) (text : List ℕ) (n s : ℕ) → FirstWordEnds text n s
    → read_from c (words text)
    ≡ option_and_then (λ d. read_from d (words (drop (n + s) text))) (read_from c (piece (take n text)))
read_step c text n s ends =
    elim (eqb_tells s 0) [
      | inl z ↦
          let all : n ≡ length text = ends.last z.1 in
          let clear_all = rw all at ends.clear in
          rw (take_all n text (omega arith), drop_all (n + s) text (omega arith))
          (ap (λ ws. read_from c ws) (words_last text clear_all) ∙ at_end (read_from c (piece text)))
      | inr z ↦
          ap (λ ws. read_from c ws) (words_step text n s ends.clear (ends.parted (omega (arith, z.1))))
          ∙ read_piece c (take n text) (words (drop (n + s) text))
    ]

-- the loop: reading the words of the input is the same as reading those of the rest after the color so far
pub walk : (input rest : List ℕ) (c : Color) (n s : ℕ) (o : Option Color)
    → read_from no_color (words input) ≡ read_from c (words rest) → FirstWordEnds rest n s
    → read_from c (piece (take n rest)) ≡ o
    → read_from no_color (words input) ≡ option_and_then (λ d. read_from d (words (drop (n + s) rest))) o
walk input rest c n s o same ends e =
    same ∙ read_step c rest n s ends ∙ ap (option_and_then (λ d. read_from d (words (drop (n + s) rest)))) e

pub walk_refused : (input rest : List ℕ) (c : Color) (n s : ℕ)
    → read_from no_color (words input) ≡ read_from c (words rest) → FirstWordEnds rest n s
    → read_from c (piece (take n rest)) ≡ None → Reads ColorText input None
walk_refused input rest c n s same ends e =
    reads_by color_of-value input None (sym (walk input rest c n s None same ends e))

-- a text without white space is read as one word, or as none if it is empty
pub reads_word : (input : List ℕ) (result : Option Color) → IsWithoutSpace input (length input)
    → result ≡ read_from no_color (piece input) → Reads ColorText input result
reads_word input result none is =
    reads_by color_of-value input result (is ∙ sym (ap (read_from no_color) (words_last input none)))

pub walk_done : (input : List ℕ) (c : Color) → read_from no_color (words input) ≡ read_from c (words [])
    → ColorText input c
unfolding words
walk_done input c same = color_of-value.derived input c same

-- a word that is too long is read as no item
too_long : (c : Color) (text : List ℕ) (n : ℕ) → IsTooLong text → 16 ≤ n → n ≤ length text
    → read_from c (piece (take n text)) ≡ None
unfolding word_item
too_long c [] n long l m = absurd (omega (arith, long.0))
too_long c (x ∷ text) zero long l m = absurd (omega arith)
too_long c (x ∷ text) (suc n) long l m =
    rw (long_refused x (take n text) (omega (arith, length-take-le n text)) long.2 long.3) refl

-- a text whose next word is too long is refused
pub walk_too_long : (input rest : List ℕ) (c : Color)
    → read_from no_color (words input) ≡ read_from c (words rest) → IsTooLong rest
    → Reads ColorText input None
walk_too_long input rest c same long =
    let end = first_end (length rest - 16) 16 rest (omega (arith, long.0)) long.1 in
    walk_refused input rest c end.0 end.1 same end.3
    (too_long c rest end.0 long end.2 (omega (arith, end.3.within)))
