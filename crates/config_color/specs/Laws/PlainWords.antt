-- Words of printing ASCII bytes. They contain no white space, so a text that joins them by spaces has these
-- words.
use Rattle.std.proofs.Common.{◌≡◌, ℕ, ◌≤◌, inl, inr, Bool, true, false, ◌&&◌, codes, nat_le, List, [], ◌∷◌}
use Rattle.std.proofs.Common.{map, None, refl, append_assoc, arith}
use Rattle.std.specs.List.{AllByRecursion, join_with_byte, list_all}
use Rattle.std.specs.Str.Parse.{AllDigits}
use Rattle.std.proofs.lemmas.Bool.{and_from, and_parts}
use Rattle.std.proofs.lemmas.Bool.Decides.{nat_tests}
use Rattle.std.proofs.lemmas.Str.Parse.{digit_from_value}
use Rattle.config_color.specs.Color.{Chosen}
use Rattle.config_word.specs.Attribute.{attributes, shown_word}
use Rattle.config_word.specs.Name.{CanonicalName, lower_words}
use Rattle.config_text.specs.Bytes.{space, IsLowerHex}
use Rattle.config_text.specs.OneOf.{OneOf}
use Rattle.config_text.specs.Laws.OneOf.{all-one}
use Rattle.config_color.specs.Laws.Space.{start_not}
use Rattle.config_color.specs.Reading.Split.{after_space, last_cut, words}
use Rattle.config_color.specs.Laws.Split.{after_space_is, option_told, words_none, words_joined, space_byte}

-- a plain byte: a printing ASCII byte other than the space
abbrev pub is_plain : ℕ → Bool
is_plain b = nat_le 33 b && nat_le b 126

-- a plain word: one or more plain bytes, and no others
abbrev pub is_plain_word : List ℕ → Bool
is_plain_word [] = false
is_plain_word (x ∷ xs) = is_plain x && list_all is_plain xs

plain_range : (b : ℕ) → is_plain b ≡ true → (33 ≤ b) × (b ≤ 126)
plain_range b h =
    let k = and_parts (nat_le 33 b) (nat_le b 126) h in (grind (arith, nat_tests), grind (arith, nat_tests))

range_plain : (b : ℕ) → 33 ≤ b → b ≤ 126 → is_plain b ≡ true
range_plain b l h =
    and_from (nat_le 33 b) (nat_le b 126) (grind (arith, nat_tests)) (grind (arith, nat_tests))

-- no white space begins at a plain byte
not_before : (x : ℕ) (text : List ℕ) → is_plain x ≡ true → after_space (x ∷ text) ≡ None
not_before x text h =
    elim (option_told (after_space (x ∷ text))) [
      | inl e ↦ e
      | inr (rest, e) ↦
          let k = after_space_is (x ∷ text) rest e in
          let range = plain_range x h in
          absurd (start_not (x ∷ text) (omega (arith, range.0)) (omega (arith, range.1)) k.0 rest k.1 k.2)
    ]

plain_uncut : (text : List ℕ) → list_all is_plain text ≡ true → last_cut text ≡ None
plain_uncut [] h = refl
plain_uncut (x ∷ text) h =
    let k = and_parts (is_plain x) (list_all is_plain text) h in
    rw (not_before x text k.0, plain_uncut text k.1) refl

plain_word : (w : List ℕ) → is_plain_word w ≡ true → words w ≡ w ∷ []
plain_word [] h = absurd (cc)
plain_word (x ∷ xs) h = words_none (x ∷ xs) (plain_uncut (x ∷ xs) h)

-- the words of a text that joins plain words by spaces
pub words_spaced : (ws : List (List ℕ)) → list_all is_plain_word ws ≡ true
    → words (join_with_byte space ws) ≡ ws
words_spaced [] h = words_none [] refl
words_spaced (w ∷ []) h = plain_word w (and_parts (is_plain_word w) true h).0
words_spaced (w ∷ v ∷ ws) h =
    let k = and_parts (is_plain_word w) (list_all is_plain_word (v ∷ ws)) h in
    rw (
      ← (append_assoc w (codes " ") (join_with_byte space (v ∷ ws))),
      words_joined,
      plain_word w k.0,
      words_spaced (v ∷ ws) k.1,
      space_byte,
    )

chosen_all_plain : (rows ws : List (List ℕ)) → list_all is_plain_word rows ≡ true → Chosen rows ws
    → list_all is_plain_word ws ≡ true
chosen_all_plain rows [] h c = refl
chosen_all_plain [] (w ∷ ws) h c = absurd c
chosen_all_plain (row ∷ rows) (w ∷ ws) h (inl c) =
    let k = and_parts (is_plain_word row) (list_all is_plain_word rows) h in
    and_from (is_plain_word w) (list_all is_plain_word ws) (rw (c.0) k.0) (chosen_all_plain rows ws k.1 c.1)
chosen_all_plain (row ∷ rows) (w ∷ ws) h (inr c) =
    chosen_all_plain rows (w ∷ ws) (and_parts (is_plain_word row) (list_all is_plain_word rows) h).1 c

pub chosen_plain : (ws : List (List ℕ)) → Chosen (map shown_word attributes) ws → list_all is_plain_word ws ≡ true
unfolding attributes
chosen_plain ws c = chosen_all_plain (map shown_word attributes) ws refl c

lower_plain : (t : List ℕ) → OneOf lower_words t → is_plain_word t ≡ true
unfolding lower_words
lower_plain t o = all-one is_plain_word lower_words t refl o

digits_plain : (ds : List ℕ) → AllDigits 10 ds → list_all is_plain ds ≡ true
digits_plain [] h = refl
digits_plain (d ∷ ds) h =
    let k = digit_from_value d h.0 in
    and_from (is_plain d) (list_all is_plain ds) (range_plain d (omega arith) (omega arith))
    (digits_plain ds h.1)

hex_plain : (ds : List ℕ) → AllByRecursion IsLowerHex ds → list_all is_plain ds ≡ true
hex_plain [] h = refl
hex_plain (d ∷ ds) h = and_from (is_plain d) (list_all is_plain ds) (digit d h.0) (hex_plain ds h.1) where
  digit : (d : ℕ) → IsLowerHex d → is_plain d ≡ true
  digit d (inl r) = range_plain d (omega arith) (omega arith)
  digit d (inr r) = range_plain d (omega arith) (omega arith)

-- a canonical name is one plain word
pub name_plain : (t : List ℕ) → CanonicalName t → is_plain_word t ≡ true
name_plain t (CanonicalName.word o) = lower_plain t o
name_plain t (CanonicalName.nought e) = rw e refl
name_plain t (CanonicalName.palette d ds e r h s) =
    rw e (and_from (is_plain d) (list_all is_plain ds) (range_plain d (omega arith) (omega arith))
    (digits_plain ds h))
name_plain t (CanonicalName.rgb ds e l h) = rw e (hex_plain ds h)

pub names_plain : (ts : List (List ℕ)) → AllByRecursion CanonicalName ts → list_all is_plain_word ts ≡ true
names_plain [] h = refl
names_plain (t ∷ ts) h =
    and_from (is_plain_word t) (list_all is_plain_word ts) (name_plain t h.0) (names_plain ts h.1)
