-- The shown text of several attributes has a space, and no attribute text has a space.
use Rattle.std.proofs.Common.{◌≡◌, ◌≢◌, ◌≤◌, ℕ, inl, inr, Bool, true, false, cond, not, ◌&&◌, List, [], ◌∷◌}
use Rattle.std.proofs.Common.{◌++◌, length, map, filter, refl, sym, ap, ◌∙◌, arith, ◌==◌}
use Rattle.std.proofs.lemmas.Bool.{and_parts}
use Rattle.std.proofs.lemmas.Bool.Decides.{Decides-eqb, nat_tests}
use Rattle.std.specs.Char.{to_ascii_lowercase}
use Rattle.std.specs.Int.{bit_at}
use Rattle.std.specs.List.{join_with_byte, list_all}
use Rattle.config_word.specs.declared.attribute.Attribute.{Attribute}
use Rattle.config_word.specs.Attribute.{AttributeRow, AttributeText, IsKnownBit, attribute_shown, attributes}
use Rattle.config_text.specs.Bytes.{space}
use Rattle.config_text.specs.OneOf.{OneOf}
use Rattle.config_text.specs.Laws.OneOf.{all-one, OneOf-from_map}
use Rattle.config_text.specs.Value.{IsRefused}

-- a text without a space
abbrev no_space : List ℕ → Bool
no_space text = list_all (λ c. not (c == space)) text

-- ---- no attribute text has a space

-- no spelling has a space
spellings-no_space : list_all (λ row. list_all no_space (row.2 ∷ row.3)) attributes ≡ true
unfolding attributes
spellings-no_space = refl

-- a byte that is no space in lower case is no space
lowered_byte : (c : ℕ) → not (to_ascii_lowercase c == space) ≡ true → not (c == space) ≡ true
lowered_byte c h = grind (arith, nat_tests)

-- a text that has no space in lower case has no space
lowered : (t : List ℕ) → no_space (map to_ascii_lowercase t) ≡ true → no_space t ≡ true
lowered [] h = refl
lowered (c ∷ cs) h =
    let b = and_parts (not (to_ascii_lowercase c == space)) (no_space (map to_ascii_lowercase cs)) h in
    rw (lowered_byte c b.0) (lowered cs b.1)

-- an attribute text has no space
text-no_space : (t : List ℕ) (a : Attribute) → AttributeText t a → no_space t ≡ true
text-no_space t a (AttributeText.word row o h e) =
    all-one no_space (row.2 ∷ row.3) t
    (all-one (λ (r : AttributeRow). list_all no_space (r.2 ∷ r.3)) attributes row spellings-no_space o) h
text-no_space t a (AttributeText.reset s e) =
    let small : no_space (map to_ascii_lowercase t) ≡ true = rw s refl in lowered t small

-- ---- two words have a space between them

-- a text with a space is not a text without a space
spaced : (x rest : List ℕ) → no_space (x ++ space ∷ rest) ≡ false
spaced [] rest = refl
spaced (c ∷ cs) rest = rw (spaced cs rest) (none (not (c == space))) where
  none : (b : Bool) → (b && false) ≡ false
  none true = refl
  none false = refl

-- leaving a row out, or not, leaves no fewer rows than those after it
no_fewer : (b : Bool) (first : AttributeRow) (rows : List AttributeRow)
    → length rows ≤ length (cond b (first ∷ rows) rows)
no_fewer true first rows = omega arith
no_fewer false first rows = omega arith

-- if a row passes the test, at least one row is kept
one-kept : (p : AttributeRow → Bool) (rows : List AttributeRow) (r : AttributeRow) → OneOf rows r → p r ≡ true
    → 1 ≤ length (filter p rows)
one-kept p [] r o h = absurd o
one-kept p (first ∷ rows) r (inl e) h = let kept : p first ≡ true = rw (← e) h in rw kept (omega arith)
one-kept p (first ∷ rows) r (inr o) h =
    omega (arith, no_fewer (p first) first (filter p rows), one-kept p rows r o h)

-- if two rows of different bits pass the test, at least two rows are kept
two-kept : (p : AttributeRow → Bool) (rows : List AttributeRow) (r s : AttributeRow) → OneOf rows r
    → OneOf rows s → r.1 ≢ s.1
    → p r ≡ true → p s ≡ true → 2 ≤ length (filter p rows)
two-kept p [] r s o q apart h k = absurd o
two-kept p (first ∷ rows) r s (inl e) (inl f) apart h k =
    absurd (apart (ap (λ (x : AttributeRow). x.1) (e ∙ sym f)))
two-kept p (first ∷ rows) r s (inl e) (inr q) apart h k =
    let kept : p first ≡ true = rw (← e) h in rw kept (omega (arith, one-kept p rows s q k))
two-kept p (first ∷ rows) r s (inr o) (inl f) apart h k =
    let kept : p first ≡ true = rw (← f) k in rw kept (omega (arith, one-kept p rows r o h))
two-kept p (first ∷ rows) r s (inr o) (inr q) apart h k =
    omega (arith, no_fewer (p first) first (filter p rows), two-kept p rows r s o q apart h k)

-- two words or more have a space between them
two-spaced : (rows : List AttributeRow) → 2 ≤ length rows
    → no_space (join_with_byte space (map (λ row. row.2) rows)) ≡ false
two-spaced (x ∷ y ∷ rest) h =
    spaced x.2 (join_with_byte space (map (λ (row : AttributeRow). row.2) (y ∷ rest)))
two-spaced rows h = absurd (omega arith)

-- if two known bits are set, the shown text is not an attribute text
pub several_refused : (a : Attribute) (i j : ℕ) → i ≢ j → IsKnownBit i → IsKnownBit j → bit_at a.0 i ≡ 1
    → bit_at a.0 j ≡ 1
    → IsRefused AttributeText (attribute_shown a.0)
several_refused a i j apart known_i known_j at_i at_j v h =
    let r = OneOf-from_map (λ (x : AttributeRow). x.1) attributes i known_i in
    let s = OneOf-from_map (λ (x : AttributeRow). x.1) attributes j known_j in
    let p : AttributeRow → Bool = λ row. bit_at a.0 row.1 == 1 in
    let set_r : p r.0 ≡ true = (Decides-eqb (bit_at a.0 r.0.1) 1).1 (ap (bit_at a.0) (sym r.2) ∙ at_i) in
    let set_s : p s.0 ≡ true = (Decides-eqb (bit_at a.0 s.0.1) 1).1 (ap (bit_at a.0) (sym s.2) ∙ at_j) in
    let two = two-kept p attributes r.0 s.0 r.1 s.1 (λ e. apart (r.2 ∙ e ∙ sym s.2)) set_r set_s in
    cc (two-spaced (filter p attributes) two, text-no_space (attribute_shown a.0) v h)
