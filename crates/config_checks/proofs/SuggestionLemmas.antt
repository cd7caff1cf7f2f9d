-- The edits between the keys of rows and a key.
use Rattle.std.proofs.Common.{◌≡◌, ◌<◌, ◌≤◌, ℕ, zero, suc, Result, Ok, Err, IfOk, List, [], ◌∷◌, Option, None}
use Rattle.std.proofs.Common.{Some, MatchOption, inl, inr}
use Rattle.std.proofs.Common.{◌∙◌, refl, sym, ap, subst, arith, length, get_or, Bool, IsTrue, ◌↔◌, codes}
use Rattle.std.proofs.lemmas.List.{length-map}
use Rattle.std.specs.Char.{to_ascii_lowercase}
use Rattle.std.specs.List.{AllZip}
use Rattle.config_file.specs.KeyView.{key_of}
use Rattle.config_checks.specs.declared.row.Row.{Row}
use Rattle.config_checks.specs.declared.row.Run.{Run}
use Rattle.config_checks.specs.declared.suggestion.Relation.{Relation}
use Rattle.config_checks.specs.declared.suggestion.Relation.TheVariants as relations
use Rattle.config_checks.specs.Nearest.{Edits, FewEdits, most_edits, AreFar}
use Rattle.config_checks.specs.Nearest.Edits.{swapped, counted}
use Rattle.config_checks.specs.Reading.Steps.{IsFew, IsRelation, IsUnlike}
use Rattle.config_text.specs.SameWord.{SameWord}
use Rattle.config_file.specs.Key.{Key, IsCut}
use Rattle.config_checks.specs.Keys.{CoversSubsection, CoversName}
use Rattle.config_checks.specs.Suggestions.{AreAlike, IsOtherWord, NearEdits, NameEdits, EditsAfter}
use Rattle.config_checks.specs.Suggestions.{OnePartEdits, RowEdits, SectionEdits, SubsectionEdits, HasSlots}
use Rattle.config_checks.specs.Suggestions.{IsOwn}
use Rattle.config_checks.specs.Suggestions.NearEdits.{other_word, few, alike}
use Rattle.config_checks.specs.Suggestions.EditsAfter.{in_name, in_subsection}
use Rattle.config_checks.specs.Suggestions.IsOwn.{alone, slot}
use Rattle.config_checks.specs.Suggestions.IsPassed.{foreign}
use Rattle.config_checks.specs.Suggestions.{IsForeign, IsPassed, IsUnknownKey, Suggests, nearest_of}
use Rattle.config_checks.specs.declared.suggestion.UnknownKey.{UnknownKey}
use Rattle.config_checks.specs.Rows.{IsUnknown}
use Rattle.config_checks.specs.Suggestions.OnePartEdits.{in_rest, in_section}
use Rattle.config_checks.proofs.NearestLemmas.{one_count}

-- few edits of one kind are few edits of another, if they are the same
few_of : {E : Type 0} (P Q : ℕ → Type 0) → ((n : ℕ) → P n → Q n) → ((n : ℕ) → Q n → P n) → (r : Result (Option ℕ) E)
    → IfOk r (λ r. IsFew P r) → IfOk r (λ r. IsFew Q r)
few_of P Q to from (Ok None) none = λ n also. none n (from n also)
few_of P Q to from (Ok (Some n)) edits = (to n edits.0, edits.1)
few_of P Q to from (Err e) is = tt

abbrev OfSubsection : Key → Key → ℕ → Type 0
OfSubsection row key = SubsectionEdits (SameWord row.name key.name) row.subsection key.subsection

module _ {E : Type 0} (row key : Key) where
  -- if the sections are the same, the edits are those after the section
  pub of_section : SameWord row.section key.section → (r : Result (Option ℕ) E)
      → IfOk r (λ r. IsFew (EditsAfter row key) r)
      → IfOk r (λ r. IsFew (OnePartEdits row key) r)
  of_section same = few_of (EditsAfter row key) (OnePartEdits row key) (λ n. in_rest same) (λ n edits. elim edits [
    | in_rest s is ↦ is
    | in_section other b l is ↦ absurd (other same)
  ])

  -- if the subsection is covered, the edits after the section are those of the name
  pub of_name : CoversSubsection row.subsection key.subsection → ¬ (CoversName row.name key.name)
      → (r : Result (Option ℕ) E)
      → IfOk r (λ r. IsFew (NameEdits row key) r) → IfOk r (λ r. IsFew (EditsAfter row key) r)
  of_name covers not = few_of (NameEdits row key) (EditsAfter row key) (λ n. in_name covers not) (λ n edits.
      elim edits [
        | in_name c d is ↦ is
        | in_subsection other c is ↦ absurd (other covers)
      ])

  -- if the name is covered, the edits after the section are those of the subsection
  pub of_subsection : ¬ (CoversSubsection row.subsection key.subsection) → CoversName row.name key.name
      → (r : Result (Option ℕ) E) → IfOk r (λ r. IsFew (OfSubsection row key) r)
      → IfOk r (λ r. IsFew (EditsAfter row key) r)
  of_subsection not covers = few_of (OfSubsection row key) (EditsAfter row key) (λ n.
      in_subsection not covers) (λ n edits. elim edits [
        | in_name c other is ↦ absurd (other covers)
        | in_subsection c d is ↦ is
      ])

-- ---- how sections are related

same_length : (a b : List ℕ) → SameWord a b → length a ≡ length b
same_length a b same = sym (length-map a to_ascii_lowercase) ∙ ap length same ∙ length-map b to_ascii_lowercase

same_edits : (a b c : List ℕ) (n : ℕ) → SameWord a b → Edits b c n → Edits a c n
same_edits a b c n same (swapped swap is) = swapped (rw same swap) is
same_edits a b c n same (counted not is) = counted (rw same not) (rw same is)

same_few : (a b c : List ℕ) (n : ℕ) → SameWord a b → FewEdits 8 b c n → FewEdits 8 a c n
same_few a b c n same edits = (same_edits a b c n same edits.0, rw (same_length a b same) edits.1)

same_other : (a b c : List ℕ) → SameWord a b → IsOtherWord b c → IsOtherWord a c
same_other a b c same is = rw same is

same_near : (a b c : List ℕ) (n : ℕ) → SameWord a b → SectionEdits b c n → SectionEdits a c n
same_near a b c n same (other_word is none) = other_word (same_other a b c same is) none
same_near a b c n same (few not is) =
    few (λ other. not (same_other b a c (sym same) other)) (same_few a b c n same is)
same_near a b c n same (alike not far none three) = absurd none

-- sections of the same word are related alike
pub same_relation : (a b c : List ℕ) (r : Relation) → SameWord a b → IsRelation b c r → IsRelation a c r
same_relation a b c relations.Same same is = same ∙ is
same_relation a b c (relations.Near n) same is =
    ((λ s. is.0 (sym same ∙ s)), (same_near a b c n same is.1.0, is.1.1))
same_relation a b c relations.Far same is =
    ((λ s. is.0 (sym same ∙ s)), (λ n edits. is.1 n (same_near b a c n (sym same) edits)))

uncovered : (row key : Key) (n : ℕ) → IsRelation row.section key.section (relations.Near n)
    → ¬ (CoversSubsection row.subsection key.subsection × CoversName row.name key.name) → (m : ℕ)
    → OnePartEdits row key m
    → 3 < m
uncovered row key n is not m (in_rest same edits) = absurd (is.0 same)
uncovered row key n is not m (in_section other subsection name edits) = absurd (not (subsection, name))

-- if a section is near, the keys are near if the row's key covers the key but for the section
pub near_if : (row key : Key) (n : ℕ) → IsRelation row.section key.section (relations.Near n) → (r : Option ℕ)
    → MatchOption r (¬ (CoversSubsection row.subsection key.subsection × CoversName row.name key.name))
    (λ m. CoversSubsection row.subsection key.subsection × CoversName row.name key.name × (m ≡ n))
    → IsFew (OnePartEdits row key) r
near_if row key n is None not = uncovered row key n is not
near_if row key n is (Some m) (subsection, name, same) =
    rw same (in_section is.0 subsection name is.1.0, is.1.1)

pub of_far : (row key : Key) → IsRelation row.section key.section relations.Far → IsFew (OnePartEdits row key) None
of_far row key is n (in_rest same edits) = absurd (is.0 same)
of_far row key is n (in_section other subsection name edits) = is.1 n edits

-- no row of a run whose section is far is near
pub far_run : (key : Key) (run : Run) → IsRelation run.section.now key.section relations.Far
    → AreFar (RowEdits key) run.rows.now
far_run key run far k d inside =
    let row = get_or run.rows.now k d in
    of_far (key_of row.key) key
    (same_relation (key_of row.key).section run.section.now key.section relations.Far
    (run.of_section k d inside) far)

-- what is at the same place of two lists is related, if all is
pub zipped_at : {A B : Type 0} (R : A → B → Type 0) (xs : List A) (ys : List B) → AllZip R xs ys
    → (i : ℕ) (x : A) (d : B)
    → i < length xs → get_or xs i x ≡ x → R x (get_or ys i d)
zipped_at R [] ys all i x d inside is = absurd (omega (arith, inside))
zipped_at R (a ∷ xs) [] all i x d inside is = absurd all
zipped_at R (a ∷ xs) (b ∷ ys) all zero x d inside is = subst (λ a. R a b) is all.0
zipped_at R (a ∷ xs) (b ∷ ys) all (suc i) x d inside is = zipped_at R xs ys all.1 i x d (omega (arith, inside)) is

-- ---- where only rows have settings

slots_of : (rows : List Row) (key : Key) (t : List ℕ) → key.subsection ≡ Some t → IsOwn rows key → HasSlots rows t
slots_of rows key t is (alone none not has) = absurd (cc)
slots_of rows key t is (slot u also same has) = let one : u ≡ t = cc in rw one at has

-- a key with a subsection
pub own_slot : (rows : List Row) (key : Key) (t : List ℕ) (b : Bool) → key.subsection ≡ Some t
    → SameWord (codes "color") key.section → IsTrue b ↔ HasSlots rows t → IsTrue b ↔ IsOwn rows key
own_slot rows key t b is same told =
    (λ yes. slot t is same (told.0 yes), λ own. told.1 (slots_of rows key t is own))

-- what is said of the key of a text
pub of_key : (rows : List Row) (t : List ℕ) (key : Key) → IsCut t key → IsUnknown rows t → (r : Option UnknownKey)
    → MatchOption r (IsForeign rows key) (λ k. Suggests rows key (nearest_of k))
    → MatchOption r (IsPassed rows t) (IsUnknownKey rows t)
of_key rows t key cut unknown None other = foreign key cut other
of_key rows t key cut unknown (Some k) suggests =
    record { key = key; cut = cut; unknown = unknown; suggests = suggests }

-- ---- there is at most one number of edits

one_subsection : (S : Type 0) (a b : Option (List ℕ)) (m n : ℕ) → SubsectionEdits S a b m
    → SubsectionEdits S a b n → m ≡ n
one_subsection S a b m n is also = grind (arith, one_count)

one_near : (long : ℕ) (A : Type 0) (a b : List ℕ) (m n : ℕ) → NearEdits long A a b m → NearEdits long A a b n
    → m ≡ n
one_near long A a b m n is also = grind (arith, one_count)

one_after : (row key : Key) (m n : ℕ) → EditsAfter row key m → EditsAfter row key n → m ≡ n
one_after row key m n is also = grind (arith, one_near, one_subsection)

pub one_number : (row key : Key) (m n : ℕ) → OnePartEdits row key m → OnePartEdits row key n → m ≡ n
one_number row key m n is also = grind (arith, one_after, one_near)

-- ---- texts that are not near

nowhere : (long : ℕ) (a b : List ℕ) → IsFew (FewEdits long a b) None → (m : ℕ) → ¬ (FewEdits long a b m)
nowhere long a b far m near =
    let most : most_edits long a b ≤ 2 = grind arith in
    let more = far m near in
    let less = near.1 in
    omega (arith, more, less, most)

module _ (long : ℕ) (A : Type 0) (a b : List ℕ) where
  pub few_near : (n : ℕ) → ¬ (IsOtherWord a b) → FewEdits long a b n × (n ≤ 3) → NearEdits long A a b n × (n ≤ 3)
  few_near n not edits = (few not edits.0, edits.1)

  pub other_near : IsOtherWord a b → NearEdits long A a b 0 × (0 ≤ 3)
  other_near is = (other_word is refl, omega arith)

  pub alike_near : ¬ (IsOtherWord a b) → IsFew (FewEdits long a b) None → A → NearEdits long A a b 3 × (3 ≤ 3)
  alike_near not far is = (alike not (nowhere long a b far) is refl, omega arith)

  pub none_near : ¬ (IsOtherWord a b) → IsFew (FewEdits long a b) None → ¬ A → IsFew (NearEdits long A a b) None
  none_near not far unlike n edits = elim edits [
    | other_word is none ↦ absurd (not is)
    | few other is ↦ far n is
    | alike other beyond is three ↦ absurd (unlike is)
  ]

-- a key whose name is unlike that of the row is not near it, unless the row covers any name
pub of_unlike : (row key : Key) → ¬ (row.name ≡ codes "*") → IsUnlike row.name key.name
    → IsFew (EditsAfter row key) None
of_unlike row key named is n (in_name covers not edits) =
    none_near 5 ((key.subsection ≡ None) × AreAlike row.name key.name) row.name key.name is.no_word
    (λ m near. absurd (is.far m near)) (λ also. is.unlike also.1) n edits
of_unlike row key named is n (in_subsection not (inl any) edits) = absurd (named any)
of_unlike row key named is n (in_subsection not (inr same) edits) = absurd (is.other same)
