-- Marks of names.
use Rattle.std.proofs.Common.{◌≡◌, ◌+◌, ◌*◌, ◌%◌, ◌<◌, ◌==◌, ℕ, List, length, take, get_or, Bool, true, inl, inr}
use Rattle.std.proofs.Common.{set, sym, ap, subst, ◌∙◌}
use Rattle.std.proofs.lemmas.Bool.{cases_Bool, eqb-true, eqb-false}
use Rattle.std.proofs.lemmas.List.{get_or-set_other}
use Rattle.std.proofs.lemmas.Grind.{get_or-set_at}
use Rattle.std.proofs.lemmas.List.Elements.{All-push}
use Rattle.std.proofs.lemmas.List.Folds.{fold-map}
use Rattle.std.specs.List.{fold}
use Rattle.std.specs.Char.{to_ascii_lowercase}
use Rattle.config_text.specs.SameWord.{SameWord}
use Rattle.config_file.specs.Key.{Key}
use Rattle.config_checks.specs.declared.row.Row.{Row}
use Rattle.config_checks.specs.Suggestions.{HasNone, IsMovedRow}
use Rattle.config_checks.specs.Rows.{CoversNone}
use Rattle.config_checks.specs.Reading.Steps.{number_of, HasMark, IsMarked, AreMarked, LacksMarks}
use Rattle.config_checks.proofs.NearestLemmas.{take_more}

-- the number of a text in lower case, with one more byte
abbrev next_lower : ℕ → ℕ → ℕ
next_lower n b = ((n % 32768) * 31 + b) % 32768

-- names that are the same, ignoring ASCII case, have one number
same_number : (a b : List ℕ) → SameWord a b → number_of a ≡ number_of b
same_number a b same =
    sym (fold-map next_lower to_ascii_lowercase 0 a) ∙ ap (fold next_lower 0) same
    ∙ fold-map next_lower to_ascii_lowercase 0 b

marked_same : (marks : List Bool) (a b : List ℕ) → SameWord a b → HasMark marks a → HasMark marks b
marked_same marks a b same is = subst (λ n. get_or marks n true ≡ true) (same_number a b same) is

-- a name without a mark is that of no row
pub none_moved : (rows : List Row) (marks : List Bool) (key : Key) → AreMarked rows marks
    → ¬ (HasMark marks key.name)
    → HasNone (IsMovedRow key) rows
none_moved rows marks key marked lacks k d inside moved =
    lacks (marked_same marks _ _ moved.name (marked k d inside).name)

-- no row covers a key that lacks marks
pub none_covers : (rows : List Row) (marks : List Bool) (key : Key) → AreMarked rows marks → LacksMarks marks key
    → CoversNone rows key
none_covers rows marks key marked lacks k d inside covers = elim covers.name [
  | inl star ↦ lacks.section (marked_same marks _ _ covers.section ((marked k d inside).section star))
  | inr same ↦ lacks.name (marked_same marks _ _ same (marked k d inside).name)
]

-- one more number is marked
pub mark_kept : (marks : List Bool) (number n : ℕ) → number < length marks → get_or marks n true ≡ true
    → get_or (set marks number true) n true ≡ true
mark_kept marks number n below is = elim (cases_Bool (n == number)) [
  | inl same ↦ get_or-set_at marks number n true true (eqb-true n number same) below
  | inr differ ↦ get_or-set_other marks number n true true (eqb-false n number differ) ∙ is
]

abbrev pub Keeps : List Bool → List Bool → Type 0
Keeps marks more = (n : ℕ) → get_or marks n true ≡ true → get_or more n true ≡ true

-- the rows so far are marked, and one more
pub marked_more : (rows : List Row) (i : ℕ) (row : Row) (marks more : List Bool) → i < length rows
    → get_or rows i row ≡ row
    → AreMarked (take i rows) marks → Keeps marks more → IsMarked more row → AreMarked (take (i + 1) rows) more
marked_more rows i row marks more below here so_far kept also =
    rw (take_more rows i row below here) (All-push (IsMarked more) (take i rows) row (λ k d inside.
    let was = so_far k d inside in record {
      name = kept _ was.name;
      section = λ star.
          kept _ (was.section star);
    }) also)
