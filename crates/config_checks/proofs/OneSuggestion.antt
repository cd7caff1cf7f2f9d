-- For an unknown key at most one key is suggested.
use Rattle.std.proofs.Common.{arith, ◌≡◌, ℕ, List, Option, None, Some, refl, sym, ap, subst, ◌∙◌}
use Rattle.config_file.specs.Key.{Key}
use Rattle.config_file.specs.KeyView.{key_of}
use Rattle.config_file.proofs.OneKey.{cut_same, cut_has_dot, same_parts}
use Rattle.config_checks.specs.declared.row.Row.{Row}
use Rattle.config_checks.specs.declared.suggestion.UnknownKey.{UnknownKey}
use Rattle.config_checks.specs.Nearest.{AreFar}
use Rattle.config_checks.specs.Suggestions.{Fills, FillsSubsection, FillsKey, IsOwn, IsPassed, IsUnknownKey}
use Rattle.config_checks.specs.Suggestions.{RowEdits, Suggests, nearest_of}
use Rattle.config_checks.specs.Suggestions.{IsMovedRow, IsElsewhere, IsNowhere, IsSuggested}
use Rattle.config_checks.specs.Suggestions.IsSuggested.{near, moved}
use Rattle.config_checks.specs.Suggestions.IsPassed.{no_dot, foreign}
use Rattle.config_checks.proofs.FirstLemmas.{first_once, not_none}
use Rattle.config_checks.proofs.RunLemmas.{such_first}
use Rattle.config_checks.proofs.NearestLemmas.{nearest_once, no_far}

-- ---- the parts of a key that is suggested

filled_once : (row part x y : List ℕ) → Fills row part x → Fills row part y → x ≡ y
filled_once row part x y p q = grind arith

subsection_once : (row part x y : Option (List ℕ)) → FillsSubsection row part x → FillsSubsection row part y → x ≡ y
subsection_once row part x y p q = grind (arith, filled_once)

key_once : (row key x y : Key) → FillsKey row key x → FillsKey row key y → x ≡ y
key_once row key x y p q =
    same_parts x y (p.section ∙ sym q.section)
    (subsection_once row.subsection key.subsection x.subsection y.subsection p.subsection q.subsection)
    (filled_once row.name key.name x.name y.name p.name q.name)

-- ---- the key that is suggested

module _ (rows : List Row) where
  not_nowhere : (key : Key) (row : Row) → IsElsewhere rows key row → ¬ (IsNowhere rows key)
  not_nowhere key row is none = grind (arith, not_none (IsMovedRow key) rows, such_first)

  not_suggested : (key : Key) (row : Row) → IsSuggested rows key row → AreFar (RowEdits key) rows
      → ¬ (IsNowhere rows key)
  not_suggested key row (near is) far none = no_far (RowEdits key) rows row is far
  not_suggested key row (moved far is) also none = not_nowhere key row is none

  row_suggested : (key : Key) (x y : Row) → IsSuggested rows key x → IsSuggested rows key y → x ≡ y
  row_suggested key x y is also =
      grind (
        arith,
        nearest_once (RowEdits key) rows,
        no_far (RowEdits key) rows,
        first_once (IsMovedRow key) rows,
        such_first,
      )

  suggested_once : (key : Key) (x y : Option Key) → Suggests rows key x → Suggests rows key y → x ≡ y
  suggested_once key None None p q = refl
  suggested_once key None (Some y) p q = absurd (not_suggested key q.0 q.1 p.0 p.1.0)
  suggested_once key (Some x) None p q = absurd (not_suggested key p.0 p.1 q.0 q.1.0)
  suggested_once key (Some x) (Some y) (r, is, fills) (r', is', fills') =
      let rows_same = row_suggested key r' r is' is in
      ap Some (key_once (key_of r.key) key x y fills
      (subst (λ row. FillsKey (key_of row.key) key y) rows_same fills'))

  pub nearest_same : (t : List ℕ) (x y : UnknownKey) → IsUnknownKey rows t x → IsUnknownKey rows t y
      → nearest_of x ≡ nearest_of y
  nearest_same t x y p q =
      suggested_once q.key (nearest_of x) (nearest_of y)
      (subst (λ key. Suggests rows key (nearest_of x)) (cut_same p.cut q.cut) p.suggests) q.suggests

  suggests_far : (key : Key) (nearest : Option Key) → Suggests rows key nearest → AreFar (RowEdits key) rows
      → IsNowhere rows key → IsOwn rows key
  suggests_far key None suggests far none = suggests.1.1
  suggests_far key (Some k) (row, is, fills) far none = absurd (not_suggested key row is far none)

  pub not_passed : (t : List ℕ) (x : UnknownKey) → IsUnknownKey rows t x → ¬ (IsPassed rows t)
  not_passed t x p (no_dot none) = cut_has_dot p.cut none
  not_passed t x p (foreign key is other) =
      other.not_own (suggests_far key (nearest_of x)
      (subst (λ key. Suggests rows key (nearest_of x)) (cut_same p.cut is) p.suggests) other.far other.nowhere)
