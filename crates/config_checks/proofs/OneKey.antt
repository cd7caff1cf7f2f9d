-- At most one row decides about a text.
use Rattle.std.proofs.Common.{◌≡◌, ℕ, inl, inr, List}
use Rattle.config_file.specs.KeyView.{key_of}
use Rattle.config_file.proofs.OneKey.{cut_same, cut_has_dot}
use Rattle.config_checks.specs.declared.row.Row.{Row}
use Rattle.config_checks.specs.Keys.{Covers}
use Rattle.config_checks.specs.Rows.{Decides, IsUnknown}
use Rattle.config_checks.proofs.FirstLemmas.{first_once, not_none}
use Rattle.config_checks.proofs.RunLemmas.{covering_first}

module _ (rows : List Row) (t : List ℕ) where
  pub known_once : (row : Row) → Decides rows t row → ¬ (IsUnknown rows t)
  known_once row decides (inl none) = cut_has_dot decides.cut none
  known_once row decides (inr other) =
      not_none (λ row. Covers (key_of row.key) other.0) rows row
      (covering_first other.0 (rw (cut_same decides.cut other.1) at decides.covering)) other.2

  pub row_once : (a b : Row) → Decides rows t a → Decides rows t b → a ≡ b
  row_once a b p q =
      first_once (λ row. Covers (key_of row.key) q.key) rows a b
      (covering_first q.key (rw (cut_same p.cut q.cut) at p.covering)) (covering_first q.key q.covering)
