-- Versions of Git, and the rows that hold for one.
use Rattle.std.specs.Prelude.{◌≡◌, ◌⊎◌, ◌<ℤ◌, ℕ, List, Some, unwrap_or}
use Rattle.gix_config_value.specs.Amount.{AmountText}
use Rattle.config_file.specs.Key.{Key, IsCut}
use Rattle.config_checks.specs.declared.version.Version.{Version}
use Rattle.config_checks.specs.declared.row.Row.{Row}

-- the first version is older than the second
abbrev pub IsBefore : Version → Version → Type 0
IsBefore v w = (v.major.0 <ℤ w.major.0) ⊎ ((v.major.0 ≡ w.major.0) × (v.minor.0 <ℤ w.minor.0))

-- The text names this version of Git. Like a key it is cut at its first dot and at its last dot: into two integer
-- texts or, as in `2.39.5`, into three parts, of which the first two are integer texts.
pub record IsVersion (t : List ℕ) (v : Version) : Type 0 where
  pub parts : Key
  pub cut : IsCut t parts
  pub major : AmountText parts.section v.major
  pub minor : AmountText (unwrap_or parts.subsection parts.name) v.minor

-- the row is too new for this Git
abbrev pub IsTooNew : Version → Row → Type 0
IsTooNew git row = (since : Version) × (row.since ≡ Some since) × IsBefore git since

-- the row holds for this Git: from the version `since` on, and before the version `until`
pub record IsOf (git : Version) (row : Row) : Type 0 where
  pub since : ¬ (IsTooNew git row)
  pub until : (until : Version) → row.until ≡ Some until → IsBefore git until
