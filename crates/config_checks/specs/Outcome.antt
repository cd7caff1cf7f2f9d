-- What the checks of several files come to: the sum of their counts, and the exit status.
use Rattle.std.specs.Prelude.{◌≡◌, ◌⊎◌, ℕ, ◌+◌, ◌-◌, ◌^◌, ◌<◌, min, Bool, true, false}
use Rattle.config_checks.specs.declared.check.Counts.{Counts}
use Rattle.config_checks.specs.declared.reason.Severity.{Severity}
use Rattle.config_checks.specs.declared.reason.Severity.TheVariants.{Error, Warning, Note}

-- the sum of two numbers, or the greatest number of 64 bits if that is less
abbrev pub sum_of : ℕ → ℕ → ℕ
sum_of m n = min (m + n) (2 ^ 64 - 1)

-- the counts of two files together
abbrev pub counts_of_both : Counts → Counts → Counts
counts_of_both s t = record {
  entries = sum_of s.entries t.entries;
  unknown = sum_of s.unknown t.unknown;
  findings = sum_of s.findings t.findings;
  errors = sum_of s.errors t.errors;
  warnings = sum_of s.warnings t.warnings;
}

-- there is a finding of at least this severity
abbrev pub HasAtLeast : Severity → Counts → Type 0
HasAtLeast Note s = 0 < s.findings
HasAtLeast Warning s = (0 < s.errors) ⊎ (0 < s.warnings)
HasAtLeast Error s = 0 < s.errors

-- the exit status: 2 if a file could not be read, otherwise 1 if there is a finding of at least this severity,
-- and otherwise 0
abbrev pub IsStatus : Severity → (is_unread : Bool) → Counts → ℕ → Type 0
IsStatus least true s status = status ≡ 2
IsStatus least false s status = (HasAtLeast least s × (status ≡ 1)) ⊎ (¬ (HasAtLeast least s) × (status ≡ 0))
