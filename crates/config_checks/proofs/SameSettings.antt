-- What mends a setting mends each setting with the same key and value.
use Rattle.std.proofs.Common.{◌≡◌, ℕ, List, sym, refl, ◌∙◌}
use Rattle.config_checks.specs.declared.code.Code.{Code}
use Rattle.config_checks.specs.declared.fix.Fix.{Fix}
use Rattle.config_checks.specs.declared.fix.Fix.TheVariants.{Name, Value}
use Rattle.config_checks.specs.declared.fix.Safety.{Safety}
use Rattle.config_checks.specs.declared.fix.Safety.TheVariants.{Safe, Unsafe}
use Rattle.config_checks.specs.declared.options.Options.{Options}
use Rattle.config_checks.specs.declared.row.Row.{Row}
use Rattle.config_checks.specs.declared.setting.Setting.{Setting}
use Rattle.config_checks.specs.Findings.{Finding}
use Rattle.config_checks.specs.Fixes.{IsSafe, IsSafeValue, HasSafety, Mends}
use Rattle.config_checks.specs.Fixes as fixes
use Rattle.config_checks.specs.Settings.{value_of}

-- ---- the same proposal about the same setting

module _ (rows : List Row) (options : Options) (s s' : Setting) (keys : s'.key.items ≡ s.key.items)
    (values : value_of s' ≡ value_of s)
    (f f' : Finding) (codes : f'.code ≡ f.code) (wanted : f'.suggested_key ≡ f.suggested_key)
    (meant : f'.suggested_value ≡ f.suggested_value) where
  pub same_mends : (fix : Fix) → Mends rows options s' f' fix → Mends rows options s f fix
  same_mends (Value new) (is, mends) = (
    sym meant ∙ is,
    record {
      clean = record { row = mends.clean.row; decides = rw keys at mends.clean.decides; clean = mends.clean.clean };
      only = rw (codes, values) at mends.only;
    },
  )
  same_mends (Name name) (key, is, none, code, renamed, mends) = (
    key,
    sym wanted ∙ is,
    sym meant ∙ none,
    sym codes ∙ code,
    rw keys at renamed,
    record { clean = rw values at mends.clean; only = rw keys at mends.only },
  )

-- ---- safety of the same change of the same setting

module _ (s s' : Setting) (keys : s'.key.items ≡ s.key.items) (values : value_of s' ≡ value_of s)
    (code code' : Code) (codes : code' ≡ code) where
  value_safe : (new : List ℕ) → IsSafeValue s' code' new → IsSafeValue s code new
  value_safe new (fixes.spelled is) = fixes.spelled (sym codes ∙ is)
  value_safe new (fixes.asked is) = fixes.asked (sym codes ∙ is)
  value_safe new (fixes.mistyped value held typed) = fixes.mistyped value (sym values ∙ held) typed

  pub is_safe : (fix : Fix) → IsSafe s' code' fix → IsSafe s code fix
  is_safe (Value new) safe = value_safe new.now safe
  is_safe (Name name) safe = record { key = safe.key; is = rw keys at safe.is; mistyped = safe.mistyped }

pub same_safety : (s s' : Setting) (keys : s'.key.items ≡ s.key.items) (values : value_of s' ≡ value_of s)
    (code : Code) (fix : Fix)
    (safety : Safety) → HasSafety s' code fix safety → HasSafety s code fix safety
same_safety s s' keys values code fix Safe safe = is_safe s s' keys values code code refl fix safe
same_safety s s' keys values code fix Unsafe never =
    λ safe. never (is_safe s' s (sym keys) (sym values) code code refl fix safe)
