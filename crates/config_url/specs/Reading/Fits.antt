-- The closest of settings, found one after the other.
use Rattle.std.specs.Prelude.{true, ◌≡◌, List, [], ◌∷◌, ◌++◌, ℕ, Option, MatchOption, Result, IfOk}
use Rattle.std.specs.Borrow.{Bor}
use Rattle.config_url.specs.Deciding.{Fits, LacksFit, IsClosest}
use Rattle.config_file.specs.Key.{Key}
use Rattle.config_file.specs.Listing.{IsListed}
use Rattle.config_url.specs.Url.{Url, Fit, IsUrl, Matches, fit_of}
use Rattle.config_file.specs.Views.{entry_of}
use Rattle.config_file.specs.declared.settings.Setting.{Setting}

-- the text is a pattern that matches the URL, and this is how closely it fits
abbrev pub FitsBy : List ℕ → Url → Fit → Type 0
FitsBy text u f = (pattern : Url) × IsUrl true text pattern × Matches pattern u × (f ≡ fit_of pattern)

-- the closest of the settings so far, if any fits
pub record Best (key : Key) (u : Url) (settings : List Setting) (f : Fit) (setting : Setting) : Type 0 where
  pub closest : IsClosest key u settings setting
  pub same : closest.found ≡ f
  pub only : (g : Fit) → Fits key u (entry_of setting.entry) g → g ≡ f

abbrev pub BestOf : {V : Type 0} → (V → Fit) → Key → Url → List Setting → Option (V × Bor Setting) → Type 0
BestOf view key u settings best = MatchOption best (LacksFit key u settings)
    (λ b. Best key u settings (view b.0) b.1.now)

-- what is the best so far is so with one more setting too, unless memory is refused
abbrev pub TakesNext : {V E : Type 0} → (V → Fit) → Key → Url → Setting → Option (V × Bor Setting)
    → Result (Option (V × Bor Setting)) E → Type 0
TakesNext view key u setting best result = (settings : List Setting) (text : List ℕ)
    → IsListed (entry_of setting.entry).section (entry_of setting.entry).key text
    → BestOf view key u settings best
    → IfOk result (BestOf view key u (settings ++ setting ∷ []))
