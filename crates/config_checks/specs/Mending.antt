-- A text in which findings are mended.
--
-- Look for: `IsMend`: the change is that of the entry which the finding names, and a guess only if guesses
-- are wanted.
-- `HasMends`: no such change is left out. `IsMended`: `ChangesEntries` says of each other entry, and of each
-- other byte,
-- that it stays.
use Rattle.std.specs.Prelude.{◌≡◌, ◌≢◌, ◌⊎◌, ⊤, ℕ, Bool, true, false, List, [], ◌∷◌, ◌++◌, Option, None, Some, map}
use Rattle.std.specs.List.{slice_get, AllByRecursion}
use denote.Ref.{Bor}
use Rattle.config_edit.specs.declared.Change.{Change}
use Rattle.config_edit.specs.declared.EditError.{EditError}
use Rattle.config_edit.specs.declared.EditError.TheVariants as error
use Rattle.config_edit.specs.Edit.{ChangesEntries, RefusesChanges}
use Rattle.config_checks.specs.declared.code.Code.{Code}
use Rattle.config_checks.specs.declared.fix.Fix.{Fix}
use Rattle.config_checks.specs.declared.fix.Fix.TheVariants.{Name, Value}
use Rattle.config_checks.specs.declared.fix.Safety.{Safety}
use Rattle.config_checks.specs.declared.fix.Safety.TheVariants.{Safe, Unsafe}
use Rattle.config_checks.specs.declared.mending.Mend.{Mend}
use Rattle.config_checks.specs.declared.mending.Proposal.{Proposal}
use Rattle.config_checks.specs.declared.options.Options.{Options}
use Rattle.config_checks.specs.declared.row.Row.{Row}
use Rattle.config_checks.specs.declared.setting.Setting.{Setting}
use Rattle.config_checks.specs.Findings.{finding_of}
use Rattle.config_checks.specs.Fixes.{IsClean, IsSafe, Mends}
use Rattle.config_checks.specs.Report.{HasSettings}
use Rattle.config_checks.specs.Settings.{value_of}

-- ---- the changes

abbrev pub name_given : Fix → Option (Bor (List ℕ))
name_given (Name name) = Some name
name_given (Value new) = None

abbrev pub value_given : Fix → Option (Bor (List ℕ))
value_given (Name name) = None
value_given (Value new) = Some new

-- what becomes of the entry
abbrev pub change_of : Mend → Change
change_of mend = record {
  entry = mend.entry;
  name = name_given mend.fix;
  value = value_given mend.fix;
  comment = None;
}

-- the change that is proposed is as safe as this says
abbrev pub IsAsSafe : Proposal → Setting → Fix → Safety → Type 0
IsAsSafe proposal setting fix Safe = (proposal.is_guess ≡ false) × IsSafe setting proposal.finding.code fix
IsAsSafe proposal setting fix Unsafe = (proposal.is_guess ≡ true) ⊎ ¬ (IsSafe setting proposal.finding.code fix)

-- a safe change is always wanted, and a guess only if guesses are
abbrev pub IsWanted : (guesses : Bool) → Safety → Type 0
IsWanted guesses Safe = ⊤
IsWanted guesses Unsafe = guesses ≡ true

-- the change is wanted, and mends the finding about an entry of these settings
pub record IsMend (rows : List Row) (options : Options) (guesses : Bool) (settings : List Setting)
    (proposal : Proposal)
    (mend : Mend) : Type 0 where
  pub entry : proposal.finding.entry ≡ Some mend.entry
  pub setting : Setting
  pub stands : slice_get settings mend.entry ≡ Some setting
  pub mends : Mends rows options setting (finding_of proposal.finding) mend.fix
  pub safety : IsAsSafe proposal setting mend.fix mend.safety
  pub wanted : IsWanted guesses mend.safety

-- the wanted changes that mend what is proposed, in its order
pub data HasMends (rows : List Row) (options : Options) (guesses : Bool) (settings : List Setting)
    : List Proposal → List Mend → Type 0 where
  none : HasMends rows options guesses settings [] []
  mended : (proposal : Proposal) (mend : Mend) {proposals : List Proposal} {mends : List Mend}
      → HasMends rows options guesses settings proposals mends → IsMend rows options guesses settings proposal mend
      → HasMends rows options guesses settings (proposals ++ proposal ∷ []) (mends ++ mend ∷ [])
  left : (proposal : Proposal) {proposals : List Proposal} {mends : List Mend}
      → HasMends rows options guesses settings proposals mends
      → ((mend : Mend) → ¬ (IsMend rows options guesses settings proposal mend))
      → HasMends rows options guesses settings (proposals ++ proposal ∷ []) mends

-- ---- the text

-- nothing is found any more at the entry of the change
abbrev pub IsCleanNow : List Row → Options → List Setting → Mend → Type 0
IsCleanNow rows options settings mend = (setting : Setting) × (slice_get settings mend.entry ≡ Some setting)
    × IsClean rows options setting.key.items (value_of setting)

-- The new text is the old one in which these changes are made, and no others: those that are wanted, and mend
-- what is
-- proposed. Nothing is found any more at the entries that change.
pub record IsMended (rows : List Row) (options : Options) (guesses : Bool) (file text : List ℕ)
    (proposals : List Proposal)
    (mends : List Mend) (new : List ℕ) : Type 0 where
  pub settings : List Setting
  pub of_file : HasSettings file text settings None
  pub have : HasMends rows options guesses settings proposals mends
  pub made : ChangesEntries (map change_of mends) text new
  pub clean : (now : List Setting) → HasSettings file new now None
      → AllByRecursion (IsCleanNow rows options now) mends

-- why nothing is mended: memory is refused, the text is not a configuration file, or one of the changes
-- cannot be made
abbrev pub RefusesMending : List Row → Options → (guesses : Bool) → (file text : List ℕ) → List Proposal
    → EditError → Type 0
RefusesMending rows options guesses file text proposals (error.Memory e) = ⊤
RefusesMending rows options guesses file text proposals (error.File e) =
    (settings : List Setting) × HasSettings file text settings (Some e)
RefusesMending rows options guesses file text proposals e = (settings : List Setting) × (mends : List Mend)
    × HasSettings file text settings None × HasMends rows options guesses settings proposals mends
    × RefusesChanges (map change_of mends) text e

-- ---- a second time

-- what is proposed for which finding
abbrev pub proposed : Proposal → Option ℕ × Code × Option (List ℕ) × Option (List ℕ) × Bool
proposed proposal = let f = finding_of proposal.finding in
    (f.entry, f.code, f.suggested_key, f.suggested_value, proposal.is_guess)

-- the same was proposed before, and the changes that were made are of other entries
pub record IsLeftOver (proposals : List Proposal) (mends : List Mend) (again : Proposal) : Type 0 where
  pub other : AllByRecursion (λ mend. again.finding.entry ≢ Some mend.entry) mends
  pub place : ℕ
  pub before : Proposal
  pub was : slice_get proposals place ≡ Some before
  pub same : proposed again ≡ proposed before
