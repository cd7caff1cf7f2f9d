-- Settings with a key, searched one by one.
use Rattle.std.proofs.Common.{◌≡◌, ◌≤◌, ◌<◌, ◌+◌, ◌++◌, ◌∙◌, ◌↔◌, ◌⊎◌, inl, inr, ℕ, Bool, true, false, List}
use Rattle.std.proofs.Common.{[], ◌∷◌, Some, length, take, get_or, IsTrue, sym, subst, ap, arith}
use Rattle.std.specs.List.{slice_get, AllWithin}
use Rattle.std.proofs.lemmas.Option.{get_or_from_slice_get, slice_get-get_or}
use Rattle.std.proofs.lemmas.List.{take_all}
use Rattle.std.proofs.lemmas.Bool.{cases_lt}
use Rattle.config_file.specs.Key.{Key, HasKey}
use Rattle.config_file.specs.Listing.{IsListed}
use Rattle.config_file.specs.Settings.{AreListed, IsLast, AllWithKey, Picks}
use Rattle.config_file.proofs.Picked.{picks_next}
use Rattle.config_file.specs.Views.{entry_of}
use Rattle.config_file.specs.declared.settings.Setting.{Setting}
use Rattle.config_file.proofs.Patterns.{no_match}

pub at_index : {X : Type 0} (xs : List X) (i : ℕ) (x : X) → i < length xs → x ≡ get_or xs i x
    → slice_get xs i ≡ Some x
at_index xs i x within is = slice_get-get_or xs i x within ∙ ap Some (sym is)

-- whether a setting has a key, by what a test of a listed entry says
abbrev pub Tests : Setting → Key → Bool → Type 0
Tests setting key b = (text : List ℕ)
    → IsListed (entry_of setting.entry).section (entry_of setting.entry).key text
    → (IsTrue b ↔ HasKey (entry_of setting.entry) key)

-- one of the settings is listed
pub listed_at : (settings : List Setting) (i : ℕ) (setting : Setting)
    → slice_get settings i ≡ Some setting → i < length settings → AreListed settings
    → (text : List ℕ) × IsListed (entry_of setting.entry).section (entry_of setting.entry).key text
listed_at settings i setting at within listed =
    rw (get_or_from_slice_get settings i setting setting at) at (listed i setting within)

tested : (settings : List Setting) (key : Key) (i : ℕ) (setting : Setting) (b : Bool)
    → slice_get settings i ≡ Some setting → i < length settings → AreListed settings → Tests setting key b
    → (IsTrue b ↔ HasKey (entry_of setting.entry) key)
tested settings key i setting b at within listed tests =
    let (text, is) = listed_at settings i setting at within listed in tests text is

pub found : (settings : List Setting) (key : Key) (i low : ℕ) (setting : Setting) (b : Bool)
    → slice_get settings i ≡ Some setting → i < length settings → low ≡ i + 1 → b ≡ true → Tests setting key b
    → (AreListed settings
    → AllWithin (λ later. ¬ (HasKey (entry_of later.entry) key)) settings low (length settings))
    → AreListed settings → IsLast settings key setting
found settings key i low setting b at within above is_true tests later listed = (
  i,
  at,
  (tested settings key i setting b at within listed tests).0 is_true,
  rw above at (later listed),
)

pub not_found : (settings : List Setting) (key : Key) (i low : ℕ) (setting : Setting) (b : Bool)
    → slice_get settings i ≡ Some setting → i < length settings → low ≡ i + 1 → b ≡ false
    → Tests setting key b
    → (AreListed settings
    → AllWithin (λ later. ¬ (HasKey (entry_of later.entry) key)) settings low (length settings))
    → AreListed settings
    → AllWithin (λ later. ¬ (HasKey (entry_of later.entry) key)) settings i (length settings)
not_found settings key i low setting b at within above is_false tests later listed k d from to =
    elim (cases_lt i k) [
      | inl more ↦ later listed k d (omega arith) to
      | inr less ↦
          let same : i ≡ k = omega arith in
          subst (λ s. ¬ (HasKey (entry_of s.entry) key))
          (sym (ap (λ n. get_or settings n d) (sym same) ∙ get_or_from_slice_get settings i setting d at))
          (no_match b is_false (tested settings key i setting b at within listed tests))
    ]

pub all_next : {key : Key} {all : List Setting} (settings : List Setting) (i : ℕ) (setting : Setting) (next : List Setting)
    (b : Bool) → slice_get settings i ≡ Some setting → i < length settings → Tests setting key b
    → ((b ≡ true) × (next ≡ all ++ setting ∷ [])) ⊎ ((b ≡ false) × (next ≡ all))
    → (AreListed settings → AllWithKey key (take i settings) all) → AreListed settings
    → AllWithKey key (take (i + 1) settings) next
all_next settings i setting next b at within tests either before listed =
    let (text, is) = listed_at settings i setting at within listed in
    picks_next settings i setting next b at within (tests text is) either (before listed)

pub picks_done : {P : Setting → Type 0} {all : List Setting} (settings : List Setting) (i : ℕ)
    → length settings ≤ i
    → (AreListed settings → Picks P (take i settings) all) → AreListed settings → Picks P settings all
picks_done settings i past is listed = rw (take_all i settings past) at (is listed)
