-- Folders that settings name as safe, one setting after the other, and what is done in one that is trusted.
use Rattle.std.proofs.Common.{◌≡◌, ◌+◌, ◌∷◌, ◌++◌, [], ℕ, Bool, List, Some, inl, inr, true, Decides, codes, refl, subst, take}
use Rattle.std.specs.List.{slice_get}
use Rattle.std.proofs.lemmas.Option.{slice_get_within}
use Rattle.std.proofs.lemmas.Bool.Decides.{Decides-like}
use Rattle.std.proofs.lemmas.List.{same_from_push}
use Rattle.config_file.specs.Key.{Key, HasKey, IsKey, key}
use Rattle.config_file.specs.Settings.{path_bytes}
use Rattle.config_file.specs.Views.{entry_of}
use Rattle.config_file.specs.declared.settings.Setting.{Setting}
use Rattle.config_file.proofs.OneKey.{cut_same}
use Rattle.config_file.proofs.Picked.{take_next}
use Rattle.config_search.specs.System.{System}
use Rattle.config_search.specs.Trust.{AreSafe, named, kept, NamesFolder, SaysSafe}
use Rattle.config_search.specs.Shown.{IsSafeAfter}

-- no setting names a folder
pub none_safe : {system : System} {start folder : List ℕ} {key : Key} {settings : List Setting} → settings ≡ []
    → AreSafe system start folder key settings → ⊥
none_safe e (named [] setting has names) = cc
none_safe e (named (x ∷ settings) setting has names) = cc
none_safe e (kept {settings = []} setting other safe) = cc
none_safe e (kept {settings = x ∷ settings} setting other safe) = cc

-- what the last setting says, and those before it
last_of : {system : System} {start folder : List ℕ} {key : Key} {all : List Setting} (settings : List Setting)
    (setting : Setting) (was_safe : Bool) → all ≡ settings ++ setting ∷ []
    → Decides was_safe (AreSafe system start folder key settings) → AreSafe system start folder key all
    → IsSafeAfter system start folder key setting was_safe
last_of {system} {start} {folder} {key} settings setting was_safe e before (named front last has names) =
    let same = (same_from_push front settings last setting e).1 in
    inl (
      subst (λ (s : Setting). HasKey (entry_of s.entry) key) same has,
      subst (λ (s : Setting). NamesFolder system start (path_bytes s) folder) same names,
    )
last_of {system} {start} {folder} {key} settings setting was_safe e before (kept {settings = front} last other safe) =
    let (fronts, same) = same_from_push front settings last setting e in
    inr (
      before.1 (subst (λ (s : List Setting). AreSafe system start folder key s) fronts safe),
      subst (λ (s : Setting). ¬ (HasKey (entry_of s.entry) key × (path_bytes s ≡ []))) same other,
    )

one_more : (system : System) (start folder : List ℕ) (key : Key) (settings : List Setting) (i : ℕ)
    (setting : Setting) (was_safe is_safe : Bool) → slice_get settings i ≡ Some setting
    → Decides was_safe (AreSafe system start folder key (take i settings))
    → Decides is_safe (IsSafeAfter system start folder key setting was_safe)
    → Decides is_safe (AreSafe system start folder key (take (i + 1) settings))
one_more system start folder key settings i setting was_safe is_safe same before is =
    rw (take_next settings i setting same (slice_get_within settings i setting same)) (Decides-like is_safe (λ after. elim after [
      | inl (has, names) ↦ named (take i settings) setting has names
      | inr (was, other) ↦ kept setting other (before.0 was)
    ]) (last_of (take i settings) setting was_safe refl before) is)

pub after_kept : (system : System) (start folder : List ℕ) (key : Key) (setting : Setting) (was_safe : Bool)
    → (was_safe ≡ true) × ¬ (path_bytes setting ≡ []) → IsSafeAfter system start folder key setting was_safe
after_kept system start folder key setting was_safe (was, some) = inr (was, λ (has, empty). some empty)

pub after_named : (system : System) (start folder : List ℕ) (key : Key) (setting : Setting) (was_safe is : Bool)
    → HasKey (entry_of setting.entry) key → ¬ ((was_safe ≡ true) × ¬ (path_bytes setting ≡ []))
    → Decides is (NamesFolder system start (path_bytes setting) folder)
    → Decides is (IsSafeAfter system start folder key setting was_safe)
after_named system start folder key setting was_safe is has fails = Decides-like is (λ names. inl (has, names))
    (λ after. elim after [
      | inl (also, names) ↦ names
      | inr (was, other) ↦ absurd (fails (was, λ empty. other (has, empty)))
    ])

-- what settings with this key say
all_with : (system : System) (start folder : List ℕ) (settings : List Setting) (key : Key) → IsKey (codes "safe.directory") key
    → SaysSafe system start folder settings → AreSafe system start folder key settings
all_with system start folder settings key is_key (other, also, safe) =
    subst (λ (k : Key). AreSafe system start folder k settings) (cut_same also.cut is_key.cut) safe

-- whether the folder is safe by one more setting
pub next_says : (system : System) (start folder : List ℕ) (settings : List Setting) (i : ℕ) (setting : Setting) (key : Key)
    (was_safe is_safe : Bool) → slice_get settings i ≡ Some setting → IsKey (codes "safe.directory") key
    → Decides was_safe (SaysSafe system start folder (take i settings))
    → Decides is_safe (IsSafeAfter system start folder key setting was_safe)
    → Decides is_safe (SaysSafe system start folder (take (i + 1) settings))
next_says system start folder settings i setting key was_safe is_safe same is_key before is =
    Decides-like is_safe (λ safe. (key, is_key, safe)) (all_with system start folder (take (i + 1) settings) key is_key)
    (one_more system start folder key settings i setting was_safe is_safe same
    (Decides-like was_safe (all_with system start folder (take i settings) key is_key) (λ safe. (key, is_key, safe)) before) is)
