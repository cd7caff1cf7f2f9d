-- The subsections of settings, found one by one.
use Rattle.std.proofs.Common.{◌≡◌, ◌≢◌, ◌<◌, ◌+◌, ◌++◌, ◌∙◌, ◌⊎◌, inl, inr, ℕ, List, [], ◌∷◌, Option, Some}
use Rattle.std.proofs.Common.{None, length, take, map, option_map, sym, subst, ap, MatchOption, ◌≤◌, bytes_eq}
use Rattle.std.specs.Char.{to_ascii_lowercase}
use Rattle.std.specs.List.{slice_get}
use Rattle.std.proofs.lemmas.List.{take_all}
use Rattle.std.proofs.lemmas.Bool.{true≢false, cases_Bool}
use Rattle.std.proofs.lemmas.Slice.Eq.{bytes_eq-Decides}
use Rattle.config_file.specs.Key.{Key, IsCut}
use Rattle.config_file.specs.Listing.{IsListed}
use Rattle.config_file.specs.Reading.Adds.{AddsOnce}
use Rattle.config_file.specs.Settings.{AreListed, Picks, none, takes, leaves, HasSubsection, LacksSubsection}
use Rattle.config_file.specs.Settings.{AreSubsections, no_settings, lacks, has}
use Rattle.config_file.specs.Views.{entry_of}
use Rattle.config_file.specs.declared.settings.Setting.{Setting}
use Rattle.config_file.proofs.Last.{listed_at}
use Rattle.config_file.proofs.OneKey.{cut_same}
use Rattle.config_file.proofs.Picked.{picks_more, picks_same, take_next, In, in_of, contains_of}

same_or_not : (x y : List ℕ) → (x ≡ y) ⊎ (x ≢ y)
same_or_not x y = elim (cases_Bool (bytes_eq x y)) [
  | inl is ↦ inl ((bytes_eq-Decides x y).0 is)
  | inr is ↦ inr (λ e. true≢false (sym ((bytes_eq-Decides x y).1 e) ∙ is))
]

in_or_not : (xs : List (List ℕ)) (x : List ℕ) → In xs x ⊎ (¬ (In xs x))
in_or_not [] x = inr (λ is. is)
in_or_not (y ∷ ys) x = elim (same_or_not y x) [
  | inl is ↦ inl (inl is)
  | inr not ↦ elim (in_or_not ys x) [
    | inl is ↦ inl (inr is)
    | inr nor ↦ inr (λ either. elim either [ inl is ↦ not is | inr is ↦ nor is ])
  ]
]

in_picked : {x y : List ℕ} {all picked : List (List ℕ)} → y ≢ x → Picks (λ other. other ≢ x) all picked
    → In all y
    → In picked y
in_picked other none is = absurd is
in_picked other (takes h rest) (inl is) = inl is
in_picked other (takes h rest) (inr is) = inr (in_picked other rest is)
in_picked other (leaves l rest) (inl is) = absurd (l (λ e. other (sym is ∙ e)))
in_picked other (leaves l rest) (inr is) = in_picked other rest is

in_all : {P : List ℕ → Type 0} (y : List ℕ) {all picked : List (List ℕ)} → Picks P all picked → In picked y
    → In all y
in_all y none is = absurd is
in_all y (takes h rest) (inl is) = inl is
in_all y (takes h rest) (inr is) = inr (in_all y rest is)
in_all y (leaves l rest) is = inr (in_all y rest is)

subs_lack : {section : List ℕ} {settings : List Setting} {found : List (List ℕ)} (setting : Setting)
    → LacksSubsection section setting → AreSubsections section settings found
    → AreSubsections section (settings ++ setting ∷ []) found
subs_lack setting not no_settings = lacks not no_settings
subs_lack setting not (lacks l rest) = lacks l (subs_lack setting not rest)
subs_lack setting not (has h rest others) = has h (subs_lack setting not rest) others

subs_new : {section : List ℕ} {settings : List Setting} {found : List (List ℕ)} (setting : Setting) (sub : List ℕ)
    → HasSubsection section setting sub → ¬ (In found sub) → AreSubsections section settings found
    → AreSubsections section (settings ++ setting ∷ []) (found ++ sub ∷ [])
subs_new setting sub is not no_settings = has is no_settings none
subs_new setting sub is not (lacks l rest) = lacks l (subs_new setting sub is not rest)
subs_new setting sub is not (has h rest others) =
    has h (subs_new setting sub is (λ i. not (inr (in_picked (λ e. not (inl (sym e))) others i))) rest)
    (picks_more sub (λ e. not (inl (sym e))) others)

subs_again : {section : List ℕ} {settings : List Setting} {found : List (List ℕ)} (setting : Setting) (sub : List ℕ)
    → HasSubsection section setting sub → In found sub → AreSubsections section settings found
    → AreSubsections section (settings ++ setting ∷ []) found
subs_again setting sub is there no_settings = absurd there
subs_again setting sub is there (lacks l rest) = lacks l (subs_again setting sub is there rest)
subs_again setting sub is there (has {found = found} h rest others) = elim (in_or_not found sub) [
  | inl within ↦ has h (subs_again setting sub is within rest) others
  | inr not ↦ has h (subs_new setting sub is not rest) (picks_same sub (λ other. elim there [
    | inl same ↦ other (sym same)
    | inr later ↦ not (in_all sub others later)
  ]) others)
]

pub subs_next : {V : Type 0} {section : List ℕ} {old : List (List ℕ)} (items : V → List ℕ) (settings : List Setting)
    (i : ℕ) (setting : Setting) (new : List (List ℕ)) (found : Option V)
    → slice_get settings i ≡ Some setting → i < length settings
    → ((text : List ℕ) → IsListed (entry_of setting.entry).section (entry_of setting.entry).key text
    → MatchOption found (LacksSubsection section setting) (λ v. HasSubsection section setting (items v)))
    → AddsOnce (option_map items found) old new
    → (AreListed settings → AreSubsections section (take i settings) old) → AreListed settings
    → AreSubsections section (take (i + 1) settings) new
subs_next {section = section} items settings i setting new None at within tests adds before listed =
    let (text, is) = listed_at settings i setting at within listed in
    subst (λ s. AreSubsections section s new) (sym (take_next settings i setting at within))
    (subst (λ n. AreSubsections section (take i settings ++ setting ∷ []) n) (sym adds)
    (subs_lack setting (tests text is) (before listed)))
subs_next {section = section} {old = old} items settings i setting new (Some v) at within tests adds before listed =
    let (text, is) = listed_at settings i setting at within listed in
    subst (λ s. AreSubsections section s new) (sym (take_next settings i setting at within)) (elim adds [
      | inl same ↦ subst (λ n. AreSubsections section (take i settings ++ setting ∷ []) n) (sym same.1)
          (subs_again setting (items v) (tests text is) (in_of old (items v) same.0) (before listed))
      | inr more ↦ subst (λ n. AreSubsections section (take i settings ++ setting ∷ []) n) (sym more.1)
          (subs_new setting (items v) (tests text is) (λ i. more.0 (contains_of old (items v) i)) (before listed))
    ])

pub subs_done : {section : List ℕ} {found : List (List ℕ)} (settings : List Setting) (i : ℕ)
    → length settings ≤ i
    → (AreListed settings → AreSubsections section (take i settings) found) → AreListed settings
    → AreSubsections section settings found
subs_done {section = section} {found = found} settings i past is listed =
    subst (λ s. AreSubsections section s found) (take_all i settings past) (is listed)

-- the text that Git lists for a setting is this
abbrev pub IsOnlyText : List ℕ → Setting → Type 0
IsOnlyText items setting = (listed : List ℕ)
    → IsListed (entry_of setting.entry).section (entry_of setting.entry).key listed → items ≡ listed

same_cut : {section items sub : List ℕ} {setting : Setting} (key : Key) → IsOnlyText items setting
    → IsCut items key
    → (found : HasSubsection section setting sub) → found.key ≡ key
same_cut {items = items} key only cut found =
    cut_same (subst (λ t. IsCut t found.key) (sym (only found.text found.is_listed)) found.is_cut) cut

pub other_section : (section items : List ℕ) (setting : Setting) (key : Key) → IsOnlyText items setting
    → IsCut items key
    → ¬ (map to_ascii_lowercase key.section ≡ map to_ascii_lowercase section)
    → LacksSubsection section setting
other_section section items setting key only cut not sub found =
    not (ap (λ k. map to_ascii_lowercase k.section) (sym (same_cut key only cut found)) ∙ found.same_section)

pub no_subsection : (section items : List ℕ) (setting : Setting) (key : Key) → IsOnlyText items setting
    → IsCut items key
    → key.subsection ≡ None → LacksSubsection section setting
no_subsection section items setting key only cut is sub found =
    let same : None ≡ Some sub =
    sym is ∙ ap (λ k. k.subsection) (sym (same_cut key only cut found)) ∙ found.has_subsection in cc
