-- The settings that are of a URL, and the one that decides.
--
-- Look for: the closest setting decides, and of equally close ones the last. A subsection is a pattern, and
-- a setting without one fits each URL.
use Rattle.std.specs.Prelude.{true, ◌≡◌, ◌⊎◌, List, ◌∷◌, ◌++◌, ℕ, Option, Some, None, map}
use Rattle.std.specs.Char.{to_ascii_lowercase}
use Rattle.std.specs.List.{All}
use Rattle.config_file.specs.File.{Entry}
use Rattle.config_file.specs.Key.{Key, IsCut}
use Rattle.config_file.specs.Listing.{IsListed}
use Rattle.config_url.specs.Url.{Url, IsUrl, Matches, Fit, weakest, fit_of, IsCloser}
use Rattle.config_file.specs.Views.{entry_of}
use Rattle.config_file.specs.declared.settings.Setting.{Setting}

-- Git lists the entry under this section and this name, ignoring ASCII case, with this subsection or with
-- none between them. The asked key is a section and a name alone.
pub record IsUnder (key : Key) (entry : Entry) (subsection : Option (List ℕ)) : Type 0 where
  pub text : List ℕ
  pub parts : Key
  pub is_listed : IsListed entry.section entry.key text
  pub is_cut : IsCut text parts
  pub same_section : map to_ascii_lowercase parts.section ≡ map to_ascii_lowercase key.section
  pub same_name : map to_ascii_lowercase parts.name ≡ map to_ascii_lowercase key.name
  pub has_subsection : parts.subsection ≡ subsection
  pub alone : key.subsection ≡ None

-- the entry is of the URL: it has no pattern, which is the weakest fit, or its subsection is a pattern that
-- matches the URL, which fits as closely as that
abbrev pub Fits : Key → Url → Entry → Fit → Type 0
Fits key u entry f = (IsUnder key entry None × (f ≡ weakest))
    ⊎ ((text : List ℕ) × (pattern : Url) × IsUnder key entry (Some text) × IsUrl true text pattern
    × Matches pattern u × (f ≡ fit_of pattern))

-- no setting with this key is of the URL
abbrev pub LacksFit : Key → Url → List Setting → Type 0
LacksFit key u settings = All (λ setting. (f : Fit) → ¬ (Fits key u (entry_of setting.entry) f)) settings

-- this setting decides for the URL: no earlier one fits more closely, and each later one that fits does so
-- less
pub record IsClosest (key : Key) (u : Url) (settings : List Setting) (setting : Setting) : Type 0 where
  pub before : List Setting
  pub after : List Setting
  pub found : Fit
  pub among : settings ≡ before ++ setting ∷ after
  pub fits : Fits key u (entry_of setting.entry) found
  pub none_closer : All (λ s. (f : Fit) → Fits key u (entry_of s.entry) f → ¬ (IsCloser found f)) before
  pub later_weaker : All (λ s. (f : Fit) → Fits key u (entry_of s.entry) f → IsCloser f found) after
