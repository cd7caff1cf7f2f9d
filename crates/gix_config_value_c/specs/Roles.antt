-- What an entry is to conditions on the URLs of remotes.
use Rattle.std.specs.Prelude.{◌≡◌, ℕ, Bool, true, false, List, Some, map, codes}
use Rattle.std.specs.Char.{to_ascii_lowercase}
use Rattle.config_file.specs.File.{Entry}
use Rattle.config_file.specs.Include.{SpellsCondition, IsRemoteUrl}
use Rattle.config_file.specs.Subsection.{SpellsSubsection}
use Rattle.config_file.specs.declared.include.Condition.{Condition}
use Rattle.config_file.specs.declared.include.Condition.TheVariants.{HasRemoteUrl}
use Rattle.gix_config_value_c.specs.declared.roles.Role.{Role}
use Rattle.gix_config_value_c.specs.declared.roles.Role.TheVariants as roles

-- the entry is in a section `includeIf`, whose subsection has these bytes
abbrev pub IsInIncludeIf : List ℕ → Entry → Type 0
IsInIncludeIf raw entry =
    (written : List ℕ) × (entry.section ≡ Some (written, Some raw)) × (map to_ascii_lowercase written ≡ codes "includeif")

-- whether the condition asks about the URLs of remotes
abbrev pub asks_urls : Condition → Bool
asks_urls (HasRemoteUrl pattern) = true
asks_urls condition = false

-- these bytes spell a condition that asks about the URLs of remotes, or that does not, by the flag
abbrev pub HasCondition : List ℕ → Bool → Type 0
HasCondition raw asks = (text : List ℕ) → SpellsSubsection raw text
    → (condition : Condition) × SpellsCondition text condition × (asks_urls condition ≡ asks)

-- the role of an entry: the URL of a remote, or an entry of a section with a condition, whatever its key
pub data HasRole (entry : Entry) : Role → Type 0 where
  remote_url : IsRemoteUrl entry → HasRole entry roles.RemoteUrl
  condition : (raw : List ℕ) → IsInIncludeIf raw entry → HasCondition raw false → HasRole entry roles.Condition
  url_condition : (raw : List ℕ) → IsInIncludeIf raw entry → HasCondition raw true → HasRole entry roles.UrlCondition
  plain : ¬ (IsRemoteUrl entry) → ((raw : List ℕ) → ¬ (IsInIncludeIf raw entry)) → HasRole entry roles.Plain
