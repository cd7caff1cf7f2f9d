-- The roles of entries, by their sections.
use Rattle.std.proofs.Common.{arith, ◌≡◌, ℕ, List, Option, None, Some, Bool, codes, map}
use Rattle.std.specs.Char.{to_ascii_lowercase}
use Rattle.config_file.specs.File.{Entry}
use Rattle.config_file.specs.Include.{SpellsCondition, IsRemoteUrl}
use Rattle.config_file.specs.Subsection.{SpellsSubsection}
use Rattle.config_file.specs.declared.include.Condition.{Condition}
use Rattle.gix_config_value_c.specs.Roles.{HasCondition, HasRole, asks_urls}
use Rattle.gix_config_value_c.specs.Roles.HasRole.{plain}
use Rattle.gix_config_value_c.specs.declared.roles.Role.TheVariants.{Plain}

-- an entry before the first header
pub no_section : (entry : Entry) → ¬ (IsRemoteUrl entry) → entry.section ≡ None → HasRole entry Plain
no_section entry no_url none = grind (arith, plain)

-- an entry in a section without a subsection
pub no_subsection : (entry : Entry) (name : List ℕ) → ¬ (IsRemoteUrl entry) → entry.section ≡ Some (name, None)
    → HasRole entry Plain
no_subsection entry name no_url is = grind (arith, plain)

-- an entry in a section with another name
pub other_section : (entry : Entry) (name : List ℕ) (subsection : Option (List ℕ)) → ¬ (IsRemoteUrl entry)
    → entry.section ≡ Some (name, subsection) → ¬ (map to_ascii_lowercase name ≡ codes "includeif")
    → HasRole entry Plain
other_section entry name subsection no_url is differs = grind (arith, plain)

-- the condition that the text of a subsection names is the one that its bytes spell
pub spells_condition : (raw text : List ℕ) (c : Condition) (asks : Bool)
    → ((spelled : List ℕ) → SpellsSubsection raw spelled → text ≡ spelled) → SpellsCondition text c → asks_urls c ≡ asks
    → HasCondition raw asks
spells_condition raw text c asks same names is =
    λ spelled spells. (c, rw (same spelled spells) at names, is)
