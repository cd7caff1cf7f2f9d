-- Conditions on the URLs of remotes, and these URLs.
use Rattle.std.proofs.Common.{◌≡◌, ◌≢◌, ◌++◌, ◌∙◌, ℕ, List, Option, None, Some, true, false, ap, codes, map}
use Rattle.std.proofs.Common.{option_map, sym}
use Rattle.std.proofs.lemmas.Option.{same_Some}
use Rattle.std.specs.Char.{to_ascii_lowercase}
use Rattle.config_text.specs.Bytes.{LacksFront}
use Rattle.config_file.specs.Header.{Section}
use Rattle.config_file.specs.Subsection.{SpellsSubsection}
use Rattle.config_file.specs.Views.{entry_of, section_of}
use Rattle.config_file.specs.declared.entry.Entry as code
use Rattle.config_file.specs.declared.section.Section as code_section
use Rattle.config_file.specs.declared.section.Subsection as code_sub
use Rattle.config_search.specs.Reads.{HasUrlCondition, has, other_condition, other_section}

none_some : {A : Type 0} (x : A) → None ≡ Some x → ⊥
none_some x same = cc

-- the section of an entry
view : (entry : code.Entry) (section : Option code_section.Section) → entry.section ≡ section
    → (entry_of entry).section ≡ option_map section_of section
view entry section is = ap (option_map section_of) is

pub no_section : (entry : code.Entry) → entry.section ≡ None → HasUrlCondition (entry_of entry) false
no_section entry none = other_section (λ written raw is lower. none_some (written, Some raw)
    (sym (view entry None none) ∙ is))

pub no_subsection : (entry : code.Entry) (section : code_section.Section) → entry.section ≡ Some section
    → section.subsection ≡ None → HasUrlCondition (entry_of entry) false
no_subsection entry section is none = other_section (λ written raw has lower.
    none_some raw (sym (ap (option_map (λ s. s.raw.now)) none)
    ∙ ap (λ (s : Section). s.1) (same_Some _ _ (sym (view entry (Some section) is) ∙ has))))

pub other_name : (entry : code.Entry) (section : code_section.Section) → entry.section ≡ Some section
    → map to_ascii_lowercase section.name.now ≢ codes "includeif" → HasUrlCondition (entry_of entry) false
other_name entry section is other = other_section (λ written raw has lower.
    other (ap (map to_ascii_lowercase) (ap (λ (s : Section). s.0)
    (same_Some _ _ (sym (view entry (Some section) is) ∙ has))) ∙ lower))

module _ (entry : code.Entry) (section : code_section.Section) (sub : code_sub.Subsection)
    (is : entry.section ≡ Some section)
    (also : section.subsection ≡ Some sub) where
  same : (entry_of entry).section ≡ Some (section.name.now, Some sub.raw.now)
  same = view entry (Some section) is ∙ ap (λ (s : Option (List ℕ)). Some (section.name.now, s))
      (ap (option_map (λ s. s.raw.now)) also)

  pub condition : map to_ascii_lowercase section.name.now ≡ codes "includeif"
      → ((text : List ℕ) → SpellsSubsection sub.raw.now text
      → (pattern : List ℕ) × (text ≡ codes "hasconfig:remote.*.url:" ++ pattern)) → HasUrlCondition
      (entry_of entry) true
  condition lower spells = has section.name.now sub.raw.now same lower spells

  pub no_condition : ((text : List ℕ) → SpellsSubsection sub.raw.now text → LacksFront
      (codes "hasconfig:remote.*.url:") text)
      → HasUrlCondition (entry_of entry) false
  no_condition lacks = other_condition section.name.now sub.raw.now same lacks
