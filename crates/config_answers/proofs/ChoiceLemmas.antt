-- Keys of a section, by the one way in which a text is cut.
use Rattle.std.proofs.Common.{◌≡◌, ◌++◌, ◌∙◌, ℕ, List, [], ◌∷◌, Option, None, Some, true, IfSome, map, ap, subst}
use Rattle.std.proofs.lemmas.List.{append_assoc}
use Rattle.std.proofs.lemmas.Option.{IfSome_then, none-some, same_Some}
use Rattle.std.specs.Char.{to_ascii_lowercase}
use Rattle.std.specs.List.{list_all}
use Rattle.config_file.specs.Header.{Section}
use Rattle.config_file.specs.Key.{Key, IsCut, key, dotted, is_no_dot}
use Rattle.config_file.specs.Listing.{IsListed, alone, in_section}
use Rattle.config_file.proofs.Keys.{listed_as}
use Rattle.config_file.proofs.OneKey.{cut_same, lower_no_dots, lower_twice}
use Rattle.config_answers.specs.Choices.{IsWithin}

pub other_section : {text section : List ℕ} {name : Option (List ℕ)} {key : Key} → IsCut text key
    → ¬ (map to_ascii_lowercase key.section ≡ map to_ascii_lowercase section) → ¬ (IsWithin section name text)
other_section {section = section} cut other within =
    other (subst (λ k. map to_ascii_lowercase k.section ≡ map to_ascii_lowercase section) (cut_same within.is_cut cut)
    within.same_section)

pub same_name : {text section name : List ℕ} {key : Key} → IsCut text key → IsWithin section (Some name) text
    → map to_ascii_lowercase key.name ≡ map to_ascii_lowercase name
same_name {name = name} cut within =
    subst (λ k. map to_ascii_lowercase k.name ≡ map to_ascii_lowercase name) (cut_same within.is_cut cut) within.same_name

-- an entry of which no part has a dot is cut there
pub ends_cut : (own : Section) {section : Option Section} {name text : List ℕ} → IsListed section name text
    → section ≡ Some own → list_all is_no_dot own.0 ≡ true → list_all is_no_dot name ≡ true
    → (sub : Option (List ℕ)) × IsCut text (key (map to_ascii_lowercase own.0) sub (map to_ascii_lowercase name))
ends_cut own alone e p q = absurd (none-some own e)
ends_cut own {name = name} (in_section {section = section} {listed = front} h) e p q =
    let same : section ≡ own = same_Some section own e in
    let (sub, _, is) = listed_as h in (
      sub,
      record {
        joined = ap (λ t. t ++ map to_ascii_lowercase name) is
            ∙ append_assoc (map to_ascii_lowercase section.0 ++ dotted sub) (46 ∷ []) (map to_ascii_lowercase name)
            ∙ ap (λ s. (map to_ascii_lowercase s.0 ++ dotted sub) ++ 46 ∷ map to_ascii_lowercase name) same;
        section = lower_no_dots own.0 p;
        name = lower_no_dots name q;
      },
    )

-- such an entry is of the section and has the name if both are the same
pub within_at : (own name : List ℕ) {text section : List ℕ} {sub : Option (List ℕ)} (asked : Option (List ℕ))
    → IsCut text (key (map to_ascii_lowercase own) sub (map to_ascii_lowercase name))
    → map to_ascii_lowercase own ≡ map to_ascii_lowercase section
    → IfSome asked (λ a. map to_ascii_lowercase name ≡ map to_ascii_lowercase a) → IsWithin section asked text
within_at own name {sub = sub} asked cut same alike = record {
  key = key (map to_ascii_lowercase own) sub (map to_ascii_lowercase name);
  is_cut = cut;
  same_section = lower_twice own ∙ same;
  same_name = IfSome_then asked alike (λ a is. lower_twice name ∙ is);
}
