-- Subsections of entries that are patterns: each entry is listed in one way, and below which subsection.
use Rattle.std.proofs.Common.{◌≡◌, ◌++◌, ◌∙◌, ℕ, true, List, [], ◌∷◌, Some, None, Option, map}
use Rattle.std.proofs.Common.{refl, sym, ap, arith, append-nil, append_assoc}
use Rattle.std.specs.Char.{to_ascii_lowercase}
use Rattle.std.specs.List.{list_all}
use Rattle.std.proofs.lemmas.Bool.Decides.{nat_tests}
use Rattle.std.proofs.lemmas.Option.{same_Some}
use Rattle.config_file.specs.Bytes.{is_plain_in_quotes}
use Rattle.config_file.specs.File.{Entry}
use Rattle.config_file.specs.Header.{Section}
use Rattle.config_file.specs.Key.{Key, key, is_no_dot}
use Rattle.config_file.specs.Listing.{IsListed, IsListedSection, plain, quoted, alone, in_section}
use Rattle.config_file.specs.Reading.Scans.{is_unescaped}
use Rattle.config_file.specs.Runs.{Run}
use Rattle.config_file.specs.Subsection as subsections
use Rattle.config_file.specs.Subsection.{SpellsSubsection}
use Rattle.config_file.proofs.OneKey.{lower_no_dots, lower_twice}
use Rattle.config_file.proofs.Spelled.{writes_unescaped}
use Rattle.config_url.specs.Deciding.{IsUnder}

abbrev lower : List ℕ → List ℕ
lower text = map to_ascii_lowercase text

-- ---- one listing

no_backslash : (b : ℕ) → b ≡ 92 → is_plain_in_quotes b ≡ true → ⊥
no_backslash b e is = grind (arith, nat_tests)

spelled_only : {raw a b : List ℕ} → SpellsSubsection raw a → SpellsSubsection raw b → a ≡ b
spelled_only subsections.ends subsections.ends = refl
spelled_only (subsections.escaped {e = e} is text s) (subsections.escaped again same t) =
    ap (λ more. e ∷ more) (spelled_only s t)
spelled_only (subsections.escaped {b = b} is text s) (subsections.plain other t) =
    absurd (no_backslash b is other)
spelled_only (subsections.plain {b = b} is s) (subsections.escaped other text t) =
    absurd (no_backslash b other is)
spelled_only (subsections.plain {b = b} is s) (subsections.plain again t) =
    ap (λ more. b ∷ more) (spelled_only s t)

section_only : {section : Section} {a b : List ℕ} → IsListedSection section a → IsListedSection section b
    → a ≡ b
section_only plain plain = refl
section_only (quoted {name = name} s) (quoted t) =
    ap (λ spelled. (lower name ++ 46 ∷ []) ++ (spelled ++ 46 ∷ [])) (spelled_only s t)

-- Git lists an entry in one way
pub listed_only : {section : Option Section} {entry_key a b : List ℕ} → IsListed section entry_key a
    → IsListed section entry_key b → a ≡ b
listed_only alone alone = refl
listed_only (in_section {key = own} s) (in_section t) = ap (λ front. front ++ lower own) (section_only s t)

-- ---- a subsection without a backslash

nothing_spelled : {raw spelled : List ℕ} → raw ≡ [] → SpellsSubsection raw spelled → spelled ≡ []
nothing_spelled none subsections.ends = refl
nothing_spelled none (subsections.escaped is text s) = cc
nothing_spelled none (subsections.plain is s) = cc

spells_itself : {raw front rest spelled : List ℕ} → Run is_unescaped raw front rest → rest ≡ []
    → SpellsSubsection raw spelled → spelled ≡ front
spells_itself {front = front} run none s =
    let (written, more, left, e, f) = writes_unescaped [] run refl s in
    let ends : more ≡ [] = nothing_spelled none left in
    e ∙ ap (λ t. written ++ t) ends ∙ append-nil written ∙ sym f

abbrev name_in : Option Section → List ℕ
name_in None = []
name_in (Some section) = section.0

abbrev raw_in : Option Section → Option (List ℕ)
raw_in None = None
raw_in (Some section) = section.1

not_some : (raw : List ℕ) → None ≡ Some raw → ⊥
not_some raw e = cc

quoted_as : {section : Option Section} {own text name raw : List ℕ} → IsListed section own text
    → section ≡ Some (name, Some raw)
    → (spelled : List ℕ) × SpellsSubsection raw spelled
    × (text ≡ ((lower name ++ 46 ∷ []) ++ (spelled ++ 46 ∷ [])) ++ lower own)
quoted_as {raw = raw} alone e = absurd (not_some raw (ap raw_in e))
quoted_as {raw = raw} (in_section plain) e = absurd (not_some raw (ap raw_in e))
quoted_as (in_section (quoted {spelled = spelled} s)) e =
    (spelled, rw (same_Some _ _ (ap raw_in e)) at s, rw (ap name_in e) refl)

-- the pattern is below the section and the name of the key, if no byte of it is escaped
pub under_pattern : (k : Key) (entry : Entry) {text name raw pattern rest : List ℕ}
    → IsListed entry.section entry.key text → entry.section ≡ Some (name, Some raw)
    → Run is_unescaped raw pattern rest → rest ≡ [] → lower name ≡ lower k.section
    → lower entry.key ≡ lower k.name → list_all is_no_dot k.section ≡ true → list_all is_no_dot k.name ≡ true
    → k.subsection ≡ None → IsUnder k entry (Some pattern)
under_pattern k entry {text = text} {name = name} {pattern = pattern} listed is run none same own no_dot no_dot_in
    no_subsection =
    let (spelled, spells, e) = quoted_as listed is in record {
      text = text;
      parts = key (lower name) (Some pattern) (lower entry.key);
      is_listed = listed;
      is_cut = record {
        joined = e ∙ rw (spells_itself run none spells) (simp append_assoc);
        section = rw (sym same) at (lower_no_dots k.section no_dot);
        name = rw (sym own) at (lower_no_dots k.name no_dot_in);
      };
      same_section = lower_twice name ∙ same;
      same_name = lower_twice entry.key ∙ own;
      has_subsection = refl;
      alone = no_subsection;
    }
