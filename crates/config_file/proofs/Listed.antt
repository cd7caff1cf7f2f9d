-- Sections and keys as Git lists them.
use Rattle.std.proofs.Common.{◌≡◌, ℕ, List, [], ◌∷◌, ◌++◌, Option, Some, None, map, refl, append_assoc}
use Rattle.std.specs.Char.{to_ascii_lowercase}
use Rattle.config_file.specs.Subsection.{SpellsSubsection}
use Rattle.config_file.specs.Header.{Section}
use Rattle.config_file.specs.Listing.{IsListed, IsListedSection, plain, quoted, alone, in_section}

quoted_only : {name raw listed : List ℕ} → IsListedSection (name, Some raw) listed
    → (spelled : List ℕ) × SpellsSubsection raw spelled × (listed ≡ (map to_ascii_lowercase name ++ 46 ∷ []) ++ (spelled ++ 46 ∷ []))
quoted_only (quoted {spelled = spelled} s) = (spelled, s, refl)

plain_only : {name listed : List ℕ} → IsListedSection (name, None) listed
    → listed ≡ map to_ascii_lowercase name ++ 46 ∷ []
plain_only plain = refl

pub plain_appended : {name listed : List ℕ} {sub : Option (List ℕ)} (old lowered new : List ℕ)
    → IsListedSection (name, sub) listed → sub ≡ None
    → lowered ≡ old ++ map to_ascii_lowercase name → new ≡ lowered ++ 46 ∷ [] → new ≡ old ++ listed
plain_appended {name = name} old lowered new h none e f =
    let whole = plain_only (rw none at h) in rw (f, e, whole) (append_assoc old (map to_ascii_lowercase name) (46 ∷ []))

pub quoted_appended : {name raw listed : List ℕ} {sub : Option (List ℕ)} (old lowered dotted spelled_out new : List ℕ) → IsListedSection (name, sub) listed → sub ≡ Some raw
    → lowered ≡ old ++ map to_ascii_lowercase name → dotted ≡ lowered ++ 46 ∷ []
    → ((spelled : List ℕ) → SpellsSubsection raw spelled → spelled_out ≡ dotted ++ spelled)
    → new ≡ spelled_out ++ 46 ∷ [] → new ≡ old ++ listed
quoted_appended old lowered dotted spelled_out new h some e f written g =
    let (spelled, s, whole) = quoted_only (rw some at h) in rw (whole, g, written spelled s, f, e) (simp append_assoc)

alone_only : {key listed : List ℕ} → IsListed None key listed → listed ≡ map to_ascii_lowercase key
alone_only alone = refl

in_section_only : {section : Section} {key listed : List ℕ} → IsListed (Some section) key listed
    → (front : List ℕ) × IsListedSection section front × (listed ≡ front ++ map to_ascii_lowercase key)
in_section_only (in_section {listed = front} s) = (front, s, refl)

pub alone_appended : {key listed : List ℕ} {section : Option Section} (old new : List ℕ)
    → IsListed section key listed → section ≡ None
    → new ≡ old ++ map to_ascii_lowercase key → new ≡ old ++ listed
alone_appended old new h none e = let whole = alone_only (rw none at h) in rw (e, whole)

pub section_appended : {section : Section} {key listed : List ℕ} {whole : Option Section} (old between new : List ℕ)
    → IsListed whole key listed → whole ≡ Some section
    → ((front : List ℕ) → IsListedSection section front → between ≡ old ++ front)
    → new ≡ between ++ map to_ascii_lowercase key → new ≡ old ++ listed
section_appended {key = key} old between new h some written e =
    let (front, s, is) = in_section_only (rw some at h) in
    rw (is, e, written front s) (append_assoc old front (map to_ascii_lowercase key))
