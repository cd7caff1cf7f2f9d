-- Entries that are the URLs of remotes.
use Rattle.std.proofs.Common.{◌≡◌, ℕ, ◌<◌, true, false, List, [], ◌∷◌, ◌++◌, Option, Some, codes, length, map}
use Rattle.std.proofs.Common.{nat_eq, get_or, slice_index_or, IsTrue, ◌↔◌, refl, sym, ap, ◌∙◌, arith}
use Rattle.std.proofs.lemmas.Bool.{true≢false}
use Rattle.std.proofs.lemmas.Bool.Decides.{nat_tests}
use Rattle.std.proofs.lemmas.Option.{same_Some, none-some}
use Rattle.std.specs.Char.{to_ascii_lowercase}
use Rattle.config_text.specs.Bytes.{LacksFront}
use Rattle.config_file.specs.File.{Entry}
use Rattle.config_file.specs.Header.{Section}
use Rattle.config_file.specs.Key.{dotted}
use Rattle.config_file.specs.Listing.{IsListed, IsListedSection, alone, in_section}
use Rattle.config_file.specs.Include.{IsRemoteUrl}
use Rattle.config_file.proofs.Keys.{listed_as, lower_dot, another_section, after_front, decides}

abbrev lower : List ℕ → List ℕ
lower text = map to_ascii_lowercase text

abbrev remote : List ℕ
remote = codes "remote"

-- Git lists the section as that of a remote with this name
abbrev IsRemote : Section → List ℕ → Type 0
IsRemote section name = IsListedSection section ((lower remote ++ dotted (Some name)) ++ 46 ∷ [])

section_listed : {given : Option Section} {section : Section} {written text : List ℕ}
    → IsListed given written text → given ≡ Some section → (listed : List ℕ) × IsListedSection section listed
section_listed alone is = absurd (none-some _ is)
section_listed (in_section {listed = l} h) is =
    (l, rw (same_Some _ _ is) at h)

of_remote : (entry : Entry) (section : Section) → entry.section ≡ Some section → IsRemoteUrl entry
    → (name : List ℕ) × IsRemote section name
of_remote entry section is (name, has) =
    (name, rw (same_Some _ _ (sym has.in_section ∙ is)) at has.stem_listed)

-- a section whose name does not begin with `remote` is that of no remote
pub no_remote : (entry : Entry) (name : List ℕ) (sub : Option (List ℕ)) → entry.section ≡ Some (name, sub)
    → LacksFront (lower remote) (lower name) → IsTrue false ↔ IsRemoteUrl entry
no_remote entry name sub is lacks = (
  λ yes. absurd (true≢false (sym yes)),
  λ url. let (n, listed) = of_remote entry (name, sub) is url in
      (another_section remote (Some n) name sub refl lacks).1 listed,
)

-- after `remote`, the name of a section goes on with a dot if it is that of a remote
pub dotted_remote : (entry : Entry) (name rest : List ℕ) (sub : Option (List ℕ)) {text : List ℕ}
    → IsListed entry.section entry.key text → entry.section ≡ Some (name, sub)
    → lower entry.key ≡ lower (codes "url") → lower name ≡ lower remote ++ lower rest → 0 < length rest
    → IsTrue (nat_eq (slice_index_or rest 0 0) 46) ↔ IsRemoteUrl entry
dotted_remote entry name [] sub listed is url front within = absurd (omega arith)
dotted_remote entry name (b ∷ more) sub listed is url front within = (
  λ yes. let (l, h) = section_listed listed is in
      let (left, s, e) = listed_as h in
      let n = lower more ++ dotted left in
      let dot : b ≡ 46 = grind (arith, nat_tests) in
      let goes : 46 ∷ n ≡ lower (b ∷ more) ++ dotted left = rw dot refl in
      let stem = (decides {r = true} remote (b ∷ more) (Some n) name sub left front goes (λ yes. s, λ s. refl)).0 refl in
      (n, record { section = (name, sub); in_section = is; stem_listed = stem; same_name = url }),
  λ is_remote. let (n, h) = of_remote entry (name, sub) is is_remote in
      let (left, s, e) = listed_as h in
      let same = after_front remote (b ∷ more) name (Some n) left front e in
      let dot : b ≡ 46 = lower_dot b (sym (ap (λ t. get_or t 0 0) same)) in
      rw dot refl,
)
