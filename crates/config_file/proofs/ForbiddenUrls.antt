-- Where git-config(1) allows no URL of a remote: "Files included by this option (directly or indirectly) are not
-- allowed to contain remote URLs." Not on that page, but as Git does, is that no file that a condition includes may
-- have one while URLs are sought.
use Rattle.std.proofs.Common.{true, false, Bool, not, ◌≡◌, ◌==◌, ℕ, List, [], ◌∷◌, option_map, codes, Bor, Option, Some}
use Rattle.std.proofs.Common.{None, refl, ap, arith}
use Rattle.std.specs.List.{list_all}
use Rattle.std.proofs.lemmas.Bool.{and_parts}
use Rattle.std.proofs.lemmas.Bool.Decides.{nat_tests}
use Rattle.std.proofs.lemmas.Option.{same_Some, none-some}
use Prim.Native.String.{String}
use Rattle.config_file.specs.File.{Entry, entry_at}
use Rattle.config_file.specs.Include as include
use Rattle.config_file.specs.Include.{SpellsCondition, Forbids, forbids_urls}
use Rattle.config_file.specs.Subsection as sub
use Rattle.config_file.specs.Subsection.{SpellsSubsection}
use Rattle.config_file.specs.declared.include.Condition.{Condition}
use Rattle.config_file.specs.declared.include.Condition.TheVariants.{HasRemoteUrl, OnBranch}
use Rattle.config_file.specs.declared.include.Includes.{Includes}
use Rattle.config_file.specs.declared.include.Includes.TheVariants.{AsGit}
use Rattle.config_file.specs.declared.include.Urls.TheVariants.{Sought, Known}

abbrev lent : {A : Type 0} → A → Bor A
lent a = record { ref_ptr = (0, 0); now = a }

-- an entry `path` in a section with this name, and with these bytes of a subsection if it has one
abbrev path_in : String → Option String → Entry
path_in section subsection =
    entry_at (Some (codes section, option_map (λ text. codes text) subsection)) (codes "path") (Some (codes "a")) 1

-- bytes without a backslash spell themselves
spelled_plainly : (raw : List ℕ) {text : List ℕ} → list_all (λ b. not (b == 92)) raw ≡ true
    → SpellsSubsection raw text → text ≡ raw
spelled_plainly [] none sub.ends = refl
spelled_plainly (b ∷ raw) none (sub.plain is s) =
    let (here, later) = and_parts (not (b == 92)) (list_all (λ b. not (b == 92)) raw) none in
    ap (λ t. b ∷ t) (spelled_plainly raw later s)
spelled_plainly (b ∷ e ∷ raw) none (sub.escaped is text s) =
    let (here, later) = and_parts (not (b == 92)) (list_all (λ b. not (b == 92)) (e ∷ raw)) none in
    absurd (grind (arith, nat_tests))

on_condition : (includes : Includes) (text : String) (condition : Condition) (forbids : Bool)
    → list_all (λ b. not (b == 92)) (codes text) ≡ true → SpellsCondition (codes text) condition
    → forbids_urls includes condition ≡ forbids → Forbids includes (path_in "includeIf" (Some text)) forbids
on_condition includes text condition forbids plain names is =
    include.on_condition (codes "includeIf") (codes text) refl
    (λ spelled s. (condition, rw (spelled_plainly (codes text) plain s) names, is))

-- without a repository, while URLs are sought or after it
abbrev seeking : Includes
seeking = AsGit None Sought

abbrev known : Includes
known = AsGit None (Known (lent []))

pub urls_are_forbidden : Forbids known (path_in "includeIf" (Some "hasconfig:remote.*.url:https://example.com/**")) true
    × Forbids known (path_in "includeIf" (Some "onbranch:foo-branch")) false
    × Forbids seeking (path_in "includeIf" (Some "hasconfig:remote.*.url:https://example.com/**")) true
    × Forbids seeking (path_in "includeIf" (Some "onbranch:foo-branch")) true
    × Forbids seeking (path_in "include" None) false
urls_are_forbidden = (
  on_condition known "hasconfig:remote.*.url:https://example.com/**"
      (HasRemoteUrl (lent (codes "https://example.com/**"))) true refl refl refl,
  on_condition known "onbranch:foo-branch" (OnBranch (lent (codes "foo-branch"))) false refl refl refl,
  on_condition seeking "hasconfig:remote.*.url:https://example.com/**"
      (HasRemoteUrl (lent (codes "https://example.com/**"))) true refl refl refl,
  on_condition seeking "onbranch:foo-branch" (OnBranch (lent (codes "foo-branch"))) true refl refl refl,
  include.plain (λ written raw is. none-some raw (ap (λ s. s.1) (same_Some _ _ is))),
)
