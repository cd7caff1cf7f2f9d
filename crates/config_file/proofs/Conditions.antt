-- What conditions on the git directory match.
use Rattle.std.proofs.Common.{◌≡◌, ℕ, Bool, true, false, List, ◌++◌, codes, IsTrue, ◌↔◌, ◌⊎◌, inl, inr, rules}
use Rattle.std.proofs.Common.{refl, [], ◌∷◌, sym, ap, ◌∙◌, Option, None, Some, map}
use Rattle.std.specs.Prelude.{Result, Ok, Err, IfOk}
use Rattle.std.specs.declared.alloc.AllocError.{AllocError}
use Rattle.std.proofs.lemmas.Option.{same_Some, none-some}
use Rattle.std.specs.Char.{to_ascii_lowercase}
use Rattle.std.proofs.lemmas.List.{append_cancel_left}
use Rattle.config_text.specs.Bytes.{LacksFront}
use Rattle.config_file.specs.File.{Entry}
use Rattle.config_file.specs.Header.{Section}
use Rattle.config_file.specs.Subsection.{SpellsSubsection}
use Rattle.config_file.specs.Include.{below, anywhere, at_home, IsSameName, MatchesBelow, MatchesDir, near}
use Rattle.config_file.specs.Include.{other, SpellsCondition, Holds, IsPathIn, EntryFollows, Forbids, forbids_urls}
use Rattle.config_file.specs.Include as follows
use Rattle.config_file.specs.Pattern.{MatchesText}
use Rattle.std.proofs.lemmas.Bool.Decides.{eqb_tells}
use Rattle.config_file.specs.Path.{BeginsUnknown, user, no_home, no_prefix, Expands, below_home, below_prefix}
use Rattle.config_file.specs.Path as p
use Rattle.config_file.specs.declared.include.Condition.{Condition}
use Rattle.config_file.specs.declared.include.Condition.TheVariants.{Always}
use Rattle.config_file.specs.declared.include.Includes.{Includes}
use Rattle.config_file.proofs.Patterns.{no_match}

pub is_near : {i h : Bool} {dir real name rest slashed whole : List ℕ} (pattern : List ℕ)
    → pattern ≡ codes "./" ++ rest → MatchesBelow i dir (codes "/**") real
    → slashed ≡ codes "/" ++ rest → whole ≡ below slashed → (IsTrue h ↔ (MatchesBelow i dir whole name))
    → IsTrue h ↔ (MatchesDir i dir real pattern name)
is_near {rest = rest} pattern e real slash ends is = (
  λ yes. near rest e real (rw (ends ∙ ap below slash) at (is.0 yes)),
  λ matches. elim matches [
    | near rest2 e2 real2 within ↦
        let same : rest2 ≡ rest = append_cancel_left (codes "./") rest2 rest (sym e2 ∙ e) in
        is.1 (rw (ap (λ r. below (codes "/" ++ r)) same ∙ sym (ends ∙ ap below slash)) at within)
    | other lacks matches ↦ absurd (lacks rest e)
  ],
)

pub is_other : {i h : Bool} {dir real name any whole : List ℕ} (pattern : List ℕ)
    → LacksFront (codes "./") pattern → any ≡ anywhere pattern
    → whole ≡ below any → (IsTrue h ↔ (MatchesText i whole name)) → IsTrue h ↔ (MatchesDir i dir real pattern name)
is_other pattern lacks found ends is = (
  λ yes. other lacks (rw (ends ∙ ap below found) at (is.0 yes)),
  λ matches. elim matches [
    | near rest e real within ↦ absurd (lacks rest e)
    | other lacks2 text ↦ is.1 (rw (sym (ends ∙ ap below found)) at text)
  ],
)

pub either_first : {A B : Type 0} (b : Bool) → b ≡ true → (IsTrue b ↔ A) → IsTrue true ↔ (A ⊎ B)
either_first b e is = (λ yes. inl (is.0 e), λ either. search rules)

pub either_second : {A B : Type 0} (b c : Bool) → b ≡ false → (IsTrue b ↔ A) → (IsTrue c ↔ B)
    → IsTrue c ↔ (A ⊎ B)
either_second b c e first second = (
  λ yes. inr (second.0 yes),
  λ either. elim either [ inl a ↦ absurd (no_match b e first a) | inr x ↦ second.1 x ],
)

-- an entry without a section, or of another key, includes no file
pub no_section : (includes : Includes) (dir : List ℕ) (entry : Entry) → entry.section ≡ None
    → EntryFollows includes dir entry false
no_section includes dir entry none = follows.unrelated
    (λ is. let (written, some, named) = is.1 in none-some _ (sym none ∙ some))
    (λ raw is. let (written, some, named) = is.1 in none-some _ (sym none ∙ some))

pub other_key : (includes : Includes) (dir : List ℕ) (entry : Entry)
    → ¬ (map to_ascii_lowercase entry.key ≡ codes "path") → EntryFollows includes dir entry false
other_key includes dir entry differs = follows.unrelated (λ is. differs is.0) (λ raw is. differs is.0)

path_in : {name : List ℕ} {subsection : Option (List ℕ)} (entry : Entry) (section : Section)
    → entry.section ≡ Some section → IsPathIn name subsection entry
    → (section.1 ≡ subsection) × (map to_ascii_lowercase section.0 ≡ name)
path_in entry section is (key, (written, some, named)) =
    let same = same_Some _ _ (sym is ∙ some) in
    (ap (λ s. s.1) same, ap (λ s. map to_ascii_lowercase s.0) same ∙ named)

pub no_include : (includes : Includes) (dir : List ℕ) (entry : Entry) (name : List ℕ)
    → entry.section ≡ Some (name, None) → ¬ (map to_ascii_lowercase name ≡ codes "include")
    → EntryFollows includes dir entry false
no_include includes dir entry name is differs = follows.unrelated
    (λ path. differs (path_in entry (name, None) is path).1)
    (λ raw path. none-some raw (path_in entry (name, None) is path).0)

pub no_condition : (includes : Includes) (dir : List ℕ) (entry : Entry) (name raw : List ℕ)
    → entry.section ≡ Some (name, Some raw) → ¬ (map to_ascii_lowercase name ≡ codes "includeif")
    → EntryFollows includes dir entry false
no_condition includes dir entry name raw is differs = follows.unrelated
    (λ path. none-some raw (sym (path_in entry (name, Some raw) is path).0))
    (λ other path. differs (path_in entry (name, Some raw) is path).1)

pub if_always : (includes : Includes) (dir : List ℕ) (entry : Entry) (name : List ℕ) (result : Result Bool AllocError)
    → map to_ascii_lowercase entry.key ≡ codes "path" → entry.section ≡ Some (name, None)
    → map to_ascii_lowercase name ≡ codes "include"
    → IfOk result (λ b. IsTrue b ↔ (Holds includes dir Always))
    → IfOk result (EntryFollows includes dir entry)
if_always includes dir entry name (Ok true) key is named iff =
    follows.always (key, (name, is, named)) (iff.0 (search rules))
if_always includes dir entry name (Ok false) key is named iff =
    follows.never (key, (name, is, named)) (no_match false (search rules) iff)
if_always includes dir entry name (Err e) key is named iff = tt

pub if_named : (includes : Includes) (dir : List ℕ) (entry : Entry) (name raw text : List ℕ) (c : Condition)
    (result : Result Bool AllocError) → map to_ascii_lowercase entry.key ≡ codes "path"
    → entry.section ≡ Some (name, Some raw) → map to_ascii_lowercase name ≡ codes "includeif"
    → ((spelled : List ℕ) → SpellsSubsection raw spelled → text ≡ spelled) → SpellsCondition text c
    → IfOk result (λ b. IsTrue b ↔ (Holds includes dir c)) → IfOk result (EntryFollows includes dir entry)
if_named includes dir entry name raw text c (Ok true) key is named spelled names iff = follows.holds raw
    (key, (name, is, named)) (λ t spells. (c, rw (spelled t spells) at names, iff.0 (search rules)))
if_named includes dir entry name raw text c (Ok false) key is named spelled names iff = follows.fails raw
    (key, (name, is, named)) (λ t spells. (c, rw (spelled t spells) at names, no_match false (search rules) iff))
if_named includes dir entry name raw text c (Err e) key is named spelled names iff = tt

-- a condition that holds under some includes holds under the same includes
pub same_holds : (includes others : Includes) (dir : List ℕ) (condition same : Condition) (b : Bool)
    → includes ≡ others → condition ≡ same → (IsTrue b ↔ (Holds others dir same))
    → IsTrue b ↔ (Holds includes dir condition)
same_holds includes others dir condition same b is named iff = rw (is, named) iff

other_first : (home : Option (List ℕ)) (pattern : List ℕ) → LacksFront (codes "~") pattern
    → pattern ≡ at_home home pattern
other_first None pattern lacks = refl
other_first (Some home) [] lacks = refl
other_first (Some home) (c ∷ rest) lacks = elim (eqb_tells c 126) [
  | inl is ↦ absurd (lacks rest (ap (λ b. b ∷ rest) is.1))
  | inr differs ↦ rw differs.0 refl
]

-- the path that a pattern expands to, without an install directory, is the pattern at home
pub home_expands : (home : Option (List ℕ)) (pattern path : List ℕ) → Expands home None pattern path
    → path ≡ at_home home pattern
home_expands home pattern path (below_home dir rest e is some p) = rw (p, e, some, is) refl
home_expands home pattern path (below_prefix dir rest e some p) = absurd (none-some dir some)
home_expands home pattern path (p.other lacks more same) = same ∙ other_first home pattern lacks

-- a pattern that begins with an unknown directory stays as it is
pub home_unknown : (home : Option (List ℕ)) (pattern : List ℕ) → BeginsUnknown home None pattern
    → pattern ≡ at_home home pattern
home_unknown None pattern unknown = refl
home_unknown (Some home) pattern (user rest e not) = rw (e, not) refl
home_unknown (Some home) pattern (no_home rest e none) = absurd (none-some home (sym none))
home_unknown (Some home) pattern (no_prefix rest e none) = rw e refl

-- ---- whether the condition of an entry forbids the URLs of remotes

pub no_section_forbids : (includes : Includes) (entry : Entry) → entry.section ≡ None
    → Forbids includes entry false
no_section_forbids includes entry none = follows.plain (λ written raw is. none-some _ (sym none ∙ is))

pub no_condition_forbids : (includes : Includes) (entry : Entry) (name : List ℕ) → entry.section ≡ Some (name, None)
    → Forbids includes entry false
no_condition_forbids includes entry name e =
    follows.plain (λ written raw is. none-some raw (ap (λ s. s.1) (same_Some _ _ (sym e ∙ is))))

pub condition_forbids : (includes : Includes) (entry : Entry) (name raw text : List ℕ) (c : Condition) (b : Bool)
    → entry.section ≡ Some (name, Some raw) → ((spelled : List ℕ) → SpellsSubsection raw spelled → text ≡ spelled)
    → SpellsCondition text c → b ≡ forbids_urls includes c → Forbids includes entry b
condition_forbids includes entry name raw text c b is spelled names e =
    follows.on_condition name raw is (λ t spells. (c, rw (spelled t spells) at names, sym e))
