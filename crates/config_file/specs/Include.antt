-- The entries that include a file, and the conditions on which they are followed.
--
-- Look for (here and in Path): `IsPathIn` compares the parts of an entry: `include` has no subsection, and
-- `includeIf` has one. `Unknown` lacks all four keywords. `HasUrl` takes the pattern as it is, and one URL
-- is enough. `BeginsUnknown`: a home that is not known is refused, and not taken for a name.
use Rattle.std.specs.Prelude.{◌≡◌, ◌≢◌, ◌↔◌, ℕ, Bool, true, false, IsTrue, if◌then◌else◌, ◌==◌, ◌&&◌, List, ◌++◌, ◌∷◌, codes}
use Rattle.std.specs.Prelude.{nat_eq, Option, None, Some, ◌⊎◌, ⊤, map, option_copied, option_map}
use Rattle.std.specs.Char.{to_ascii_lowercase}
use Rattle.std.specs.List.{Any, ends_with, starts_with}
use Rattle.config_text.specs.Bytes.{LacksFront}
use Rattle.config_file.specs.declared.include.Condition.{Condition}
use Rattle.config_file.specs.declared.include.Condition.TheVariants.{Always, GitDir, GitDirIgnoringCase}
use Rattle.config_file.specs.declared.include.Condition.TheVariants.{OnBranch, HasRemoteUrl, Unknown}
use Rattle.config_file.specs.declared.include.Repository.{Repository}
use Rattle.config_file.specs.declared.include.Includes.{Includes}
use Rattle.config_file.specs.declared.include.Includes.TheVariants.{Skipped, AsGit, All}
use Rattle.config_file.specs.declared.include.Urls.{Urls}
use Rattle.config_file.specs.declared.include.Urls.TheVariants.{Sought, Known}
use Rattle.config_file.specs.File.{Entry}
use Rattle.config_file.specs.Key.{HasKey, key}
use Rattle.config_file.specs.Listing.{IsListed}
use Rattle.config_file.specs.Subsection.{SpellsSubsection}
use Rattle.config_file.specs.Path.{is_rest}
use Rattle.config_file.specs.Pattern.{MatchesText}

-- the text is the prefix of this condition and its pattern; a text with no such prefix is `Unknown`
abbrev pub SpellsCondition : List ℕ → Condition → Type 0
SpellsCondition text Always = ⊥
SpellsCondition text (GitDir pattern) = text ≡ codes "gitdir:" ++ pattern.now
SpellsCondition text (GitDirIgnoringCase pattern) = text ≡ codes "gitdir/i:" ++ pattern.now
SpellsCondition text (OnBranch pattern) = text ≡ codes "onbranch:" ++ pattern.now
SpellsCondition text (HasRemoteUrl pattern) = text ≡ codes "hasconfig:remote.*.url:" ++ pattern.now
SpellsCondition text Unknown =
    LacksFront (codes "gitdir:") text × LacksFront (codes "gitdir/i:") text × LacksFront (codes "onbranch:") text
    × LacksFront (codes "hasconfig:remote.*.url:") text

-- the same condition; patterns are compared byte by byte
abbrev pub IsSameCondition : Condition → Condition → Type 0
IsSameCondition (GitDir a) (GitDir b) = a.now ≡ b.now
IsSameCondition (GitDirIgnoringCase a) (GitDirIgnoringCase b) = a.now ≡ b.now
IsSameCondition (OnBranch a) (OnBranch b) = a.now ≡ b.now
IsSameCondition (HasRemoteUrl a) (HasRemoteUrl b) = a.now ≡ b.now
IsSameCondition a b = a ≡ b

-- the pattern, with `**` appended if it ends with `/`, so that it matches everything below
abbrev pub below : List ℕ → List ℕ
below pattern = if ends_with nat_eq pattern (codes "/") then pattern ++ codes "**" else pattern

-- the pattern, with `**/` before it unless it begins with `/`, so that it matches in any directory
abbrev pub anywhere : List ℕ → List ℕ
anywhere pattern = if starts_with nat_eq pattern (codes "/") then pattern else codes "**/" ++ pattern

-- the pattern, with a `~` that is alone or before `/` replaced by the home directory, if that is known
abbrev pub at_home : Option (List ℕ) → List ℕ → List ℕ
at_home (Some home) (c ∷ rest) = if c == 126 && is_rest rest then home ++ rest else c ∷ rest
at_home _ pattern = pattern

-- the names are the same, ignoring ASCII case if the flag is true
abbrev pub IsSameName : Bool → List ℕ → List ℕ → Type 0
IsSameName true a b = map to_ascii_lowercase a ≡ map to_ascii_lowercase b
IsSameName false a b = a ≡ b

-- the name begins with this directory, and the pattern matches what follows
abbrev pub MatchesBelow : Bool → List ℕ → List ℕ → List ℕ → Type 0
MatchesBelow ignores_case dir pattern name =
    (front : List ℕ) × (left : List ℕ) × (name ≡ front ++ left) × IsSameName ignores_case front dir × MatchesText ignores_case pattern left

-- A pattern, in a file of this directory, matches the name of a git directory whose real name has no links. The
-- `.` of `./` at its start is this directory, whose bytes match only themselves, or their other case if case is
-- ignored. The real name has to be below it then.
pub data MatchesDir (ignores_case : Bool) (dir real pattern name : List ℕ) : Type 0 where
  near : (rest : List ℕ) → pattern ≡ codes "./" ++ rest → MatchesBelow ignores_case dir (codes "/**") real
      → MatchesBelow ignores_case dir (below (codes "/" ++ rest)) name
      → MatchesDir ignores_case dir real pattern name
  other : LacksFront (codes "./") pattern → MatchesText ignores_case (below (anywhere pattern)) name
      → MatchesDir ignores_case dir real pattern name

-- the pattern, in a file of this directory, matches one of the two names of the git directory
abbrev pub IsGitDir : Bool → List ℕ → List ℕ → Repository → Type 0
IsGitDir ignores_case dir pattern repository =
    let whole = at_home (option_copied repository.real_home) pattern in
    let real = repository.real_git_dir.now in
    MatchesDir ignores_case dir real whole real ⊎ MatchesDir ignores_case dir real whole repository.git_dir.now

-- there is a branch, and the pattern matches its name
abbrev pub IsOnBranch : List ℕ → Option (List ℕ) → Type 0
IsOnBranch pattern None = ⊥
IsOnBranch pattern (Some branch) = MatchesText false (below pattern) branch

-- the pattern, as it is written, matches the URL of some remote, or these URLs are being sought
abbrev pub HasUrl : List ℕ → Urls → Type 0
HasUrl pattern Sought = ⊤
HasUrl pattern (Known urls) = Any (λ url. MatchesText false pattern url.now) urls.now

-- the condition holds in a file of this directory; no condition on a repository holds outside of one
abbrev pub Holds : Includes → List ℕ → Condition → Type 0
Holds Skipped dir condition = ⊥
Holds All dir condition = ⊤
Holds (AsGit repository urls) dir Always = ⊤
Holds (AsGit repository urls) dir (HasRemoteUrl pattern) = HasUrl pattern.now urls
Holds (AsGit (Some r) urls) dir (GitDir pattern) = IsGitDir false dir pattern.now r
Holds (AsGit (Some r) urls) dir (GitDirIgnoringCase pattern) = IsGitDir true dir pattern.now r
Holds (AsGit (Some r) urls) dir (OnBranch pattern) =
    IsOnBranch pattern.now (option_map (λ branch. branch.now) r.branch)
Holds _ _ _ = ⊥

-- the entry is the URL of a remote: it has the key `remote.NAME.url`, whatever the name
abbrev pub IsRemoteUrl : Entry → Type 0
IsRemoteUrl entry = (name : List ℕ) × HasKey entry (key (codes "remote") (Some name) (codes "url"))

-- the key of the entry is `path`, and its section has this name and this subsection; case does not count
abbrev pub IsPathIn : List ℕ → Option (List ℕ) → Entry → Type 0
IsPathIn name subsection entry =
    (map to_ascii_lowercase entry.key ≡ codes "path")
    × ((written : List ℕ) × (entry.section ≡ Some (written, subsection)) × (map to_ascii_lowercase written ≡ name))

-- Whether an entry of a file in this directory includes a file, and is followed: the entry `include.path`, or
-- an entry `includeIf.TEXT.path` where the condition that TEXT names holds.
pub data EntryFollows (includes : Includes) (dir : List ℕ) (entry : Entry) : Bool → Type 0 where
  always : IsPathIn (codes "include") None entry → Holds includes dir Always
      → EntryFollows includes dir entry true
  never : IsPathIn (codes "include") None entry → ¬ (Holds includes dir Always)
      → EntryFollows includes dir entry false
  holds : (raw : List ℕ) → IsPathIn (codes "includeif") (Some raw) entry
      → ((text : List ℕ) → SpellsSubsection raw text
      → (condition : Condition) × SpellsCondition text condition × Holds includes dir condition)
      → EntryFollows includes dir entry true
  fails : (raw : List ℕ) → IsPathIn (codes "includeif") (Some raw) entry
      → ((text : List ℕ) → SpellsSubsection raw text
      → (condition : Condition) × SpellsCondition text condition × ¬ (Holds includes dir condition))
      → EntryFollows includes dir entry false
  unrelated : ¬ (IsPathIn (codes "include") None entry)
      → ((raw : List ℕ) → ¬ (IsPathIn (codes "includeif") (Some raw) entry))
      → EntryFollows includes dir entry false

-- whether Git allows no URL of a remote in a file that is included on this condition: on any while the URLs are
-- sought, and otherwise on one that asks about them
abbrev pub forbids_urls : Includes → Condition → Bool
forbids_urls (AsGit repository Sought) condition = true
forbids_urls (AsGit repository (Known urls)) (HasRemoteUrl pattern) = true
forbids_urls _ _ = false

-- whether Git allows no URL of a remote in the file that the entry includes, because of the condition of the entry
pub data Forbids (includes : Includes) (entry : Entry) : Bool → Type 0 where
  plain : ((written raw : List ℕ) → entry.section ≢ Some (written, Some raw)) → Forbids includes entry false
  on_condition : (written raw : List ℕ) {forbids : Bool} → entry.section ≡ Some (written, Some raw)
      → ((text : List ℕ) → SpellsSubsection raw text
      → (condition : Condition) × SpellsCondition text condition × (forbids_urls includes condition ≡ forbids))
      → Forbids includes entry forbids

-- whether the entry is the URL of a remote where the flag says that Git allows none
abbrev pub IsForbidden : Bool → Entry → Bool → Type 0
IsForbidden none_allowed entry forbidden = (text : List ℕ) → IsListed entry.section entry.key text
    → (IsTrue forbidden ↔ (IsTrue none_allowed × IsRemoteUrl entry))
