-- An entry of a file aims at one file at most: its section and its value spell a text, and a text has one
-- meaning.
use Rattle.std.proofs.Common.{◌≡◌, ℕ, Bool, true, false, List, [], ◌++◌, codes, Option, None, Some, refl, sym, ap}
use Rattle.std.proofs.Common.{◌∙◌, subst, arith}
use Rattle.std.proofs.lemmas.Bool.{true≢false}
use Rattle.std.proofs.lemmas.Option.{same_Some, none-some}
use Rattle.std.proofs.lemmas.List.{append_cancel_left}
use Rattle.config_file.specs.Header.{Section}
use Rattle.config_file.specs.File.{Entry}
use Rattle.config_file.specs.Subsection.{SpellsSubsection, IsSubsection}
use Rattle.config_file.specs.Value.{SpellsValue}
use Rattle.config_file.specs.Listing.{IsListed, alone, in_section, plain, quoted}
use Rattle.config_file.specs.Include as include
use Rattle.config_file.specs.Include.{SpellsCondition, Holds, IsSameCondition, IsPathIn, EntryFollows}
use Rattle.config_file.specs.Include.{IsGitDir, IsOnBranch, HasUrl, forbids_urls, Forbids, IsForbidden}
use Rattle.config_file.specs.Path as path
use Rattle.config_file.specs.Path.{Expands, BeginsUnknown, IsIncludedName, is_rest}
use Rattle.config_file.specs.Walk.{IsNameOf, SpellsName, SpellsUnknown}
use Rattle.config_file.specs.declared.path.Directories.{Directories}
use Rattle.config_file.specs.declared.walk.Known.{Known}
use Rattle.config_file.specs.declared.include.Includes.{Includes}
use Rattle.config_file.specs.declared.include.Urls.TheVariants.{Sought}
use Rattle.config_file.specs.declared.include.Urls.TheVariants as urls
use Rattle.config_file.specs.declared.include.Includes.TheVariants.{Skipped, AsGit, All}
use Rattle.config_file.specs.declared.include.Condition.{Condition}
use Rattle.config_file.specs.declared.include.Condition.TheVariants.{Always, GitDir, GitDirIgnoringCase}
use Rattle.config_file.specs.declared.include.Condition.TheVariants.{OnBranch, HasRemoteUrl, Unknown}
use Rattle.config_file.proofs.Fronts.{is_front, lacks}
use Rattle.config_file.proofs.EachListed.{IsRead, IsSpelled}

-- ---- the condition that a text names

abbrev prefix : Condition → List ℕ
prefix (GitDir a) = codes "gitdir:"
prefix (GitDirIgnoringCase a) = codes "gitdir/i:"
prefix (OnBranch a) = codes "onbranch:"
prefix (HasRemoteUrl a) = codes "hasconfig:remote.*.url:"
prefix a = []

apart : (front text rest : List ℕ) → text ≡ front ++ rest → is_front front text ≡ false → ⊥
apart front text rest e differ = lacks front text differ rest e

same_rest : (front : List ℕ) {text a b : List ℕ} → text ≡ front ++ a → text ≡ front ++ b → a ≡ b
same_rest front {a = a} {b = b} e f = append_cancel_left front a b (sym e ∙ f)

pub one_condition : (text : List ℕ) (a b : Condition) → SpellsCondition text a → SpellsCondition text b
    → IsSameCondition a b
one_condition text Always b is so = absurd is
one_condition text a Always is so = absurd so
one_condition text (GitDir a) Unknown is so = absurd (so.0 a.now is)
one_condition text (GitDirIgnoringCase a) Unknown is so = absurd (so.1 a.now is)
one_condition text (OnBranch a) Unknown is so = absurd (so.2 a.now is)
one_condition text (HasRemoteUrl a) Unknown is so = absurd (so.3 a.now is)
one_condition text Unknown (GitDir b) is so = absurd (is.0 b.now so)
one_condition text Unknown (GitDirIgnoringCase b) is so = absurd (is.1 b.now so)
one_condition text Unknown (OnBranch b) is so = absurd (is.2 b.now so)
one_condition text Unknown (HasRemoteUrl b) is so = absurd (is.3 b.now so)
one_condition text Unknown Unknown is so = refl
one_condition text (GitDir a) (GitDir b) is so = same_rest (codes "gitdir:") is so
one_condition text (GitDirIgnoringCase a) (GitDirIgnoringCase b) is so = same_rest (codes "gitdir/i:") is so
one_condition text (OnBranch a) (OnBranch b) is so = same_rest (codes "onbranch:") is so
one_condition text (HasRemoteUrl a) (HasRemoteUrl b) is so = same_rest (codes "hasconfig:remote.*.url:") is so
one_condition text a b is so = absurd (apart (prefix b) _ _ (sym is ∙ so) refl)

-- ---- whether an entry is followed

same_condition_holds : (includes : Includes) (dir : List ℕ) (a b : Condition) → IsSameCondition a b
    → Holds includes dir a → Holds includes dir b
same_condition_holds Skipped dir a b same holds = absurd holds
same_condition_holds All dir a b same holds = tt
same_condition_holds (AsGit r u) dir Always Always same holds = tt
same_condition_holds (AsGit r u) dir (HasRemoteUrl a) (HasRemoteUrl b) same holds = rw same at holds
same_condition_holds (AsGit (Some r) u) dir (GitDir a) (GitDir b) same holds = rw same at holds
same_condition_holds (AsGit (Some r) u) dir (GitDirIgnoringCase a) (GitDirIgnoringCase b) same holds =
    rw same at holds
same_condition_holds (AsGit (Some r) u) dir (OnBranch a) (OnBranch b) same holds = rw same at holds
same_condition_holds (AsGit r u) dir a b same holds = grind arith

-- the bytes of the subsection of an entry that Git lists spell a text
spells : {section : Option Section} {key listed written raw : List ℕ} → IsListed section key listed
    → section ≡ Some (written, Some raw) → IsSubsection raw
spells alone is = absurd (none-some _ is)
spells (in_section plain) is = absurd (none-some _ (ap (λ s. s.1) (same_Some _ _ is)))
spells (in_section (quoted {spelled = text} spelled)) is =
    (text, subst (λ r. SpellsSubsection r text) (same_Some _ _ (ap (λ s. s.1) (same_Some _ _ is))) spelled)

subsections : (entry : Entry) {a b : List ℕ} {p q : Option (List ℕ)} → IsPathIn a p entry
    → IsPathIn b q entry → p ≡ q
subsections entry first second =
    let (written, is, named) = first.1 in
    let (other, so, also) = second.1 in
    ap (λ s. s.1) (same_Some _ _ (sym is ∙ so))

condition_spelled : (includes : Includes) (dir : List ℕ) {raw same : List ℕ}
    → IsSubsection raw → raw ≡ same
    → ((text : List ℕ) → SpellsSubsection raw text → (c : Condition) × SpellsCondition text c × Holds includes dir c)
    → ((text : List ℕ) → SpellsSubsection same text
    → (c : Condition) × SpellsCondition text c × ¬ (Holds includes dir c)) → ⊥
condition_spelled includes dir (text, spelled) e holding failing =
    let (a, is, holds) = holding text spelled in
    let (b, so, fails) = failing text (subst (λ r. SpellsSubsection r text) e spelled) in
    fails (same_condition_holds includes dir a b (one_condition text a b is so) holds)

not_both : (includes : Includes) (dir : List ℕ) (entry : Entry) → IsRead entry
    → EntryFollows includes dir entry true → EntryFollows includes dir entry false → ⊥
not_both includes dir entry read (include.always is h) (include.never so n) = n h
not_both includes dir entry read (include.always is h) (include.fails raw so n) =
    none-some raw (subsections entry is so)
not_both includes dir entry read (include.always is h) (include.unrelated n m) = n is
not_both includes dir entry read (include.holds raw is h) (include.never so n) =
    none-some raw (subsections entry so is)
not_both includes dir entry read (include.holds raw is h) (include.fails other so n) =
    let (written, found, named) = is.1 in
    condition_spelled includes dir (spells read.listed.1 found) (same_Some _ _ (subsections entry is so)) h n
not_both includes dir entry read (include.holds raw is h) (include.unrelated n m) = m raw is

-- ---- the name of a file

home_or_prefix : {value a b : List ℕ} → value ≡ codes "~" ++ a → value ≡ codes "%(prefix)/" ++ b → ⊥
home_or_prefix e f = cc

one_path : {home install : Option (List ℕ)} {value p q : List ℕ} → Expands home install value p
    → Expands home install value q → p ≡ q
one_path (path.below_home a r e is h f) (path.below_home b s g so i k) = cc
one_path (path.below_home a r e is h f) (path.below_prefix b s g i k) = cc
one_path (path.below_home a r e is h f) (path.other m n k) = absurd (m r e)
one_path (path.below_prefix a r e h f) (path.below_home b s g so i k) = cc
one_path (path.below_prefix a r e h f) (path.below_prefix b s g i k) = cc
one_path (path.below_prefix a r e h f) (path.other m n k) = absurd (n r e)
one_path (path.other m n k) (path.below_home a r e is h f) = absurd (m r e)
one_path (path.other m n k) (path.below_prefix a r e h f) = absurd (n r e)
one_path (path.other m n e) (path.other o p f) = cc

known_or_unknown : {home install : Option (List ℕ)} {value p : List ℕ} → Expands home install value p
    → BeginsUnknown home install value → ⊥
known_or_unknown (path.below_home a r e is h f) (path.user s g u) =
    true≢false (sym is ∙ ap is_rest (same_rest (codes "~") e g) ∙ u)
known_or_unknown (path.below_home a r e is h f) (path.no_home s g u) = none-some a (sym u ∙ h)
known_or_unknown (path.below_home a r e is h f) (path.no_prefix s g u) = home_or_prefix e g
known_or_unknown (path.below_prefix a r e h f) (path.user s g u) = home_or_prefix g e
known_or_unknown (path.below_prefix a r e h f) (path.no_home s g u) = home_or_prefix g e
known_or_unknown (path.below_prefix a r e h f) (path.no_prefix s g u) = none-some a (sym u ∙ h)
known_or_unknown (path.other m n k) (path.user s g u) = m s g
known_or_unknown (path.other m n k) (path.no_home s g u) = m s g
known_or_unknown (path.other m n k) (path.no_prefix s g u) = n s g

one_included : {file p a b : List ℕ} → IsIncludedName file p a → IsIncludedName file p b → a ≡ b
one_included (path.absolute r e is) (path.absolute s f so) = is ∙ sym so
one_included (path.absolute r e is) (path.relative n so) = absurd (n r e)
one_included (path.relative n is) (path.absolute s f so) = absurd (n s f)
one_included (path.relative n is) (path.relative m so) = is ∙ sym so

one_name : (directories : Directories) (file : List ℕ) {value a b : List ℕ}
    → IsNameOf directories file value a
    → IsNameOf directories file value b → a ≡ b
one_name directories file {b = b} (p, is, named) (q, so, also) =
    one_included named (subst (λ x. IsIncludedName file x b) (one_path so is) also)

-- ---- what an entry aims at

-- no file, a value that is missing, a directory that is not known, or the file of a name
pub data Aim : Type 0 where
  no_file : Aim
  no_value : Aim
  unknown : Aim
  file : List ℕ → Aim

-- what the entry of a file of this name, in this directory, includes
abbrev pub Aims : Known → List ℕ → List ℕ → Entry → Aim → Type 0
Aims known name dir entry no_file = EntryFollows known.includes dir entry false
Aims known name dir entry no_value = EntryFollows known.includes dir entry true × (entry.value ≡ None)
Aims known name dir entry unknown = EntryFollows known.includes dir entry true
    × ((raw : List ℕ) × (entry.value ≡ Some raw) × SpellsUnknown known raw)
Aims known name dir entry (file included) = EntryFollows known.includes dir entry true
    × ((raw : List ℕ) × (entry.value ≡ Some raw) × SpellsName known name raw included)

known_and_unknown : (known : Known) (name included : List ℕ) {raw same : List ℕ} {value : Option (List ℕ)}
    → IsSpelled value
    → value ≡ Some raw → value ≡ Some same → SpellsName known name raw included → SpellsUnknown known same → ⊥
known_and_unknown known name included {raw = raw} spelled e f named lost =
    let (text, ending, is) = spelled raw e in
    let (p, expands, rest) = named text ending is in
    known_or_unknown expands (lost text ending (subst (λ r. SpellsValue r text ending) (cc) is))

same_file : (known : Known) (name : List ℕ) {raw same a b : List ℕ} {value : Option (List ℕ)}
    → IsSpelled value
    → value ≡ Some raw → value ≡ Some same → SpellsName known name raw a → SpellsName known name same b
    → a ≡ b
same_file known name {raw = raw} spelled e f first second =
    let (text, ending, is) = spelled raw e in
    one_name known.directories name (first text ending is)
    (second text ending (subst (λ r. SpellsValue r text ending) (cc) is))

pub one_aim : (known : Known) (name dir : List ℕ) (entry : Entry) (a b : Aim) → IsRead entry
    → Aims known name dir entry a → Aims known name dir entry b → a ≡ b
one_aim known name dir entry no_file no_file read is so = refl
one_aim known name dir entry no_file b read is so = absurd (not_both known.includes dir entry read so.0 is)
one_aim known name dir entry a no_file read is so = absurd (not_both known.includes dir entry read is.0 so)
one_aim known name dir entry no_value no_value read is so = refl
one_aim known name dir entry no_value b read is so = absurd (none-some _ (sym is.1 ∙ so.1.1))
one_aim known name dir entry a no_value read is so = absurd (none-some _ (sym so.1 ∙ is.1.1))
one_aim known name dir entry unknown unknown read is so = refl
one_aim known name dir entry unknown (file b) read is so =
    absurd (known_and_unknown known name b read.spelled so.1.1 is.1.1 so.1.2 is.1.2)
one_aim known name dir entry (file a) unknown read is so =
    absurd (known_and_unknown known name a read.spelled is.1.1 so.1.1 is.1.2 so.1.2)
one_aim known name dir entry (file a) (file b) read is so =
    ap file (same_file known name read.spelled is.1.1 so.1.1 is.1.2 so.1.2)

-- ---- URLs of remotes

same_condition_forbids : (includes : Includes) (a b : Condition) → IsSameCondition a b
    → forbids_urls includes a ≡ forbids_urls includes b
same_condition_forbids Skipped a b same = refl
same_condition_forbids All a b same = refl
same_condition_forbids (AsGit r Sought) a b same = refl
same_condition_forbids (AsGit r (urls.Known of)) (GitDir a) (GitDir b) same = refl
same_condition_forbids (AsGit r (urls.Known of)) (GitDirIgnoringCase a) (GitDirIgnoringCase b) same = refl
same_condition_forbids (AsGit r (urls.Known of)) (OnBranch a) (OnBranch b) same = refl
same_condition_forbids (AsGit r (urls.Known of)) (HasRemoteUrl a) (HasRemoteUrl b) same = refl
same_condition_forbids (AsGit r (urls.Known of)) a b same = ap (forbids_urls (AsGit r (urls.Known of))) same

pub one_forbids : (includes : Includes) (entry : Entry) {a b : Bool} → IsRead entry → Forbids includes entry a
    → Forbids includes entry b → a ≡ b
one_forbids includes entry read (include.plain none) (include.plain also) = refl
one_forbids includes entry read (include.plain none) (include.on_condition written raw is named) =
    absurd (none written raw is)
one_forbids includes entry read (include.on_condition written raw is named) (include.plain none) =
    absurd (none written raw is)
one_forbids includes entry read (include.on_condition written raw is named) (include.on_condition other same so also) =
    let (text, spelled) = spells read.listed.1 is in
    let (c, names, first) = named text spelled in
    let raws = same_Some raw same (ap (λ s. s.1) (same_Some _ _ (sym is ∙ so))) in
    let (d, tells, second) = also text (subst (λ r. SpellsSubsection r text) raws spelled) in
    sym first ∙ same_condition_forbids includes c d (one_condition text c d names tells) ∙ second

pub one_forbidden : (here : Bool) (entry : Entry) {a b : Bool} → IsRead entry → IsForbidden here entry a
    → IsForbidden here entry b → a ≡ b
one_forbidden here entry {a = true} {b = true} read first second = refl
one_forbidden here entry {a = false} {b = false} read first second = refl
one_forbidden here entry {a = true} {b = false} read first second =
    let (text, listed) = read.listed in sym ((second text listed).1 ((first text listed).0 refl))
one_forbidden here entry {a = false} {b = true} read first second =
    let (text, listed) = read.listed in (first text listed).1 ((second text listed).0 refl)
