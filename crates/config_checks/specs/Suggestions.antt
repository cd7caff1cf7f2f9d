-- Keys that no row covers, and the nearest key of the rows, which is suggested for them.
--
-- Look for (here and in Nearest, Fixes, Findings, Json, Outcome): how near a word has to be; what a change
-- has to mend; the texts and the members of findings; the statuses.
use Rattle.std.specs.Prelude.{◌<◌, length, take, slice_index_or, All}
use Rattle.std.specs.Prelude.{◌≡◌, ◌≢◌, ◌⊎◌, ℕ, List, [], ◌∷◌, ◌++◌, codes, Option, None, Some, true, option_map}
use Rattle.std.specs.Prelude.{◌||◌, nat_eq, if◌then◌else◌}
use Rattle.std.specs.List.{Any, list_all, starts_with}
use Rattle.config_text.specs.SameWord.{SameWord}
use Rattle.config_file.specs.Bytes.{dot}
use Rattle.config_file.specs.Key.{Key, IsCut, is_no_dot}
use Rattle.config_file.specs.KeyView.{key_of}
use Rattle.config_checks.specs.declared.row.Row.{Row}
use Rattle.config_checks.specs.declared.suggestion.UnknownKey.{UnknownKey}
use Rattle.config_checks.specs.declared.reason.Severity.{Severity}
use Rattle.config_checks.specs.declared.reason.Severity.TheVariants.{Error, Warning}
use Rattle.config_checks.specs.Findings.{shown}
use Rattle.config_checks.specs.Keys.{CoversSubsection, CoversName}
use Rattle.config_checks.specs.Nearest.{FewEdits, LacksRun, HasOtherEnd, AreFar, IsNearest}
use Rattle.config_checks.specs.Rows.{IsUnknown}

-- ---- how far two keys are apart

-- The two subsections are near, `n` edits apart. If only one of the keys has a subsection, and the names are
-- the same,
-- that is no edit, since the key lacks a subsection, or has one too many.
abbrev pub SubsectionEdits : (same_name : Type 0) → Option (List ℕ) → Option (List ℕ) → ℕ → Type 0
SubsectionEdits same_name (Some row) (Some subsection) n = FewEdits 5 row subsection n
SubsectionEdits same_name (Some row) None n = same_name × (n ≡ 0)
SubsectionEdits same_name None (Some subsection) n = same_name × (n ≡ 0)
SubsectionEdits same_name None None n = ⊥

-- one of the texts lacks only one run of bytes of the other, or both differ only in how they end
pub record AreAlike (a b : List ℕ) : Type 0 where
  pub how : LacksRun a b ⊎ (LacksRun b a ⊎ HasOtherEnd a b)

-- people write `other` for this word of a row, ignoring ASCII case
abbrev pub IsFor : (word other row t : List ℕ) → Type 0
IsFor word other row t = SameWord word row × SameWord other t

-- the text is what people write for a word of a row that is not near it
abbrev pub IsOtherWord : (row t : List ℕ) → Type 0
IsOtherWord row t = IsFor (codes "branch") (codes "branches") row t ⊎ (IsFor (codes "cmd") (codes "command") row t
    ⊎ (IsFor (codes "name") (codes "username") row t ⊎ (IsFor (codes "new") (codes "added") row t
    ⊎ (IsFor (codes "old") (codes "removed") row t ⊎ IsFor (codes "textconv") (codes "textconvert") row t))))

-- the texts are `n` edits apart: none if the second one is another word for the first, or so many as near
-- texts are, or
-- three if they are only alike
pub data NearEdits (long : ℕ) (Alike : Type 0) (a b : List ℕ) (n : ℕ) : Type 0 where
  other_word : IsOtherWord a b → n ≡ 0 → NearEdits long Alike a b n
  few : ¬ (IsOtherWord a b) → FewEdits long a b n → NearEdits long Alike a b n
  alike : ¬ (IsOtherWord a b) → ((m : ℕ) → ¬ (FewEdits long a b m)) → Alike → n ≡ 3 → NearEdits long Alike a b n

-- how many edits lead from one name to the other; in a key without a subsection one of them may only lack a
-- run of bytes
-- of the other, or end otherwise
abbrev pub NameEdits : (row key : Key) → ℕ → Type 0
NameEdits row key = NearEdits 5 ((key.subsection ≡ None) × AreAlike row.name key.name) row.name key.name

-- after their sections, the two keys differ either in the name or in the subsection, by `n` edits
pub data EditsAfter (row key : Key) (n : ℕ) : Type 0 where
  in_name : CoversSubsection row.subsection key.subsection → ¬ (CoversName row.name key.name)
      → NameEdits row key n → EditsAfter row key n
  in_subsection : ¬ (CoversSubsection row.subsection key.subsection) → CoversName row.name key.name
      → SubsectionEdits (SameWord row.name key.name) row.subsection key.subsection n → EditsAfter row key n

-- how many edits lead from one section to the other, of which two need eight bytes
abbrev pub SectionEdits : (row section : List ℕ) → ℕ → Type 0
SectionEdits = NearEdits 8 ⊥

-- the two keys differ in exactly one part, by `n` edits
pub data OnePartEdits (row key : Key) (n : ℕ) : Type 0 where
  in_rest : SameWord row.section key.section → EditsAfter row key n → OnePartEdits row key n
  in_section : ¬ (SameWord row.section key.section) → CoversSubsection row.subsection key.subsection
      → CoversName row.name key.name → SectionEdits row.section key.section n → OnePartEdits row key n

-- ---- the nearest row

-- the key of the row and the key differ in exactly one part, by `n` edits
abbrev pub RowEdits : Key → Row → ℕ → Type 0
RowEdits key row n = OnePartEdits (key_of row.key) key n

-- ---- the key that is suggested

-- the suggested part: the key's part if the row's part is `*`, and otherwise the row's part
abbrev pub Fills : List ℕ → List ℕ → List ℕ → Type 0
Fills row part t = ((row ≡ codes "*") × (t ≡ part)) ⊎ ((row ≢ codes "*") × (t ≡ row))

abbrev pub FillsSubsection : Option (List ℕ) → Option (List ℕ) → Option (List ℕ) → Type 0
FillsSubsection (Some row) (Some subsection) (Some t) = Fills row subsection t
FillsSubsection (Some row) None (Some t) = Fills row (codes "NAME") t
FillsSubsection (Some row) subsection None = ⊥
FillsSubsection None subsection t = t ≡ None

-- the key of the row, in which the parts of a key replace `*`, or `NAME` if the key has no subsection
pub record FillsKey (row key filled : Key) : Type 0 where
  pub section : filled.section ≡ row.section
  pub subsection : FillsSubsection row.subsection key.subsection filled.subsection
  pub name : Fills row.name key.name filled.name

-- ---- which keys are called unknown

-- a section that also has settings without a row
abbrev pub IsShared : List ℕ → Type 0
IsShared t = SameWord (codes "advice") t ⊎ (SameWord (codes "core") t ⊎ (SameWord (codes "credential") t
    ⊎ (SameWord (codes "gui") t ⊎ SameWord (codes "user") t)))

abbrev pub HasSection : List Row → List ℕ → Type 0
HasSection rows t = Any (λ row. SameWord (key_of row.key).section t) rows

-- a row of the section `color` has this subsection
abbrev pub HasSlots : List Row → List ℕ → Type 0
HasSlots rows t =
    Any (λ row. SameWord (key_of row.key).section (codes "color") × ((key_of row.key).subsection ≡ Some t)) rows

-- Only rows have settings where the key is. Without a subsection that is a section of the rows that has no settings
-- without a row. With one it is such a subsection of `color`, since Git takes no slot there but those of the rows.
pub data IsOwn (rows : List Row) (key : Key) : Type 0 where
  alone : key.subsection ≡ None → ¬ (IsShared key.section) → HasSection rows key.section → IsOwn rows key
  slot : (t : List ℕ) → key.subsection ≡ Some t → SameWord (codes "color") key.section → HasSlots rows t
      → IsOwn rows key

-- Git stops at an unknown message of git-fsck(1) and at an unknown slot of git-grep(1), and ignores all other
-- unknown keys
abbrev pub unknown_severity : (listed : List ℕ) → Severity
unknown_severity key =
    if starts_with nat_eq key (codes "fsck.") || starts_with nat_eq key
    (codes "color.grep.") then Error else Warning

-- ---- a name in another section

-- a section whose names are those of commands, or of what helpers ask for
abbrev pub IsTopic : List ℕ → Type 0
IsTopic t = SameWord (codes "advice") t
    ⊎ (SameWord (codes "color") t ⊎ (SameWord (codes "credential") t ⊎ SameWord (codes "pager") t))

-- The key of the row has the key's name in another section, and neither key has a subsection. A `color` may
-- be that of
-- many commands.
pub record IsMoved (row key : Key) : Type 0 where
  pub row_alone : row.subsection ≡ None
  pub key_alone : key.subsection ≡ None
  pub name : SameWord row.name key.name
  pub section : ¬ (SameWord row.section key.section)
  pub no_topic : ¬ (IsTopic row.section)
  pub no_color : ¬ (SameWord (codes "color") row.name)

abbrev pub IsMovedRow : Key → Row → Type 0
IsMovedRow key row = IsMoved (key_of row.key) key

abbrev pub HasNone : (Row → Type 0) → List Row → Type 0
HasNone P rows = All (λ row. ¬ (P row)) rows

-- the first row of which this holds
pub record IsFirstSuch (P : Row → Type 0) (rows : List Row) (row : Row) : Type 0 where
  pub place : ℕ
  pub inside : place < length rows
  pub stands : slice_index_or rows place row ≡ row
  pub is : P row
  pub first : HasNone P (take place rows)

-- a row has the key's section, and this is the first row that has the name in another section
abbrev pub IsElsewhere : List Row → Key → Row → Type 0
IsElsewhere rows key row = HasSection rows key.section × IsFirstSuch (IsMovedRow key) rows row

abbrev pub IsNowhere : List Row → Key → Type 0
IsNowhere rows key = ¬ (HasSection rows key.section) ⊎ HasNone (IsMovedRow key) rows

-- the row whose key is suggested: the nearest one or, if all rows are far, the first with the name in another
-- section
pub data IsSuggested (rows : List Row) (key : Key) (row : Row) : Type 0 where
  near : IsNearest (RowEdits key) rows row → IsSuggested rows key row
  moved : AreFar (RowEdits key) rows → IsElsewhere rows key row → IsSuggested rows key row

-- what is suggested for an unknown key: the key of such a row, or nothing if there is none and only rows have
-- settings
-- where the key is (`IsOwn`)
abbrev pub Suggests : List Row → Key → Option Key → Type 0
Suggests rows key None = AreFar (RowEdits key) rows × (IsNowhere rows key × IsOwn rows key)
Suggests rows key (Some nearest) = (row : Row) × IsSuggested rows key row × FillsKey (key_of row.key) key nearest

-- the key that is suggested for an unknown key, if there is one
abbrev pub nearest_of : UnknownKey → Option Key
nearest_of unknown = option_map key_of unknown.nearest

-- the text is a key that no row covers and that is reported, with this suggestion
pub record IsUnknownKey (rows : List Row) (t : List ℕ) (k : UnknownKey) : Type 0 where
  pub key : Key
  pub cut : IsCut t key
  pub unknown : IsUnknown rows t
  pub suggests : Suggests rows key (nearest_of k)

-- the key is not reported: all rows are far, its name is nowhere else, and not only rows have settings where it is
pub record IsForeign (rows : List Row) (key : Key) : Type 0 where
  pub far : AreFar (RowEdits key) rows
  pub nowhere : IsNowhere rows key
  pub not_own : ¬ (IsOwn rows key)

-- the text is not reported: it has no dot, or its key is not reported
pub data IsPassed (rows : List Row) (t : List ℕ) : Type 0 where
  no_dot : list_all is_no_dot t ≡ true → IsPassed rows t
  foreign : (key : Key) → IsCut t key → IsForeign rows key → IsPassed rows t

-- ---- the text about an unknown key

abbrev pub dotted : List ℕ → List ℕ
dotted part = shown part ++ dot ∷ []

abbrev pub subsection_shown : Option (List ℕ) → List ℕ
subsection_shown None = []
subsection_shown (Some subsection) = dotted subsection

abbrev pub after_shown : Key → List ℕ
after_shown key = subsection_shown key.subsection ++ shown key.name

abbrev pub key_shown : Key → List ℕ
key_shown key = dotted key.section ++ after_shown key

abbrev pub asked : Key → List ℕ
asked key = key_shown key ++ codes "?"

abbrev pub suggestion_text : Option Key → List ℕ
suggestion_text None = codes "unknown key"
suggestion_text (Some key) = codes "unknown key; did you mean " ++ asked key

abbrev pub unknown_text : UnknownKey → List ℕ
unknown_text unknown = suggestion_text (nearest_of unknown)
