-- What a section is made of, and what becomes of it when it gets another name or goes.
use Rattle.std.specs.Prelude.{◌≡◌, ◌≢◌, ℕ, Bool, true, false, not, List, [], ◌∷◌, ◌++◌, Some, ⊤, ◌⊎◌}
use Rattle.std.specs.Prelude.{if◌then◌else◌}
use Rattle.std.specs.List.{AllByRecursion}
use Rattle.config_edit.specs.declared.EditError.{EditError}
use Rattle.config_edit.specs.declared.EditError.TheVariants as error
use Rattle.config_file.specs.Bytes.{left_bracket, dot}
use Rattle.config_file.specs.Header.{Section}
use Rattle.config_file.specs.File.{Entry, IsFile}
use Rattle.config_file.specs.Key.{Key, IsKey}
use Rattle.config_file.specs.Spelling.{SpellsSection, HasNoHeader, spelled_section}
use Rattle.config_edit.specs.Cut.{Part, header, line, part_bytes, parts_bytes, ends_line, HasComment}
use Rattle.config_edit.specs.Cut.{HasParts, is_header, HaveNoHeader}
use Rattle.config_edit.specs.Edit.{Content, HasContents, IsIn, WithoutIn, IsEndOfLine}

-- the part is a header of a section of the key
abbrev pub IsHeaderIn : Key → Part → Type 0
IsHeaderIn key (header blanks section inner) = IsIn key (Some section)
IsHeaderIn key _ = ⊥

-- the part is a line with a comment and nothing else
abbrev pub IsCommentLine : Part → Type 0
IsCommentLine (line tail is_line) = HasComment tail
IsCommentLine _ = ⊥

abbrev pub NoneIs : (Part → Type 0) → List Part → Type 0
NoneIs Is parts = AllByRecursion (λ part. ¬ (Is part)) parts

-- the header of a section of the key that Git writes
abbrev pub git_header : Key → List ℕ
git_header key = left_bracket ∷ spelled_section key.section key.subsection

-- Each header of the first key becomes the blanks before it and the header of the second key. Every other
-- part stays.
pub data RenamesParts (from to : Key) : List Part → List ℕ → Type 0 where
  none : RenamesParts from to [] []
  renamed : {parts : List Part} {new : List ℕ} (blanks : List ℕ) (section : Section) (inner : List ℕ)
      → IsIn from (Some section) → RenamesParts from to parts new
      → RenamesParts from to (header blanks section inner ∷ parts) ((blanks ++ git_header to) ++ new)
  kept : {parts : List Part} {new : List ℕ} (part : Part)
      → ¬ (IsHeaderIn from part) → RenamesParts from to parts new
      → RenamesParts from to (part ∷ parts) (part_bytes part ++ new)

-- the last of these parts is no comment line
abbrev pub EndsInNoComment : List Part → Type 0
EndsInNoComment parts = (front : List Part) (last : Part) → parts ≡ front ++ last ∷ [] → ¬ (IsCommentLine last)

-- What follows the header of a section ends in these comment lines, and no comment line precedes them. What
-- is left of
-- the line of the header is none of them.
pub data EndsInComments : List Part → List Part → Type 0 where
  header_alone : EndsInComments [] []
  lines : {comments : List Part} (own : Part) (lines : List Part)
      → EndsInNoComment lines → AllByRecursion IsCommentLine comments
      → EndsInComments (own ∷ (lines ++ comments)) comments

abbrev pub BeginsWithHeader : List Part → Type 0
BeginsWithHeader [] = ⊥
BeginsWithHeader (part ∷ parts) = is_header part ≡ true

-- what stays of the body of a section that goes: the comment lines directly above the next header, or nothing
-- at the
-- end of the text
abbrev pub Stays : List Part → List Part → List Part → Type 0
Stays body next comments =
    (BeginsWithHeader next × EndsInComments body comments) ⊎ ((next ≡ []) × (comments ≡ []))

-- the line end of the last of these parts that has one, or nothing
pub data LastEnd : List Part → List ℕ → Type 0 where
  none : LastEnd [] []
  here : {end : List ℕ} (parts : List Part) (part : Part)
      → ends_line part ≡ true → IsEndOfLine (part_bytes part) true end → LastEnd (parts ++ part ∷ []) end
  before : {end : List ℕ} (parts : List Part) (part : Part)
      → ends_line part ≡ false → LastEnd parts end → LastEnd (parts ++ part ∷ []) end

-- a line that goes on needs this line end
abbrev pub end_of : Bool → List ℕ → List ℕ
end_of goes_on end = if goes_on then end else []

-- whether a line that goes on does so behind this line end, or nothing
abbrev pub goes_on_behind : Bool → List ℕ → Bool
goes_on_behind goes_on [] = goes_on
goes_on_behind goes_on (b ∷ end) = false

-- The parts become these bytes, where a line that stays goes on before them or not. Each part stays, but for
-- the sections
-- of the key: a header and what follows it up to the next header. Of such a section comment lines stay, and
-- before them its
-- last line end, if the line before it goes on.
pub data Clears (key : Key) : Bool → List Part → List ℕ → Type 0 where
  none : {goes_on : Bool} → Clears key goes_on [] []
  kept : {goes_on : Bool} {parts : List Part} {new : List ℕ} (part : Part)
      → ¬ (IsHeaderIn key part) → Clears key (not (ends_line part)) parts new
      → Clears key goes_on (part ∷ parts) (part_bytes part ++ new)
  lost : {goes_on : Bool} {next : List Part} {end new : List ℕ} (head : Part) (body comments : List Part)
      → IsHeaderIn key head → HaveNoHeader body → Stays body next comments → LastEnd (head ∷ body) end
      → Clears key (goes_on_behind goes_on end) next new
      → Clears key goes_on (head ∷ (body ++ next)) ((end_of goes_on end ++ parts_bytes comments) ++ new)

-- the entries of the sections of the first key are in the section of the second one now
pub data Renames (from to : Key) : List Content → List Content → Type 0 where
  none : Renames from to [] []
  renamed : (x : Content) (section : Section) {old new : List Content}
      → Renames from to old new → IsIn from x.0 → SpellsSection section to.section to.subsection
      → Renames from to (old ++ x ∷ []) (new ++ (Some section, x.1, x.2) ∷ [])
  kept : (x : Content) {old new : List Content}
      → Renames from to old new → ¬ (IsIn from x.0)
      → Renames from to (old ++ x ∷ []) (new ++ x ∷ [])

-- the section of this name is that of the key
abbrev pub NamesSection : List ℕ → Key → Type 0
NamesSection name key = IsKey (name ++ dot ∷ 120 ∷ []) key

-- The new text is a file with the entries of the old one, but those of the sections of the old name are in
-- the section of
-- the new name. Each header of the old name, of which there is one, has become that of the new name, and all
-- else stays. If
-- the names are equal, it is the old text.
abbrev pub RenamesSection : List ℕ → List ℕ → List ℕ → List ℕ → Type 0
RenamesSection old_name new_name old new =
    (from : Key) × NamesSection old_name from × (contents : List Content) × HasContents old contents
    × (mark : List ℕ) × (parts : List Part) × HasParts old mark parts × ¬ (NoneIs (IsHeaderIn from) parts)
    × (((old_name ≡ new_name) × (new ≡ old))
    ⊎ ((old_name ≢ new_name) × (to : Key) × NamesSection new_name to
    × (now : List Content) × HasContents new now × Renames from to contents now
    × (bytes : List ℕ) × RenamesParts from to parts bytes × (new ≡ mark ++ bytes)))

-- The new text is a file without the entries of the sections of this name, of which there is one. Those
-- sections are gone
-- but for comments, and all else stays.
abbrev pub RemovesSection : List ℕ → List ℕ → List ℕ → Type 0
RemovesSection name old new =
    (key : Key) × NamesSection name key × (contents : List Content) × HasContents old contents
    × (now : List Content) × HasContents new now × WithoutIn key contents now
    × (mark : List ℕ) × (parts : List Part) × HasParts old mark parts × ¬ (NoneIs (IsHeaderIn key) parts)
    × (bytes : List ℕ) × Clears key false parts bytes × (new ≡ mark ++ bytes)

-- the text is a file of which no header has the section of this name, which may be the name of none
abbrev pub LacksSection : List ℕ → List ℕ → Type 0
LacksSection name text = (contents : List Content) × HasContents text contents
    × ((key : Key) → NamesSection name key
    → (mark : List ℕ) × (parts : List Part) × HasParts text mark parts × NoneIs (IsHeaderIn key) parts)

-- no header has the section of this name, which may be the name of none
abbrev pub LacksHeader : List ℕ → Type 0
LacksHeader name = (key : Key) → NamesSection name key → HasNoHeader key.section key.subsection

-- Why a section is not removed: the text is no file, or else no header has the section of this name. Memory
-- may be refused
-- at any time.
abbrev pub RefusesRemoval : List ℕ → List ℕ → EditError → Type 0
RefusesRemoval name text (error.Memory e) = ⊤
RefusesRemoval name text (error.File e) = (entries : List Entry) × IsFile text entries (Some e)
RefusesRemoval name text error.Absent = LacksSection name text
RefusesRemoval name text _ = ⊥

-- Why a section is not renamed: no header can have the section of the new name, or else as it is not removed.
abbrev pub RefusesRenaming : List ℕ → List ℕ → List ℕ → EditError → Type 0
RefusesRenaming old new text error.Section = LacksHeader new
RefusesRenaming old new text (error.Memory e) = ⊤
RefusesRenaming old new text e = ¬ (LacksHeader new) × RefusesRemoval old text e
