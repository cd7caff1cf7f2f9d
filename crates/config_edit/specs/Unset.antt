-- A text out of which entries of a key are taken, and the headers of sections that they leave empty.
use Rattle.std.specs.Prelude.{◌≡◌, ℕ, Bool, true, false, List, [], ◌∷◌, ◌++◌, Option, Some, None, ◌⊎◌}
use Rattle.config_file.specs.Key.{Key}
use Rattle.config_edit.specs.Cut.{Part, header, entry, line, part_bytes, parts_bytes, ends_line}
use Rattle.config_edit.specs.Cut.{ends_in_header, entries_in}
use Rattle.config_edit.specs.Cut.{section_after, HasComment, HasParts, EachBecomes, is_header, HaveNoHeader}
use Rattle.config_edit.specs.Edit.{Content, HasContents, Edits, IsEntryOf, IsPlaceOf, IsEndOfLine, LosesOne}
use Rattle.config_edit.specs.Edit.{Without}
pub use Rattle.config_edit.specs.Edit.{LeavesEnd}

-- behind these parts of a text, the part is an entry of the key, at one of the places
abbrev pub Goes : Key → Option (List ℕ) → List Part → Part → Type 0
Goes key places before part = IsEntryOf key before part × IsPlaceOf places (entries_in before)

-- Behind these parts of a text, an entry that goes leaves nothing, or its line end if a header is on its
-- line. Every other
-- part stays.
abbrev pub Leaves : Key → Option (List ℕ) → List Part → Part → List ℕ → Type 0
Leaves key places before part put =
    (Goes key places before part × LeavesEnd (ends_in_header before) (part_bytes part) (ends_line part) put)
    ⊎ (¬ (Goes key places before part) × (put ≡ part_bytes part))

-- blanks, up to the end of a line or of the text
abbrev pub IsBlankPart : Part → Type 0
IsBlankPart (line tail is_line) = ¬ (HasComment tail)
IsBlankPart _ = ⊥

-- the last item of the part is a comment
abbrev pub EndsInComment : Part → Type 0
EndsInComment (header blanks section inner) = ⊥
EndsInComment (entry blanks name between value tail is_line) = HasComment tail
EndsInComment (line tail is_line) = HasComment tail

-- a comment ends these parts, or only blank lines follow it
pub data IsBelowComment : List Part → Type 0 where
  comment : (before : List Part) (part : Part) → EndsInComment part → IsBelowComment (before ++ part ∷ [])
  blank : (before : List Part) (part : Part) → IsBelowComment before → IsBlankPart part
      → IsBelowComment (before ++ part ∷ [])

-- behind others, an entry of the key goes out of these parts
abbrev pub LosesOf : Key → Option (List ℕ) → List Part → List Part → Type 0
LosesOf key places before parts =
    (front back : List Part) × (part : Part) × (parts ≡ front ++ part ∷ back)
    × Goes key places (before ++ front) part

-- behind others, each of these parts goes or is blank
abbrev pub KeepsNone : Key → Option (List ℕ) → List Part → List Part → Type 0
KeepsNone key places before parts = (front back : List Part) (part : Part)
    → parts ≡ front ++ part ∷ back → Goes key places (before ++ front) part ⊎ IsBlankPart part

-- The section of this header, behind these parts of a text, is emptied: it loses an entry of the key, keeps
-- none and no
-- comment, and no comment is right above the header.
abbrev pub IsEmptied : Key → Option (List ℕ) → List Part → Part → List Part → Type 0
IsEmptied key places before top body = LosesOf key places (before ++ top ∷ []) body
    × KeepsNone key places (before ++ top ∷ []) body × ¬ (IsBelowComment before)

-- The header of an emptied section goes with what is left of its line, but for the line end if another header
-- precedes it on
-- the line.
abbrev pub LeavesEmptied : Key → Option (List ℕ) → List Part → List Part → Part → List ℕ → Type 0
LeavesEmptied key places before [] part put = put ≡ []
LeavesEmptied key places before (top ∷ []) part put =
    LeavesEnd (ends_in_header before) (part_bytes part) (ends_line part) put
LeavesEmptied key places before (top ∷ front) part put = Leaves key places (before ++ top ∷ front) part put

-- what becomes of a section of this header and these parts
abbrev pub SectionBecomes : Key → Option (List ℕ) → List Part → Part → List Part → List ℕ → Type 0
SectionBecomes key places before top body put =
    (IsEmptied key places before top body × EachBecomes (LeavesEmptied key places before) (top ∷ body) put)
    ⊎ (¬ (IsEmptied key places before top body)
    × EachBecomes (λ front. Leaves key places (before ++ front)) (top ∷ body) put)

-- What becomes of the parts of a text, a section after the other: what precedes the first header stays.
pub data TakesOut (key : Key) (places : Option (List ℕ)) : List Part → List ℕ → Type 0 where
  front : {parts : List Part} → HaveNoHeader parts → TakesOut key places parts (parts_bytes parts)
  section : {before body : List Part} {new put : List ℕ} (top : Part)
      → TakesOut key places before new → is_header top ≡ true → HaveNoHeader body
      → SectionBecomes key places before top body put → TakesOut key places (before ++ top ∷ body) (new ++ put)

-- the new text is the old one, with its mark, out of which the entries of the key at these places, or all of
-- it, are taken
abbrev pub IsTakenOut : Key → Option (List ℕ) → List ℕ → List ℕ → Type 0
IsTakenOut key places old new = (mark : List ℕ) × (parts : List Part) × (bytes : List ℕ)
    × HasParts old mark parts
    × TakesOut key places parts bytes × (new ≡ mark ++ bytes)

-- what `unset` makes: the one entry of the key is gone
abbrev pub Unsets : List ℕ → List ℕ → List ℕ → Type 0
Unsets name old new = Edits (λ key contents new. (now : List Content) × HasContents new now
    × LosesOne key contents now × IsTakenOut key None old new) name old new

-- the entries of the key at these places are gone, or all of the key
abbrev pub UnsetsEach : Option (List ℕ) → List ℕ → List ℕ → List ℕ → Type 0
UnsetsEach places name old new = Edits (λ key contents new. (now : List Content) × HasContents new now
    × Without key places contents now × IsTakenOut key places old new) name old new

-- what `unset_all` makes: all entries of the key are gone
abbrev pub UnsetsAll : List ℕ → List ℕ → List ℕ → Type 0
UnsetsAll name old new = UnsetsEach None name old new

-- what `unset_at` makes: the entries of the key at these places are gone
abbrev pub UnsetsAt : List ℕ → List ℕ → List ℕ → List ℕ → Type 0
UnsetsAt places name old new = UnsetsEach (Some places) name old new
