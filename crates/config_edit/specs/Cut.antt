-- A text cut in its parts, of which an edit says what each becomes.
--
-- Look for (here and in Unset): each byte of a text is in one part, and each part of it becomes bytes that
-- are determined. `Goes`: the place of an entry is the number of those before it. `IsEmptied`: an entry
-- goes, and only blank lines are left. `IsBelowComment`: only blank lines are between.
use Rattle.std.specs.Prelude.{◌≡◌, ◌≢◌, ℕ, ◌+◌, Bool, true, false, not, List, [], ◌∷◌, ◌++◌, Option, Some}
use Rattle.std.specs.Prelude.{None, ◌⊎◌}
use Rattle.std.specs.List.{list_all}
use Rattle.config_file.specs.Bytes.{line_feed, left_bracket, is_blank, is_comment_sign, is_comment_byte}
use Rattle.config_file.specs.Bytes.{BeginsWithLetter}
use Rattle.config_file.specs.Header.{Section, Header}
use Rattle.config_file.specs.File.{TakesEntry, after_mark}

-- the bytes of a value, of which there are none if only a key stands
abbrev pub value_bytes : Option (List ℕ) → List ℕ
value_bytes None = []
value_bytes (Some raw) = raw

-- A header, behind blanks; an entry, behind blanks, with what is between its key and its value, and what is
-- left of its
-- line; or what is left of a line, which may be all of it. A line without a line end ends the text.
pub data Part : Type 0 where
  header : (blanks : List ℕ) (section : Section) (inner : List ℕ) → Part
  entry : (blanks key between : List ℕ) (value : Option (List ℕ)) (tail : List ℕ) (is_line : Bool) → Part
  line : (tail : List ℕ) (is_line : Bool) → Part

-- the bytes of a part, in their order
abbrev pub part_bytes : Part → List ℕ
part_bytes (header blanks section inner) = blanks ++ left_bracket ∷ inner
part_bytes (entry blanks key between value tail is_line) =
    blanks ++ ((key ++ (between ++ value_bytes value)) ++ tail)
part_bytes (line tail is_line) = tail

abbrev pub AreBlank : List ℕ → Type 0
AreBlank bytes = list_all is_blank bytes ≡ true

-- nothing, or a comment
pub data IsComment : List ℕ → Type 0 where
  absent : IsComment []
  present : {sign : ℕ} {bytes : List ℕ}
      → is_comment_sign sign ≡ true → list_all is_comment_byte bytes ≡ true
      → IsComment (sign ∷ bytes)

-- what is left of a line: blanks, a comment or none, and the line end, or the end of the text
pub record IsTail (tail rest : List ℕ) (is_line : Bool) : Type 0 where
  pub blanks : List ℕ
  pub comment : List ℕ
  pub are_blank : AreBlank blanks
  pub is_comment : IsComment comment
  pub ends : ((is_line ≡ true) × (tail ≡ blanks ++ (comment ++ line_feed ∷ [])))
      ⊎ ((is_line ≡ false) × (rest ≡ []) × (tail ≡ blanks ++ comment))

-- before this rest, the bytes of the part are what it says
abbrev pub IsPart : Part → List ℕ → Type 0
IsPart (header blanks section inner) rest = AreBlank blanks × Header (inner ++ rest) section rest
IsPart (entry blanks key between value tail is_line) rest =
    AreBlank blanks × BeginsWithLetter (key ++ (between ++ value_bytes value))
    × ((lines : ℕ) × TakesEntry ((key ++ (between ++ value_bytes value)) ++ (tail ++ rest)) key value lines
    (tail ++ rest))
    × IsTail tail rest is_line
IsPart (line tail is_line) rest = (tail ≢ []) × IsTail tail rest is_line

-- the text is these parts, one after the other
pub data Cuts : List ℕ → List Part → Type 0 where
  ends : Cuts [] []
  begins : {rest : List ℕ} {parts : List Part} (first : Part)
      → IsPart first rest → Cuts rest parts → Cuts (part_bytes first ++ rest) (first ∷ parts)

-- the text is its byte order mark, or nothing, and this body
pub data IsSplit : List ℕ → List ℕ → List ℕ → Type 0 where
  unmarked : {text : List ℕ} → after_mark text ≡ None → IsSplit text [] text
  marked : {text body : List ℕ} → after_mark text ≡ Some body → IsSplit text (0xef ∷ 0xbb ∷ 0xbf ∷ []) body

-- the text is this mark, or nothing, and these parts
abbrev pub HasParts : List ℕ → List ℕ → List Part → Type 0
HasParts text mark parts = (body : List ℕ) × IsSplit text mark body × Cuts body parts

-- the section behind a part, if this one is before it
abbrev pub section_behind : Option Section → Part → Option Section
section_behind before (header blanks section inner) = Some section
section_behind before _ = before

-- the section behind these parts, if this one is before them
abbrev pub section_from : Option Section → List Part → Option Section
section_from before [] = before
section_from before (part ∷ parts) = section_from (section_behind before part) parts

-- the section that the reading is in behind the first parts of a text
abbrev pub section_after : List Part → Option Section
section_after parts = section_from None parts

-- whether a line end ends the part
abbrev pub ends_line : Part → Bool
ends_line (header blanks section inner) = false
ends_line (entry blanks key between value tail is_line) = is_line
ends_line (line tail is_line) = is_line

abbrev pub is_header : Part → Bool
is_header (header blanks section inner) = true
is_header _ = false

abbrev pub HaveNoHeader : List Part → Type 0
HaveNoHeader parts = list_all (λ part. not (is_header part)) parts ≡ true

-- whether the last of these parts is a header, so that the next one is on its line
abbrev pub ends_in_header : List Part → Bool
ends_in_header [] = false
ends_in_header (last ∷ []) = is_header last
ends_in_header (first ∷ second ∷ parts) = ends_in_header (second ∷ parts)

-- how many entries are among these parts
abbrev pub entries_in : List Part → ℕ
entries_in [] = 0
entries_in (entry blanks key between value tail is_line ∷ parts) = 1 + entries_in parts
entries_in (other ∷ parts) = entries_in parts

-- behind any blanks, these bytes have a comment
abbrev pub HasComment : List ℕ → Type 0
HasComment bytes = (blanks more : List ℕ) × (sign : ℕ) × (bytes ≡ blanks ++ sign ∷ more) × AreBlank blanks
    × (is_comment_sign sign ≡ true)

-- the parts become these bytes, each as this allows behind the parts before it
pub data EachBecomes (May : List Part → Part → List ℕ → Type 0) : List Part → List ℕ → Type 0 where
  none : EachBecomes May [] []
  next : {before : List Part} {new : List ℕ} (part : Part) (put : List ℕ)
      → EachBecomes May before new → May before part put → EachBecomes May (before ++ part ∷ []) (new ++ put)

-- the bytes of the parts, in their order
abbrev pub parts_bytes : List Part → List ℕ
parts_bytes [] = []
parts_bytes (part ∷ parts) = part_bytes part ++ parts_bytes parts

-- the new text is the mark of the old one, and what its parts become
abbrev pub BecomesParts : (List Part → Part → List ℕ → Type 0) → List ℕ → List ℕ → Type 0
BecomesParts May old new = (mark : List ℕ) × (parts : List Part) × (bytes : List ℕ) × HasParts old mark parts
    × EachBecomes May parts bytes × (new ≡ mark ++ bytes)
