-- Pieces of a text, each of which holds the same wherever it stands.
use Rattle.std.specs.Prelude.{◌≡◌, ◌≢◌, ℕ, ◌+◌, Bool, true, false, List, [], ◌∷◌, ◌++◌, Option, Some, None}
use Rattle.std.specs.Prelude.{map, not, ◌&&◌, ◌⊎◌, ◌↔◌, ⊤, IsTrue, MatchOption, ◌≤◌, ◌<◌, length, option_copied}
use Rattle.std.specs.List.{AllByRecursion, AllZip, list_all}
use Rattle.std.specs.Char.{is_ascii_alphabetic}
use Rattle.config_file.specs.declared.entry.EntryParts.{EntryParts}
use Rattle.config_edit.specs.declared.Change.{Change}
use Rattle.config_edit.specs.declared.setting.Found.{Found}
use Rattle.config_edit.specs.declared.setting.Insertion.{Insertion}
use Rattle.config_edit.specs.declared.setting.Places.{Places}
use Rattle.config_edit.specs.declared.setting.Replacement.{Replacement}
use Rattle.config_edit.specs.declared.setting.Replacement.TheVariants as replacement
use Rattle.config_edit.specs.declared.removal.Count.{Count}
use Rattle.config_edit.specs.declared.removal.Count.TheVariants as count
use Rattle.config_edit.specs.declared.removal.Group.{Group}
use Rattle.config_edit.specs.declared.removal.Taken.{Taken}
use Rattle.config_edit.specs.declared.sections.Lost.{Lost}
use Rattle.config_edit.specs.declared.write.End.{End}
use Rattle.config_edit.specs.declared.write.End.TheVariants as end
use Rattle.config_edit.specs.declared.piece.Held.{Held}
use Rattle.config_edit.specs.declared.piece.Held.TheVariants as held
use Rattle.config_edit.specs.declared.piece.Piece.{Piece}
use Rattle.config_file.specs.Bytes.{line_feed, carriage_return, left_bracket, is_blank, is_comment_sign}
use Rattle.config_file.specs.Bytes.{is_comment_byte}
use Rattle.config_file.specs.Bytes.{BeginsWithLetter}
use Rattle.config_edit.specs.Reached.{Leads}
use Rattle.config_file.specs.Header.{Section, Header}
use Rattle.config_file.specs.File.{Entry, TakesEntry, Reads, IsFile}
use Rattle.config_edit.specs.declared.EditError.{EditError}
use Rattle.config_edit.specs.declared.EditError.TheVariants as error
use Rattle.config_file.specs.Key.{Key, IsKey, RefusesKey, is_name}
use Rattle.config_file.specs.Spelling.{HasNoHeader, IsGitSpelling, git_spelled}
use Rattle.config_file.specs.Value.{outside, at_backslash, SpellsValue, line_feeds}
use Rattle.config_edit.specs.Edit.{Content, content, LosesOne}
use Rattle.config_edit.specs.Cut as cut
use Rattle.config_edit.specs.Cut.{AreBlank, HasComment, IsTail, Part, Cuts, EachBecomes, part_bytes}
use Rattle.config_edit.specs.Cut.{parts_bytes, ends_in_header, entries_in}
use Rattle.config_edit.specs.Cut.{value_bytes, section_from, is_header, HaveNoHeader}
use Rattle.config_edit.specs.Sections.{IsHeaderIn, NoneIs, RenamesParts, Clears, LastEnd, EndsInComments}
use Rattle.config_edit.specs.Sections.{BeginsWithHeader}
use Rattle.config_edit.specs.Unset.{Leaves, LeavesEmptied, LosesOf, KeepsNone, IsBelowComment, TakesOut}
use Rattle.config_edit.specs.Edit.{IsIn, IsOf, HasValue, Without, HasNone, HasNoneAt, LeavesEnd}
use Rattle.config_edit.specs.Edit.{IsPlaceOf, HasSeveral, Replaces, SameEntry, NoneIn}
use Rattle.config_edit.specs.Edit.{AddsContent, entry_line, PutsValue, ReplacesPart, HasOne}
use Rattle.config_edit.specs.Edit.{ChangesEach, ChangesValueTo, ChangesPart, AreInOrder, Has}
use Rattle.config_edit.specs.Edit.{name_after, ChangesEntry, WritesComment, IsEndOfLine, CanFollow, IsPlace}
use Rattle.config_edit.specs.Edit.{EndsParts, IsFeedAt}
use Rattle.config_file.specs.Listing.{IsListedSection}
use Rattle.config_file.specs.Reading.Spellings.{is_spellable}
use Rattle.config_file.specs.Views.{section_of, value_of}

-- LF, or CR LF
abbrev pub IsLineEnd : List ℕ → Type 0
IsLineEnd bytes = (bytes ≡ line_feed ∷ []) ⊎ (bytes ≡ carriage_return ∷ line_feed ∷ [])

-- nothing, or a line end
abbrev pub IsEnd : List ℕ → Type 0
IsEnd bytes = (bytes ≡ []) ⊎ IsLineEnd bytes

-- blanks, an entry of this key and this value before this text, and what is left of its line
pub record IsEntry
    (key : List ℕ) (value : Option (List ℕ)) (lines : ℕ) (at blanks bytes rest : List ℕ) (is_line : Bool)
    : Type 0 where
  pub front : List ℕ
  pub tail : List ℕ
  pub begins : BeginsWithLetter (front ++ at)
  pub takes : TakesEntry (front ++ at) key value lines at
  pub left : at ≡ tail ++ rest
  pub is_tail : IsTail tail rest is_line
  pub joined : bytes ≡ blanks ++ (front ++ tail)

-- whatever line it is on and whatever follows it, the text leads from the first section to the second one,
-- with these
-- contents of entries
abbrev pub Holds : Option Section → List ℕ → List Content → Option Section → Type 0
Holds section text contents next = (line : ℕ) (other : List ℕ) → (end : ℕ) × (entries : List Entry)
    × Leads section line (text ++ other) entries next end other × (map content entries ≡ contents)

-- whatever line it is on, the text is read to its end, with these contents of entries
abbrev pub Ends : Option Section → List ℕ → List Content → Type 0
Ends section text contents = (line : ℕ) → (entries : List Entry) × Reads section line text entries None
    × (map content entries ≡ contents)

-- before this rest, the text holds these contents, or it ends the file
pub data Passed (section : Option Section) (text : List ℕ) (contents : List Content) (next : Option Section)
    (rest : List ℕ) : Type 0 where
  anywhere : Holds section text contents next → Passed section text contents next rest
  at_end : rest ≡ [] → Ends section text contents → Passed section text contents next rest

-- the text can be read to its end
abbrev pub IsRead : List ℕ → Type 0
IsRead text =
    (section : Option Section) × (line : ℕ) × (entries : List Entry) × Reads section line text entries None

-- the text does not begin with a comment
abbrev pub StartsNoComment : List ℕ → Type 0
StartsNoComment [] = ⊤
StartsNoComment (b ∷ rest) = is_comment_sign b ≡ false

-- the text is empty, or begins with a byte of no blank, no header and no entry
abbrev pub StartsLine : List ℕ → Type 0
StartsLine [] = ⊤
StartsLine (b ∷ rest) = (is_blank b ≡ false) × (b ≢ left_bracket) × (is_ascii_alphabetic b ≡ false)

-- the rest is empty, or begins with LF
abbrev pub EndsComment : List ℕ → Type 0
EndsComment [] = ⊤
EndsComment (b ∷ rest) = b ≡ line_feed

-- the contents of what a piece holds, and the section after it
abbrev pub contents_in : Held → Option Section → List Content
contents_in (held.Entry parts) section = (section, parts.key.now, value_of parts.value) ∷ []
contents_in _ section = []

abbrev pub section_after : Held → Option Section → Option Section
section_after (held.Header section) _ = Some (section_of section)
section_after _ section = section

-- the line does not end here: blanks and then a byte of something else come
abbrev pub GoesOn : List ℕ → Type 0
GoesOn text = (blanks : List ℕ) × (b : ℕ) × (more : List ℕ) × (text ≡ blanks ++ b ∷ more) × AreBlank blanks
    × (is_blank b ≡ false) × (is_comment_sign b ≡ false) × (b ≢ line_feed)

-- blanks, and a header of this section
pub record IsHeaderAt (section : Section) (blanks bytes : List ℕ) : Type 0 where
  pub inner : List ℕ
  pub joined : bytes ≡ blanks ++ left_bracket ∷ inner
  pub header : (other : List ℕ) → Header (inner ++ other) section other

-- what a piece that holds this is made of: its first blanks, all its bytes, and what follows it
abbrev pub IsMade : Held → List ℕ → List ℕ → List ℕ → Bool → Type 0
IsMade (held.Entry parts) blanks bytes rest is_line =
    IsEntry parts.key.now (value_of parts.value) parts.lines parts.rest.now blanks bytes rest is_line
IsMade (held.Header section) blanks bytes rest is_line = IsHeaderAt (section_of section) blanks bytes
IsMade held.Nothing blanks bytes rest is_line = IsTail bytes rest is_line × ¬ (HasComment bytes)
IsMade held.Comment blanks bytes rest is_line = IsTail bytes rest is_line × HasComment bytes

-- the last item of a piece is a comment
abbrev pub EndsInCommentHeld : Held → Type 0
EndsInCommentHeld (held.Entry parts) = HasComment parts.rest.now
EndsInCommentHeld held.Comment = ⊤
EndsInCommentHeld _ = ⊥

-- no line end ends a header
abbrev pub EndsNoLine : Held → Bool → Type 0
EndsNoLine (held.Header section) is_line = is_line ≡ false
EndsNoLine _ is_line = ⊤

-- the text begins with this piece
pub record IsPiece (text : List ℕ) (piece : Piece) : Type 0 where
  pub joined : text ≡ piece.bytes.now ++ piece.rest.now
  pub blank : AreBlank piece.blanks.now
  pub made : IsMade piece.held piece.blanks.now piece.bytes.now piece.rest.now piece.is_line
  pub unended : EndsNoLine piece.held piece.is_line

-- the piece is a header of a section of the key
abbrev pub IsHeaderHeld : Key → Held → Type 0
IsHeaderHeld key (held.Header section) = IsIn key (Some (section_of section))
IsHeaderHeld key _ = ⊥

-- The reading of a text comes to this rest behind these parts.
pub record IsBehind (text rest : List ℕ) (done : List Part) : Type 0 where
  pub front : List ℕ
  pub contents : List Content
  pub section : Option Section
  pub joined : text ≡ front ++ rest
  pub passed : Passed None front contents section rest
  pub cuts : (later : List Part) → Cuts rest later → Cuts text (done ++ later)

-- whether one of the parts is a header of a section of the key
abbrev pub IsFoundIn : Key → List Part → Bool → Type 0
IsFoundIn key parts true = ¬ (NoneIs (IsHeaderIn key) parts)
IsFoundIn key parts false = NoneIs (IsHeaderIn key) parts

-- of a text, what precedes this rest has become this new text
pub record Renaming (from to : Key) (text rest new : List ℕ) (is_found : Bool) : Type 0 where
  pub done : List Part
  pub behind : IsBehind text rest done
  pub renames : RenamesParts from to done new
  pub found : IsFoundIn from done is_found

-- why a key is refused
abbrev pub RefusesName : List ℕ → EditError → Type 0
RefusesName text (error.Key e) = RefusesKey text e
RefusesName text error.Section = (key : Key) × IsKey text key × HasNoHeader key.section key.subsection
RefusesName text _ = ⊥

-- why a text is refused
abbrev pub RefusesText : List ℕ → EditError → Type 0
RefusesText text (error.File e) = (entries : List Entry) × IsFile text entries (Some e)
RefusesText text _ = ⊥

-- the line of an entry, as Git writes it
abbrev pub new_line : List ℕ → List ℕ → List ℕ → List ℕ
new_line key value feed = entry_line key (git_spelled value) feed

-- a space, or nothing
abbrev pub space_if : Bool → List ℕ
space_if true = 32 ∷ []
space_if false = []

-- these bytes spell the value, and are what becomes of those of the other value
pub record IsPutIn (between tail raw value put : List ℕ) : Type 0 where
  pub spells : SpellsValue put value outside
  pub puts : PutsValue value between tail (Some raw) put

-- the entry has this value, before what follows it or at a backslash that ends the text
abbrev pub HasHow : EntryParts → List ℕ → Type 0
HasHow parts value = (raw : List ℕ) × (value_of parts.value ≡ Some raw)
    × ((SpellsValue raw value outside × (parts.lines ≡ line_feeds raw))
    ⊎ (SpellsValue raw value at_backslash × (parts.lines ≡ line_feeds raw + 1)))

-- Git can list the section
abbrev pub IsListable : Option Section → Type 0
IsListable None = ⊤
IsListable (Some section) = (listed : List ℕ) × IsListedSection section listed

-- before this rest, the text has this front with these contents, and the reading is in this section
pub record IsPast (text rest front : List ℕ) (contents : List Content) (section : Option Section) : Type 0 where
  pub joined : text ≡ front ++ rest
  pub passed : Passed None front contents section rest
  pub listable : IsListable section

-- the content of an entry of these parts
abbrev pub content_of : Option Section → EntryParts → Content
content_of section parts = (section, parts.key.now, value_of parts.value)

-- the piece is an entry of the key
abbrev pub IsEntryHeld : Key → Option Section → Held → Type 0
IsEntryHeld key section (held.Entry parts) = IsOf key (content_of section parts)
IsEntryHeld key section _ = ⊥

-- The first parts of the text, before this rest: the reading is in this section behind them, and so many
-- entries are among them.
pub record IsCut (text rest : List ℕ) (section : Option Section) (count : ℕ) (before : List Part) : Type 0 where
  pub joined : text ≡ parts_bytes before ++ rest
  pub cuts : (later : List Part) → Cuts rest later → Cuts text (before ++ later)
  pub section_is : section_from None before ≡ section
  pub counted : entries_in before ≡ count

-- whatever entry of the key is the last, and whatever the parts before become, the parts behind them stay
abbrev pub AllStay : Key → List Part → List Part → List ℕ → Type 0
AllStay key before between bytes = (value : List ℕ) (last : ℕ) (new : List ℕ)
    → EachBecomes (ReplacesPart key value last) before new
    → EachBecomes (ReplacesPart key value last) (before ++ between) (new ++ bytes)

-- the part of an entry of these parts and this piece
abbrev pub entry_part : Piece → EntryParts → List ℕ → List ℕ → Part
entry_part piece parts between tail =
    cut.entry piece.blanks.now parts.key.now between (value_of parts.value) tail piece.is_line

-- an entry of the key was the last so far: what precedes it has become this new text, and this start follows it
pub record IsFound (key : Key) (text rest start new : List ℕ) (section : Option Section) (f : Found)
    (several : Bool) : Type 0 where
  pub front : List ℕ
  pub between : List ℕ
  pub before : List Content
  pub left : List Content
  pub after : List Content
  pub at : Option Section
  pub joined : text ≡ front ++ (f.piece.bytes.now ++ start)
  pub start_is : start ≡ f.piece.rest.now
  pub cut : start ≡ between ++ rest
  pub before_is : Holds None front before at
  pub now_is : Holds None new left at
  pub blank : AreBlank f.piece.blanks.now
  pub is_entry : IsEntry f.parts.key.now (value_of f.parts.value) f.parts.lines f.parts.rest.now
      f.piece.blanks.now f.piece.bytes.now f.piece.rest.now f.piece.is_line
  pub is_of : IsOf key (content_of at f.parts)
  pub others : Without key None before left
  pub parts : List Part
  pub inner : List ℕ
  pub tail : List ℕ
  pub later : List Part
  pub left_is : f.parts.rest.now ≡ tail ++ f.piece.rest.now
  pub part_is : part_bytes (entry_part f.piece f.parts inner tail) ≡ f.piece.bytes.now
  pub section_is : section_from None parts ≡ at
  pub counted : entries_in parts ≡ length before
  pub in_line : f.in_line ≡ ends_in_header parts
  pub cuts : IsCut text rest section (length (before ++ content_of at f.parts ∷ after))
      ((parts ++ entry_part f.piece f.parts inner tail ∷ []) ++ later)
  pub changes : (value : List ℕ) (last : ℕ) → entries_in parts ≤ last
      → EachBecomes (ReplacesPart key value last) parts new
  pub stays : AllStay key (parts ++ entry_part f.piece f.parts inner tail ∷ []) later between
  pub between_is : Passed at between after section rest
  pub last : HasNone key after
  pub listable : IsListable section
  pub single : several ≡ false → left ≡ before
  pub many : several ≡ true → HasSeveral key (before ++ content_of at f.parts ∷ [])

-- what precedes this rest of a text, in which entries of the key are looked for
abbrev pub Replacing : Key → List ℕ → List ℕ → List ℕ → List ℕ → Option Section → Option Found → Bool → Bool
    → Type 0
Replacing key text rest start new section None several in_line = (front : List ℕ) × (contents : List Content)
    × (parts : List Part)
    × IsPast text rest front contents section × HasNone key contents
    × (start ≡ text) × (new ≡ []) × (several ≡ false)
    × IsCut text rest section (length contents) parts × AllStay key [] parts front
    × (in_line ≡ ends_in_header parts)
Replacing key text rest start new section (Some f) several in_line =
    (r : IsFound key text rest start new section f several)
    × (in_line ≡ ends_in_header ((r.parts ++ entry_part f.piece f.parts r.inner r.tail ∷ []) ++ r.later))

-- the last entry of the key has this value in the new text, and its others are gone
pub record IsReplaced (key : Key) (value text : List ℕ) (contents : List Content) (new : List ℕ)
    (several : Bool) : Type 0 where
  pub now : List Content
  pub parts : List Part
  pub ends : Ends None new now
  pub replaces : Replaces key value contents now
  pub cuts : Cuts text parts
  pub becomes : EachBecomes (ReplacesPart key value (length replaces.before)) parts new
  pub single : several ≡ false → HasOne key contents
  pub many : several ≡ true → HasSeveral key contents

-- what becomes of a text in which a key gets a value
abbrev pub IsReplacement : Key → List ℕ → List ℕ → Replacement → Type 0
IsReplacement key value text replacement.Unread = (contents : List Content) → ¬ (Ends None text contents)
IsReplacement key value text replacement.Nothing =
    (contents : List Content) × Ends None text contents × HasNone key contents
IsReplacement key value text (replacement.Done r) =
    (contents : List Content) × Ends None text contents
    × IsReplaced key value text contents r.text.items r.several

-- what is left of an entry that is taken out, if one is: its line end, if a header precedes it on the line
abbrev pub IsLeft : Option Found → List ℕ → Type 0
IsLeft None left = left ≡ []
IsLeft (Some f) left = LeavesEnd f.in_line f.piece.bytes.now f.piece.is_line left

-- the value of these parts ends in a backslash that ends the text
abbrev pub IsOpenEntry : EntryParts → Type 0
IsOpenEntry parts = (raw : List ℕ) × (value_of parts.value ≡ Some raw) × (line_feeds raw ≢ parts.lines)

abbrev pub IsOpenHeld : Held → Type 0
IsOpenHeld (held.Entry parts) = IsOpenEntry parts
IsOpenHeld _ = ⊥

-- what ends the last line of a text, of which this is the last piece
pub data IsEndOf (piece : Piece) : End → Type 0 where
  line : piece.is_line ≡ true → IsEndOf piece end.Line
  unended : piece.is_line ≡ false → ¬ (IsOpenHeld piece.held) → IsEndOf piece end.Open
  backslashed : piece.is_line ≡ false → IsOpenHeld piece.held → IsEndOf piece end.Backslash

-- the line ends that are put behind such a text
abbrev pub line_ends : End → List ℕ → List ℕ
line_ends end.Line feed = []
line_ends end.Open feed = feed
line_ends end.Backslash feed = feed ++ feed

-- with line ends behind it, the text holds its contents, and any line can follow
abbrev pub Closes : Option Section → List ℕ → List Content → Option Section → End → Type 0
Closes section text contents next end = (feed : List ℕ) → IsLineEnd feed
    → (now : List Content) × Holds section (text ++ line_ends end feed) now next × AllZip SameEntry contents now

-- whether a piece holds a header or an entry
abbrev pub is_item : Held → Bool
is_item (held.Header section) = true
is_item (held.Entry parts) = true
is_item _ = false

abbrev pub holds_header : Held → Bool
holds_header (held.Header section) = true
holds_header _ = false

-- before this place the text has these contents in a section of the key, and then this text, in which none is
-- in it
pub record IsPlaceIn (key : Key) (text rest : List ℕ) (contents : List Content) (section : Option Section)
    (place : Insertion)
    : Type 0 where
  pub front : List ℕ
  pub between : List ℕ
  pub before : List Content
  pub after : List Content
  pub there : Option Section
  pub parts : List Part
  pub later : List Part
  pub joined : text ≡ front ++ place.rest.now
  pub cut : place.rest.now ≡ between ++ rest
  pub front_is : front ≡ parts_bytes parts
  pub cuts : IsCut text rest section (length contents) (parts ++ later)
  pub can_follow : CanFollow key parts
  pub is_last : (more left : List Part) → later ≡ more ++ left → CanFollow key (parts ++ more) → more ≡ []
  pub are_ends : (feed : List ℕ) → EndsParts feed parts (line_ends place.end feed)
  pub closes : Closes None front before there place.end
  pub in_section : IsIn key there
  pub passed : Passed there between after section rest
  pub last : NoneIn key after
  pub contents_are : contents ≡ before ++ after

-- the last place so far, if an entry or a header was in a section of the key
abbrev pub IsPlaceSoFar : Key → List ℕ → List ℕ → List Content → Option Section → Bool → Bool
    → Option Insertion → List Part → Type 0
IsPlaceSoFar key text rest contents section is_inside after None parts =
    NoneIn key contents × (is_inside ≡ false)
    × IsCut text rest section (length contents) parts
    × ((front back : List Part) → parts ≡ front ++ back → ¬ (CanFollow key front))
IsPlaceSoFar key text rest contents section is_inside after (Some place) parts =
    (p : IsPlaceIn key text rest contents section place) × (parts ≡ p.parts ++ p.later)

-- what precedes this rest of a text, in which a place for an entry of the key is looked for
pub record Placing (key : Key) (text rest : List ℕ) (is_inside after : Bool) (inside : Option Insertion)
    (end : End) : Type 0 where
  pub front : List ℕ
  pub contents : List Content
  pub section : Option Section
  pub parts : List Part
  pub past : IsPast text rest front contents section
  pub inside_is : IsTrue is_inside ↔ IsIn key section
  pub closes : Closes None front contents section end
  pub cuts : IsCut text rest section (length contents) parts
  pub after_is : after ≡ ends_in_header parts
  pub are_ends : (feed : List ℕ) → EndsParts feed parts (line_ends end feed)
  pub place : IsPlaceSoFar key text rest contents section is_inside after inside parts

-- the places of a whole text
pub record ArePlaces (key : Key) (text : List ℕ) (contents : List Content) (places : Places) : Type 0 where
  pub section : Option Section
  pub parts : List Part
  pub closes : Closes None text contents section places.end
  pub cuts : Cuts text parts
  pub are_ends : (feed : List ℕ) → EndsParts feed parts (line_ends places.end feed)
  pub inside : MatchOption places.inside
      (NoneIn key contents × ((front back : List Part) → parts ≡ front ++ back → ¬ (CanFollow key front)))
      (λ place. (p : IsPlaceIn key text [] contents section place) × (parts ≡ p.parts ++ p.later))

-- in a body, a line more, which has the key and the value
pub record PutsLineIn (key : Key) (value old new : List ℕ) : Type 0 where
  pub front : List Part
  pub back : List Part
  pub feed : List ℕ
  pub ends : List ℕ
  pub header : List ℕ
  pub headed : List ℕ
  pub spelling : List ℕ
  pub cuts : Cuts old (front ++ back)
  pub is_feed : IsFeedAt (parts_bytes front) (parts_bytes (front ++ back)) feed
  pub are_ends : EndsParts feed front ends
  pub is_place : IsPlace key header feed front back headed
  pub spells : IsGitSpelling spelling value
  pub new_is : new ≡ parts_bytes front
      ++ (ends ++ (headed ++ (entry_line key.name spelling feed ++ parts_bytes back)))

-- the text has one entry more, in its section
pub record IsAdded (key : Key) (value text : List ℕ) (contents : List Content) (new : List ℕ) : Type 0 where
  pub now : List Content
  pub ends : Ends None new now
  pub adds : AddsContent key value contents now
  pub bytes : PutsLineIn key value text new

-- whether a piece has only blanks
abbrev pub is_blank_held : Held → Bool
is_blank_held held.Nothing = true
is_blank_held _ = false

abbrev pub one_more : Count → Count
one_more count.None = count.One
one_more _ = count.Several

-- how many entries are gone: none, or if all of the key go, one or several
abbrev pub Counted : Key → Option (List ℕ) → List Content → List Content → Count → Type 0
Counted key places old new count.None = HasNoneAt places key old × (new ≡ old)
Counted key places old new count.One = MatchOption places (LosesOne key old new) (λ _. ⊤)
Counted key places old new count.Several = MatchOption places (HasSeveral key old) (λ _. ⊤)

-- from this place on, these are left of the places
abbrev pub AreLeft : Option (List ℕ) → Option (List ℕ) → ℕ → Type 0
AreLeft places left from = (place : ℕ) → from ≤ place → (IsPlaceOf places place ↔ IsPlaceOf left place)

-- with a header, another section begins
pub record IsBegun (g now : Group) (piece : Piece) (is_kept : Bool) : Type 0 where
  pub head : now.head.items ≡ piece.bytes.now
  pub body : now.body.items ≡ []
  pub line_end : now.line_end.now ≡ []
  pub in_line : now.in_line ≡ g.in_head
  pub in_head : now.in_head ≡ true
  pub has_lost : now.has_lost ≡ false
  pub kept : now.is_kept ≡ is_kept

-- what is left of a piece is appended to the head while its line goes on, and otherwise to the body
pub data IsPushed (g now : Group) (piece : Piece) (bytes : List ℕ) : Type 0 where
  to_head : g.in_head ≡ true → now.in_head ≡ false → now.in_line ≡ g.in_line
      → now.head.items ≡ g.head.items ++ bytes → now.body.items ≡ g.body.items
      → LeavesEnd g.in_line piece.bytes.now piece.is_line now.line_end.now → IsPushed g now piece bytes
  to_body : g.in_head ≡ false → now.in_head ≡ false → now.in_line ≡ g.in_line → now.head.items ≡ g.head.items
      → now.body.items ≡ g.body.items ++ bytes → now.line_end.now ≡ g.line_end.now → IsPushed g now piece bytes

-- these bytes are the section, with its head or with the line end in its place
pub data IsFinished (g : Group) : List ℕ → Type 0 where
  whole : (g.is_kept ≡ true) ⊎ (g.has_lost ≡ false) → IsFinished g (g.head.items ++ g.body.items)
  without_head : g.is_kept ≡ false → g.has_lost ≡ true → IsFinished g (g.line_end.now ++ g.body.items)

-- The parts of a section on its way: its head and its body are what is left of them, and if the header goes,
-- its line end and
-- its body.
pub record IsSection (key : Key) (places : Option (List ℕ)) (done : List Part) (top : Part) (body : List Part)
    (g : Group) : Type 0 where
  pub is_top : is_header top ≡ true
  pub no_header : HaveNoHeader body
  pub in_line : g.in_line ≡ ends_in_header done
  pub alone : g.in_head ≡ true → (body ≡ []) × (g.body.items ≡ []) × (g.line_end.now ≡ [])
  pub not_alone : g.in_head ≡ false → body ≢ []
  pub stays : EachBecomes (λ front. Leaves key places (done ++ front)) (top ∷ body)
      (g.head.items ++ g.body.items)
  pub goes : EachBecomes (LeavesEmptied key places done) (top ∷ body) (g.line_end.now ++ g.body.items)
  pub loses : (g.has_lost ≡ true) ↔ LosesOf key places (done ++ top ∷ []) body
  pub keeps_none : (g.is_kept ≡ false)
      ↔ (KeepsNone key places (done ++ top ∷ []) body × ¬ (IsBelowComment done))

-- before the first header all parts stay, and behind one the last section is on its way
abbrev pub AreTaken : Key → Option (List ℕ) → List Part → List ℕ → Group → Type 0
AreTaken key places parts new g =
    (HaveNoHeader parts × (new ≡ []) × (g.head.items ++ g.body.items ≡ parts_bytes parts)
    × ¬ (g.is_kept ≡ false)
    × (g.in_head ≡ false))
    ⊎ ((done body : List Part) × (top : Part) × (parts ≡ done ++ top ∷ body) × TakesOut key places done new
    × IsSection key places done top body g)

-- the parts before this rest of a text, out of which entries of the key are taken
pub record TakesParts (key : Key) (places : Option (List ℕ)) (text rest new : List ℕ)
    (section : Option Section) (g : Group)
    (index : ℕ) (is_below : Bool) : Type 0 where
  pub parts : List Part
  pub cuts : (later : List Part) → Cuts rest later → Cuts text (parts ++ later)
  pub section_is : section ≡ cut.section_after parts
  pub index_is : index ≡ entries_in parts
  pub below_is : IsTrue is_below ↔ IsBelowComment parts
  pub in_head : g.in_head ≡ ends_in_header parts
  pub taken : AreTaken key places parts new g

-- A section on its way. If nothing of it is kept, its body holds nothing in any section.
pub record IsGroup (g : Group) (now : List Content) (base section : Option Section)
    (rest : List ℕ) : Type 0 where
  pub passed : Passed base (g.head.items ++ g.body.items) now section rest
  pub alone : g.in_head ≡ true → g.body.items ≡ []
  pub is_end : IsEnd g.line_end.now
  pub empty : g.is_kept ≡ false → (now ≡ []) × ((any : Option Section) → Passed any g.body.items [] any rest)

-- what precedes this rest of a text, in which entries of the key are left out
pub record Losing (key : Key) (places : Option (List ℕ)) (text rest new : List ℕ) (section : Option Section)
    (g : Group)
    (count : Count) (index : ℕ) : Type 0 where
  pub front : List ℕ
  pub old : List Content
  pub now : List Content
  pub now_group : List Content
  pub base : Option Section
  pub past : IsPast text rest front old section
  pub index_is : index ≡ length old
  pub new_is : Holds None new now base
  pub group : IsGroup g now_group base section rest
  pub without : Without key places old (now ++ now_group)
  pub counted : Counted key places old (now ++ now_group) count

-- the text is left without the entries of the key at these places, or without all of the key
pub record IsTaken (key : Key) (places : Option (List ℕ)) (text : List ℕ) (contents : List Content)
    (taken : Taken) : Type 0 where
  pub now : List Content
  pub parts : List Part
  pub ends : Ends None taken.text.items now
  pub without : Without key places contents now
  pub counted : Counted key places contents now taken.count
  pub cuts : Cuts text parts
  pub takes : TakesOut key places parts taken.text.items

-- whatever parts of this kind follow, these become this new text before them, and then a line goes on or not
abbrev pub ClearsUpTo : (List Part → Type 0) → Key → List Part → List ℕ → Bool → Type 0
ClearsUpTo Next key done new in_line = (later : List Part) (more : List ℕ) → Next later
    → Clears key in_line later more → Clears key false (done ++ later) (new ++ more)

-- before this rest, all that stays has become this new text, if parts of this kind follow
pub record IsKept (Next : List Part
    → Type 0) (key : Key) (text rest new : List ℕ) (is_found in_line : Bool) : Type 0 where
  pub done : List Part
  pub behind : IsBehind text rest done
  pub clears : ClearsUpTo Next key done new in_line
  pub found : IsFoundIn key done is_found

-- whether the reading is at the start of a line behind this body of a section
abbrev pub IsAtLine : List Part → Bool → List ℕ → Type 0
IsAtLine [] starts_line rest = starts_line ≡ false
IsAtLine (part ∷ body) starts_line rest = (starts_line ≡ true) ⊎ (rest ≡ [])

-- before this rest is a section of the key, of which only these comments may stay
pub record IsLost (key : Key) (text rest new : List ℕ) (lost : Lost) (in_line starts_line : Bool) : Type 0 where
  pub before : List Part
  pub head : Part
  pub body : List Part
  pub comments : List Part
  pub behind : IsBehind text rest (before ++ head ∷ body)
  pub clears : ClearsUpTo BeginsWithHeader key before new in_line
  pub is_header : IsHeaderIn key head
  pub no_header : HaveNoHeader body
  pub cut : lost.comments.now ≡ parts_bytes comments ++ rest
  pub ends : EndsInComments body comments
  pub last_end : LastEnd (head ∷ body) lost.line_end.now
  pub at_line : IsAtLine body starts_line rest

abbrev pub Clearing : Key → List ℕ → List ℕ → List ℕ → Bool → Option Lost → Bool → Bool → Type 0
Clearing key text rest new is_found None in_line starts_line =
    IsKept (λ later. ⊤) key text rest new is_found in_line
Clearing key text rest new is_found (Some lost) in_line starts_line =
    IsLost key text rest new lost in_line starts_line × (is_found ≡ true)

-- a piece follows, which is kept if nothing is lost
abbrev pub ClearsPiece : Key → List ℕ → Piece → List ℕ → Bool → Bool → Option Lost → Type 0
ClearsPiece key text piece new is_found in_line None =
    IsKept (λ later. ⊤) key text piece.rest.now (new ++ piece.bytes.now) is_found (not piece.is_line)
ClearsPiece key text piece new is_found in_line (Some lost) =
    IsLost key text piece.rest.now new lost in_line piece.is_line

-- a change that can be written: the new last part is one of a key, and the new value has a spelling
abbrev pub IsWritableName : Option (List ℕ) → Type 0
IsWritableName None = ⊤
IsWritableName (Some name) = is_name name ≡ true

abbrev pub IsWritableValue : Option (List ℕ) → Type 0
IsWritableValue None = ⊤
IsWritableValue (Some value) = is_spellable value ≡ true

abbrev pub IsWritableComment : Option (List ℕ) → Option (List ℕ) → Type 0
IsWritableComment value None = ⊤
IsWritableComment None (Some comment) = ⊥
IsWritableComment (Some value) (Some comment) = list_all is_comment_byte comment ≡ true

abbrev pub IsWritable : Change → Type 0
IsWritable change = IsWritableName (option_copied change.name) × IsWritableValue (option_copied change.value)
    × IsWritableComment (option_copied change.value) (option_copied change.comment)

-- the first of the changes is of another entry
abbrev pub AreLater : List Change → ℕ → Type 0
AreLater [] index = ⊤
AreLater (change ∷ changes) index = change.entry ≢ index

-- the bytes of a piece, and what becomes of them if its entry gets this key and this value, or keeps the old
-- value
pub record IsShaped (name : List ℕ) (value : Option (List ℕ)) (parts : EntryParts) (piece : Piece)
    (put : List ℕ) : Type 0 where
  pub between : List ℕ
  pub bytes : List ℕ
  pub tail : List ℕ
  pub left : parts.rest.now ≡ tail ++ piece.rest.now
  pub bytes_are : piece.bytes.now ≡ part_bytes (entry_part piece parts between tail)
  pub put_is : put ≡ piece.blanks.now ++ ((name ++ (between ++ bytes)) ++ tail)
  pub is_valued : MatchOption value (bytes ≡ value_bytes (value_of parts.value))
      (λ new. ChangesValueTo new between tail (value_of parts.value) bytes)
  pub how : MatchOption value ⊤ (λ new. HasValue (value_of parts.value) new → HasHow parts new)

-- in the place of the piece of an entry, these bytes are an entry of the same key with this value, or with
-- the old one
pub record IsValued (value : Option (List ℕ)) (parts : EntryParts) (piece : Piece) (put : List ℕ) : Type 0 where
  pub raw : Option (List ℕ)
  pub lines : ℕ
  pub at : List ℕ
  pub value_is : MatchOption value (raw ≡ value_of parts.value) (HasValue raw)
  pub entry : IsEntry parts.key.now raw lines at piece.blanks.now put piece.rest.now piece.is_line
  pub shaped : IsShaped parts.key.now value parts piece put

-- in the place of the piece of an entry, these bytes are the entry with this last part of its key and this
-- value, if given
pub record IsNamed (name value : Option (List ℕ)) (parts : EntryParts) (piece : Piece)
    (put : List ℕ) : Type 0 where
  pub raw : Option (List ℕ)
  pub lines : ℕ
  pub at : List ℕ
  pub value_is : MatchOption value (raw ≡ value_of parts.value) (HasValue raw)
  pub entry : IsEntry (name_after name parts.key.now) raw lines at piece.blanks.now put piece.rest.now piece.is_line
  pub shaped : IsShaped (name_after name parts.key.now) value parts piece put

-- In the place of the piece of an entry, which has become this line with this value, these bytes are the line
-- with this
-- comment.
pub record IsCommented (value comment : List ℕ) (parts : EntryParts) (piece : Piece)
    (line put : List ℕ) : Type 0 where
  pub core : List ℕ
  pub blanks : List ℕ
  pub tail : List ℕ
  pub feed : List ℕ
  pub written : List ℕ
  pub end : List ℕ
  pub left : parts.rest.now ≡ tail ++ piece.rest.now
  pub line_is : line ≡ (core ++ blanks) ++ tail
  pub are_blank : AreBlank blanks
  pub ends_core : (more : List ℕ) (b : ℕ) → core ≡ more ++ b ∷ [] → is_blank b ≡ false
  pub feed_is : (IsOpenEntry parts × HasValue (value_of parts.value) value × (feed ≡ line_feed ∷ []))
      ⊎ (¬ (IsOpenEntry parts × HasValue (value_of parts.value) value) × (feed ≡ []))
  pub is_written : WritesComment comment written
  pub is_end : IsEndOfLine piece.bytes.now piece.is_line end
  pub put_is : put ≡ core ++ (feed ++ (written ++ end))

-- in the place of the piece of an entry, these bytes are the entry after the change
pub record IsChangedIn (change : Change) (parts : EntryParts) (piece : Piece) (put : List ℕ) : Type 0 where
  pub raw : Option (List ℕ)
  pub lines : ℕ
  pub at : List ℕ
  pub between : List ℕ
  pub tail : List ℕ
  pub value_is : MatchOption (option_copied change.value) (raw ≡ value_of parts.value) (HasValue raw)
  pub entry : IsEntry (name_after (option_copied change.name) parts.key.now) raw lines at
      piece.blanks.now put piece.rest.now piece.is_line
  pub left : parts.rest.now ≡ tail ++ piece.rest.now
  pub bytes_are : piece.bytes.now ≡ part_bytes (entry_part piece parts between tail)
  pub changes : ChangesEntry change (entry_part piece parts between tail) put

-- what precedes this rest of a text has become this new text: the changes that are not left are made
pub record Changing (changes : List Change) (text rest : List ℕ) (left : List Change) (new : List ℕ)
    (index : ℕ) : Type 0 where
  pub front : List ℕ
  pub done : List Change
  pub old : List Content
  pub now : List Content
  pub section : Option Section
  pub joined : text ≡ front ++ rest
  pub passed : Passed None front old section rest
  pub passed_now : Passed None new now section rest
  pub split : changes ≡ done ++ left
  pub each : ChangesEach done old now
  pub index_is : index ≡ length old
  pub parts : List Part
  pub cuts : IsCut text rest section index parts
  pub becomes : (count : ℕ) → AreInOrder 0 changes count → EachBecomes (ChangesPart changes) parts new
  pub below : (change : Change) → Has done change → change.entry < index
  pub ordered : (count : ℕ) → AreInOrder 0 changes count → AreInOrder index left count
  pub back : (count : ℕ) → index ≤ count → AreInOrder index left count → AreInOrder 0 changes count
  pub writable : AllByRecursion IsWritable left
  pub room : index + length rest ≤ length text

-- the changes are made in the new text
pub record IsEachChanged (changes : List Change) (text : List ℕ) (contents : List Content)
    (new : List ℕ) : Type 0 where
  pub now : List Content
  pub ends : Ends None new now
  pub each : ChangesEach changes contents now
  pub ordered : AreInOrder 0 changes (length contents)
  pub parts : List Part
  pub cuts : Cuts text parts
  pub becomes : EachBecomes (ChangesPart changes) parts new
