-- Edits of a text: what changes in its entries, and what in its bytes.
--
-- Look for (here and in Reached): each edit has two halves: what becomes of the entries, in their order,
-- and of each part of the text. `PutsValue`: blanks around a value stay, and a space is put where a first
-- value would touch an `=` behind blanks or a comment. `CanFollow`: a new entry stands behind the last
-- header or entry of its section, or the rest of the line of that header. `EndsParts`: two line ends come
-- behind a backslash that ends the text. `IsFeedAt`: the line end is the last one before the place,
-- otherwise the last of the text, otherwise LF.
use Rattle.std.specs.Prelude.{◌≡◌, ◌≢◌, ℕ, Bool, true, false, List, [], ◌∷◌, ◌++◌, Option, Some, None, map}
use Rattle.std.specs.Prelude.{◌⊎◌, ⊤, ◌+◌, ◌≤◌, ◌<◌, length, option_copied, MatchOption}
use Rattle.std.specs.Char.{to_ascii_lowercase}
use Rattle.std.specs.List.{list_all, AllByRecursion, AllZip}
use Rattle.config_edit.specs.declared.Change.{Change}
use Rattle.config_edit.specs.declared.EditError.{EditError}
use Rattle.config_edit.specs.declared.EditError.TheVariants as error
use Rattle.config_file.specs.Bytes.{tab, line_feed, carriage_return, dot, space, equals_sign, left_bracket}
use Rattle.config_file.specs.Bytes.{is_blank, is_space, is_comment_sign, is_comment_byte, hash}
use Rattle.config_file.specs.Header.{Section, Header}
use Rattle.config_file.specs.Value.{Ending, SpellsValue, outside, at_backslash}
use Rattle.config_file.specs.Spelling.{IsGitHeader, IsGitSpelling, HasNoHeader, LacksSpelling}
use Rattle.config_file.specs.File.{Entry, TakesEntry, Begins, IsFile}
use Rattle.config_edit.specs.Cut as cut
use Rattle.config_edit.specs.Cut.{AreBlank, IsTail, value_bytes, Part, HasParts, BecomesParts, part_bytes}
use Rattle.config_edit.specs.Cut.{parts_bytes}
use Rattle.config_edit.specs.Cut.{section_after, ends_line, ends_in_header, entries_in}
use Rattle.config_file.specs.Bytes.{BeginsWithLetter}
use Rattle.config_file.specs.Listing.{IsListedSection}
use Rattle.config_file.specs.declared.key.KeyError.{KeyError}
use Rattle.config_file.specs.declared.key.KeyError.TheVariants as key_error
use Rattle.config_file.specs.Key.{Key, IsKey, RefusesKey, stem, is_name}

-- an entry without its line: its section, its key and the bytes of its value
abbrev pub Content : Type 0
Content = Option Section × List ℕ × Option (List ℕ)

abbrev pub content : Entry → Content
content of = (of.section, of.key, of.value)

-- the text is a configuration file, whose entries, in order, are these but for their lines
abbrev pub HasContents : List ℕ → List Content → Type 0
HasContents text contents =
    (entries : List Entry) × IsFile text entries None × (map content entries ≡ contents)

-- the section is that of the key: Git lists it as the stem of the key and a dot
abbrev pub IsIn : Key → Option Section → Type 0
IsIn key None = ⊥
IsIn key (Some section) = IsListedSection section (stem key ++ dot ∷ [])

-- these bytes are the header of the section of the key that is written
abbrev pub IsWrittenHeader : Key → List ℕ → Type 0
IsWrittenHeader key bytes = IsGitHeader bytes key.section key.subsection

-- the content is that of an entry of the key
abbrev pub IsOf : Key → Content → Type 0
IsOf key x = IsIn key x.0 × (map to_ascii_lowercase x.1 ≡ map to_ascii_lowercase key.name)

-- one of these places is this one, and those before it are smaller
abbrev pub IsAmong : List ℕ → ℕ → Type 0
IsAmong [] place = ⊥
IsAmong (first ∷ later) place = (place ≡ first) ⊎ ((first < place) × IsAmong later place)

-- the place is one of these, or any if none are given
abbrev pub IsPlaceOf : Option (List ℕ) → ℕ → Type 0
IsPlaceOf None place = ⊤
IsPlaceOf (Some places) place = IsAmong places place

-- the contents without those of the key at these places, from 0, or without all of the key
pub data Without (key : Key) (places : Option (List ℕ)) : List Content → List Content → Type 0 where
  none : Without key places [] []
  lost : (x : Content) {old new : List Content}
      → Without key places old new → IsOf key x → IsPlaceOf places (length old)
      → Without key places (old ++ x ∷ []) new
  kept : (x : Content) {old new : List Content}
      → Without key places old new → ¬ (IsOf key x × IsPlaceOf places (length old))
      → Without key places (old ++ x ∷ []) (new ++ x ∷ [])

-- none of the contents at these places is of the key
abbrev pub HasNoneAt : Option (List ℕ) → Key → List Content → Type 0
HasNoneAt places key contents = Without key places contents contents

-- none of the contents is of the key
abbrev pub HasNone : Key → List Content → Type 0
HasNone key contents = HasNoneAt None key contents

-- at least two of the contents are of the key
abbrev pub HasSeveral : Key → List Content → Type 0
HasSeveral key contents = (before between after : List Content) × (x y : Content)
    × (contents ≡ before ++ x ∷ (between ++ y ∷ after)) × IsOf key x × IsOf key y

-- one of the contents is of the key
abbrev pub HasOne : Key → List Content → Type 0
HasOne key contents = (before after : List Content) × (x : Content)
    × (contents ≡ before ++ x ∷ after) × IsOf key x × HasNone key before × HasNone key after

-- one of the contents is of the key, and now it is gone
pub record LosesOne (key : Key) (old new : List Content) : Type 0 where
  pub before : List Content
  pub x : Content
  pub after : List Content
  pub old_is : old ≡ before ++ x ∷ after
  pub is_of : IsOf key x
  pub none_before : HasNone key before
  pub none_after : HasNone key after
  pub new_is : new ≡ before ++ after

-- the value is this one
abbrev pub HasValue : Option (List ℕ) → List ℕ → Type 0
HasValue None value = ⊥
HasValue (Some raw) value = (ending : Ending) × SpellsValue raw value ending

-- the last entry of the key has this value now, and the others of the key are gone
pub record Replaces (key : Key) (value : List ℕ) (old new : List Content) : Type 0 where
  pub before : List Content
  pub left : List Content
  pub after : List Content
  pub x : Content
  pub raw : List ℕ
  pub old_is : old ≡ before ++ x ∷ after
  pub is_of : IsOf key x
  pub last : HasNone key after
  pub others : Without key None before left
  pub has_value : HasValue (Some raw) value
  pub new_is : new ≡ left ++ (x.0, x.1, Some raw) ∷ after

-- a space where this holds, and otherwise nothing
pub data SpaceIf (Wanted : Type 0) : List ℕ → Type 0 where
  wanted : Wanted → SpaceIf Wanted (space ∷ [])
  unwanted : ¬ Wanted → SpaceIf Wanted []

-- there are bytes, of which neither the first nor the last is a blank
abbrev pub IsCore : List ℕ → Type 0
IsCore bytes = (bytes ≢ []) × ((b : ℕ) (more : List ℕ) → bytes ≡ b ∷ more → is_blank b ≡ false)
    × ((more : List ℕ) (b : ℕ) → bytes ≡ more ++ b ∷ [] → is_blank b ≡ false)

-- The blanks before a first value and those behind it: one comes before it, if there is one. A CR alone comes
-- behind it, since
-- it belongs to the line end.
pub data PartsBlanks : List ℕ → List ℕ → Type 0 where
  none : PartsBlanks [] []
  return : PartsBlanks [] (carriage_return ∷ [])
  first : {b : ℕ} {trail : List ℕ} → ¬ ((b ≡ carriage_return) × (trail ≡ [])) → PartsBlanks (b ∷ []) trail

-- the bytes begin with a comment sign
abbrev pub BeginsWithSign : List ℕ → Type 0
BeginsWithSign bytes = (sign : ℕ) × (more : List ℕ) × (bytes ≡ sign ∷ more) × (is_comment_sign sign ≡ true)

-- The bytes of a value, between these bytes behind the key and what is left of the line, become those of
-- another one: blanks
-- around it stay. If the old one has only blanks, all of them stay: a space is put before the value if it
-- would touch an `=`
-- behind blanks, and one behind it if it would touch a comment. Behind a key alone comes ` = value`, or `=
-- value` if blanks are there.
pub data PutsValue (value between tail : List ℕ) : Option (List ℕ) → List ℕ → Type 0 where
  in_place : {core spelling : List ℕ} (lead trail : List ℕ)
      → AreBlank lead → IsCore core → AreBlank trail → IsGitSpelling spelling value
      → PutsValue value between tail (Some (lead ++ (core ++ trail))) (lead ++ (spelling ++ trail))
  in_blanks : {gap spelling later : List ℕ} (lead trail : List ℕ)
      → AreBlank (lead ++ trail) → PartsBlanks lead trail
      → SpaceIf ((lead ≡ []) × (between ≢ equals_sign ∷ [])) gap → IsGitSpelling spelling value
      → SpaceIf ((trail ≡ []) × BeginsWithSign tail) later
      → PutsValue value between tail (Some (lead ++ trail)) (lead ++ ((gap ++ (spelling ++ later)) ++ trail))
  behind_key : {gap spelling : List ℕ}
      → SpaceIf (between ≡ []) gap → IsGitSpelling spelling value
      → PutsValue value between tail None (gap ++ equals_sign ∷ space ∷ spelling)

-- the bytes of a value become those of this one, or stay if they spell it
abbrev pub ChangesValueTo : List ℕ → List ℕ → List ℕ → Option (List ℕ) → List ℕ → Type 0
ChangesValueTo value between tail was bytes =
    (HasValue was value × (bytes ≡ value_bytes was))
    ⊎ (¬ (HasValue was value) × PutsValue value between tail was bytes)

-- an entry gets this value, and its other bytes stay
abbrev pub GivesValue : List ℕ → Part → List ℕ → Type 0
GivesValue value (cut.entry blanks key between was tail is_line) put =
    (bytes : List ℕ) × ChangesValueTo value between tail was bytes
    × (put ≡ blanks ++ ((key ++ (between ++ bytes)) ++ tail))
GivesValue value _ put = ⊥

-- behind these parts, the part is an entry of the key
abbrev pub IsEntryOf : Key → List Part → Part → Type 0
IsEntryOf key before (cut.entry blanks name between value tail is_line) =
    IsOf key (section_after before, name, value)
IsEntryOf key before _ = ⊥

-- the line end of these bytes: CR LF if they have it, and nothing if none ends their line
pub data IsEndOfLine : List ℕ → Bool → List ℕ → Type 0 where
  unended : {bytes : List ℕ} → IsEndOfLine bytes false []
  feed : {bytes : List ℕ} → ((front : List ℕ) → bytes ≢ front ++ carriage_return ∷ line_feed ∷ [])
      → IsEndOfLine bytes true (line_feed ∷ [])
  return_feed : (front : List ℕ)
      → IsEndOfLine (front ++ carriage_return ∷ line_feed ∷ []) true (carriage_return ∷ line_feed ∷ [])

-- the last line end of a text, if it has one
abbrev pub IsLastLineEnd : List ℕ → Option (List ℕ) → Type 0
IsLastLineEnd text None = list_all is_comment_byte text ≡ true
IsLastLineEnd text (Some end) = (front back : List ℕ) × (text ≡ front ++ line_feed ∷ back)
    × (list_all is_comment_byte back ≡ true) × IsEndOfLine (front ++ line_feed ∷ []) true end

-- of these bytes, which a line end ends or not, the line end stays, or nothing
abbrev pub LeavesEnd : Bool → List ℕ → Bool → List ℕ → Type 0
LeavesEnd true bytes is_line put = IsEndOfLine bytes is_line put
LeavesEnd false bytes is_line put = put ≡ []

-- Of the entries of the key, the one behind this many entries gets the value. Those before it go with their
-- lines, but for the
-- line end if a header is on the line. Every other part stays.
pub data ReplacesPart (key : Key) (value : List ℕ) (last : ℕ) (before : List Part) (part : Part) : List ℕ
    → Type 0 where
  goes : {put : List ℕ}
      → IsEntryOf key before part → entries_in before < last
      → LeavesEnd (ends_in_header before) (part_bytes part) (ends_line part) put
      → ReplacesPart key value last before part put
  gets : {put : List ℕ}
      → IsEntryOf key before part → entries_in before ≡ last → GivesValue value part put
      → ReplacesPart key value last before part put
  stays : ¬ (IsEntryOf key before part) → ReplacesPart key value last before part (part_bytes part)

-- the values have the same bytes, or spell the same text
abbrev pub SameValue : Option (List ℕ) → Option (List ℕ) → Type 0
SameValue was now = (was ≡ now) ⊎ ((text : List ℕ) × HasValue was text × HasValue now text)

-- the entries have the same section, the same key, and values of the same text
abbrev pub SameEntry : Content → Content → Type 0
SameEntry was now = (was.0 ≡ now.0) × (was.1 ≡ now.1) × SameValue was.2 now.2

-- the contents without those in the section of the key
pub data WithoutIn (key : Key) : List Content → List Content → Type 0 where
  none : WithoutIn key [] []
  lost : (x : Content) {old new : List Content}
      → WithoutIn key old new → IsIn key x.0
      → WithoutIn key (old ++ x ∷ []) new
  kept : (x : Content) {old new : List Content}
      → WithoutIn key old new → ¬ (IsIn key x.0)
      → WithoutIn key (old ++ x ∷ []) (new ++ x ∷ [])

-- none of the contents is in the section of the key
abbrev pub NoneIn : Key → List Content → Type 0
NoneIn key contents = WithoutIn key contents contents

-- The contents have one more, of the key and with this value, behind all others in its section. A value
-- before it may be
-- written with more bytes now, if a backslash ended the text.
pub record AddsContent (key : Key) (value : List ℕ) (old new : List Content) : Type 0 where
  pub before : List Content
  pub kept : List Content
  pub after : List Content
  pub section : Section
  pub raw : List ℕ
  pub old_is : old ≡ before ++ after
  pub same : AllZip SameEntry before kept
  pub in_section : IsIn key (Some section)
  pub has_value : HasValue (Some raw) value
  pub new_is : new ≡ kept ++ (Some section, key.name, Some raw) ∷ after
  pub last : NoneIn key after

-- a TAB, the key, ` = `, this spelling of its value, and a line end
abbrev pub entry_line : List ℕ → List ℕ → List ℕ → List ℕ
entry_line name spelling end = tab ∷ (name ++ (space ∷ equals_sign ∷ space ∷ (spelling ++ end)))

-- whether a part is a header or an entry
abbrev pub is_item : Part → Bool
is_item (cut.line tail is_line) = false
is_item part = true

-- Behind these parts a new entry of the key can stand: in its section, they end in a header or an entry, or
-- in what is left of
-- the line of a header.
abbrev pub CanFollow : Key → List Part → Type 0
CanFollow key parts = (before : List Part) × (last : Part) × (parts ≡ before ++ last ∷ [])
    × IsIn key (section_after parts)
    × ((is_item last ≡ true) ⊎ (ends_in_header before ≡ true))

-- the last place of these parts where a new entry of the key can stand, or their end and a new header if it
-- can nowhere
pub data IsPlace (key : Key) (header feed : List ℕ) : List Part → List Part → List ℕ → Type 0 where
  inside : {front back : List Part}
      → CanFollow key front → ((more left : List Part) → back ≡ more ++ left → CanFollow key (front ++ more)
      → more ≡ [])
      → IsPlace key header feed front back []
  at_end : {parts : List Part}
      → ((front back : List Part) → parts ≡ front ++ back → ¬ (CanFollow key front))
      → IsWrittenHeader key header
      → IsPlace key header feed parts [] (header ++ feed)

-- a backslash ends the text of an entry
abbrev pub IsOpen : Part → Type 0
IsOpen (cut.entry blanks key between (Some raw) tail is_line) =
    (value : List ℕ) × SpellsValue raw value at_backslash
IsOpen _ = ⊥

-- What ends the last line of these parts: nothing if it is ended, a line end, or two behind a backslash,
-- which would go on over
-- the first one.
pub data EndsParts (feed : List ℕ) : List Part → List ℕ → Type 0 where
  empty : EndsParts feed [] []
  ended : (before : List Part) (last : Part)
      → ends_line last ≡ true → EndsParts feed (before ++ last ∷ []) []
  unended : (before : List Part) (last : Part)
      → ends_line last ≡ false → ¬ (IsOpen last) → EndsParts feed (before ++ last ∷ []) feed
  open_entry : (before : List Part) (last : Part)
      → ends_line last ≡ false → IsOpen last → EndsParts feed (before ++ last ∷ []) (feed ++ feed)

-- the line end behind this front of a text: its last one, otherwise that of the text, otherwise LF
pub data IsFeedAt (front text : List ℕ) : List ℕ → Type 0 where
  of_front : {feed : List ℕ} → IsLastLineEnd front (Some feed) → IsFeedAt front text feed
  of_text : {feed : List ℕ} → IsLastLineEnd front None → IsLastLineEnd text (Some feed)
      → IsFeedAt front text feed
  of_none : IsLastLineEnd text None → IsFeedAt front text (line_feed ∷ [])

-- The new text is the old one with one line more, which has the key and the value, and stands where a new
-- entry does.
pub record PutsLine (key : Key) (value old new : List ℕ) : Type 0 where
  pub mark : List ℕ
  pub front : List Part
  pub back : List Part
  pub feed : List ℕ
  pub ends : List ℕ
  pub header : List ℕ
  pub headed : List ℕ
  pub spelling : List ℕ
  pub has_parts : HasParts old mark (front ++ back)
  pub is_feed : IsFeedAt (parts_bytes front) (parts_bytes (front ++ back)) feed
  pub are_ends : EndsParts feed front ends
  pub is_place : IsPlace key header feed front back headed
  pub spells : IsGitSpelling spelling value
  pub new_is : new ≡ mark ++ (parts_bytes front
      ++ (ends ++ (headed ++ (entry_line key.name spelling feed ++ parts_bytes back))))

-- a reason to refuse that an edit does not have
abbrev pub Never : Key → List Content → Type 0
Never key contents = ⊥

-- the name is this key, a header can have its section, and if there is a value, it has a spelling
abbrev pub CanBeWritten : List ℕ → Option (List ℕ) → Key → Type 0
CanBeWritten name value key = IsKey name key × ¬ (HasNoHeader key.section key.subsection)
    × ¬ (LacksSpelling value)

-- Why an edit is refused, in this order: by the key, by the value, if there is one, by the text, or by what
-- the text has
-- of the key. Each reason says that those before it do not hold. Memory may be refused at any time.
abbrev pub RefusesEdit : (Key → List Content → Type 0) → (Key → List Content → Type 0)
    → List ℕ → Option (List ℕ) → List ℕ → EditError → Type 0
RefusesEdit Several Absent name value text (error.Memory e) = ⊤
RefusesEdit Several Absent name value text (error.Key e) = RefusesKey name e
RefusesEdit Several Absent name value text error.Section =
    (key : Key) × IsKey name key × HasNoHeader key.section key.subsection
RefusesEdit Several Absent name value text error.Value =
    (key : Key) × IsKey name key × ¬ (HasNoHeader key.section key.subsection) × LacksSpelling value
RefusesEdit Several Absent name value text error.Comment = ⊥
RefusesEdit Several Absent name value text (error.File e) =
    (key : Key) × (CanBeWritten name value key) × (entries : List Entry) × IsFile text entries (Some e)
RefusesEdit Several Absent name value text error.Several =
    (key : Key) × (CanBeWritten name value key) × (contents : List Content) × HasContents text contents
    × Several key contents
RefusesEdit Several Absent name value text error.Absent =
    (key : Key) × (CanBeWritten name value key) × (contents : List Content) × HasContents text contents
    × Absent key contents

-- memory was refused, which may be at any time
abbrev pub IsMemory : EditError → Type 0
IsMemory (error.Memory e) = ⊤
IsMemory _ = ⊥

-- but for want of memory, one of these reasons holds
abbrev pub HasOneReason : (EditError → Type 0) → Type 0
HasOneReason Refuses = (e f : EditError) → Refuses e → Refuses f → IsMemory e ⊎ IsMemory f ⊎ (e ≡ f)

-- the new text has one entry more
abbrev pub AddsKey : Key → List ℕ → List ℕ → List Content → List ℕ → Type 0
AddsKey key value old contents new = (now : List Content) × HasContents new now
    × AddsContent key value contents now × PutsLine key value old new

-- the key had entries, of which the last one has the value now, and the others are gone
abbrev pub ReplacesKey : Key → List ℕ → List ℕ → List Content → List ℕ → Type 0
ReplacesKey key value old contents new = (now : List Content) × HasContents new now
    × (r : Replaces key value contents now) × BecomesParts (ReplacesPart key value (length r.before)) old new

-- the key had one entry, which has the value now
abbrev pub ChangesKey : Key → List ℕ → List ℕ → List Content → List ℕ → Type 0
ChangesKey key value old contents new = HasOne key contents × ReplacesKey key value old contents new

-- what an edit makes of a key and a text that is a file
abbrev pub Edits : (Key → List Content → List ℕ → Type 0) → List ℕ → List ℕ → List ℕ → Type 0
Edits Makes name old new =
    (key : Key) × IsKey name key × (contents : List Content) × HasContents old contents
    × Makes key contents new

-- what `set` makes: one entry has the value now, or is new
abbrev pub Sets : List ℕ → List ℕ → List ℕ → List ℕ → Type 0
Sets name value old new = Edits (λ key contents new. ChangesKey key value old contents new
    ⊎ (HasNone key contents × AddsKey key value old contents new)) name old new

-- what `replace_all` makes: of several entries, one with the value is left
abbrev pub ReplacesAll : List ℕ → List ℕ → List ℕ → List ℕ → Type 0
ReplacesAll name value old new = Edits (λ key contents new. ReplacesKey key value old contents new
    ⊎ (HasNone key contents × AddsKey key value old contents new)) name old new

-- what `add` makes: one entry more
abbrev pub AddsOne : List ℕ → List ℕ → List ℕ → List ℕ → Type 0
AddsOne name value old new = Edits (λ key contents new. AddsKey key value old contents new) name old new

-- the last entry of the key in this file has the value
abbrev pub Decides : List ℕ → List ℕ → List ℕ → Type 0
Decides name value text =
    (key : Key) × IsKey name key × (before : List Content) × (x : Content) × (after : List Content)
    × HasContents text (before ++ x ∷ after) × IsOf key x × HasValue x.2 value × HasNone key after

-- the change is one of these
abbrev pub Has : List Change → Change → Type 0
Has changes change = (before after : List Change) × (changes ≡ before ++ change ∷ after)

-- the change is of the entry behind this many, and gives it this last part of its key, this value and this
-- comment, if any
abbrev pub IsChange : Change → ℕ → Option (List ℕ) → Option (List ℕ) → Option (List ℕ) → Type 0
IsChange change entry name value comment = (change.entry ≡ entry) × (option_copied change.name ≡ name)
    × (option_copied change.value ≡ value) × (option_copied change.comment ≡ comment)

-- an entry before and after a change: it has the last part of the key and the value of the change, where that
-- has them
abbrev pub IsChanged : Change → Content → Content → Type 0
IsChanged change x y = (y.0 ≡ x.0) × MatchOption (option_copied change.name) (y.1 ≡ x.1) (λ name. y.1 ≡ name)
    × MatchOption (option_copied change.value) (y.2 ≡ x.2) (HasValue y.2)

-- the entry that each of the changes names is changed now, and the others are as they were
pub data ChangesEach : List Change → List Content → List Content → Type 0 where
  none : ChangesEach [] [] []
  kept : (x : Content) {changes : List Change} {old new : List Content}
      → ChangesEach changes old new → ChangesEach changes (old ++ x ∷ []) (new ++ x ∷ [])
  changed : (change : Change) (x y : Content) {changes : List Change} {old new : List Content}
      → ChangesEach changes old new → change.entry ≡ length old → IsChanged change x y
      → ChangesEach (changes ++ change ∷ []) (old ++ x ∷ []) (new ++ y ∷ [])

-- of this many entries, the changes name some from this one on, each behind the one before
abbrev pub AreInOrder : ℕ → List Change → ℕ → Type 0
AreInOrder from [] count = ⊤
AreInOrder from (change ∷ changes) count =
    (from ≤ change.entry) × (change.entry < count) × AreInOrder (change.entry + 1) changes count

-- the last part of a key after a change
abbrev pub name_after : Option (List ℕ) → List ℕ → List ℕ
name_after None key = key
name_after (Some name) key = name

-- What Git writes for a comment: if spaces and TABs and `#` begin it, it stays as it is; a space comes before
-- a `#` that
-- begins it; and ` # ` comes before any other.
pub data WritesComment : List ℕ → List ℕ → Type 0 where
  spaced : (b : ℕ) (blanks more : List ℕ) → list_all is_space (b ∷ blanks) ≡ true
      → WritesComment ((b ∷ blanks) ++ hash ∷ more) ((b ∷ blanks) ++ hash ∷ more)
  signed : {more : List ℕ} → WritesComment (hash ∷ more) (space ∷ hash ∷ more)
  plain : {comment : List ℕ}
      → ((blanks more : List ℕ) → list_all is_space blanks ≡ true → comment ≢ blanks ++ hash ∷ more)
      → WritesComment comment (space ∷ hash ∷ space ∷ comment)

-- what has to come between these bytes, which a value has now, and a comment: a line end if a backslash ends
-- the text
pub data FeedsComment : Option (List ℕ) → List ℕ → List ℕ → Type 0 where
  closed : {raw bytes value : List ℕ} → SpellsValue bytes value outside → FeedsComment (Some raw) bytes []
  open_value : {raw value : List ℕ} → SpellsValue raw value at_backslash
      → FeedsComment (Some raw) raw (line_feed ∷ [])
  behind_key : {bytes : List ℕ} → FeedsComment None bytes []

-- The bytes that a value has now and what is left of its line become the value without the blanks behind it,
-- the comment as Git
-- writes it, and the line end of the part.
pub record PutsComment (comment : List ℕ) (part : Part) (was : Option (List ℕ))
    (bytes after : List ℕ) : Type 0 where
  pub core : List ℕ
  pub blanks : List ℕ
  pub feed : List ℕ
  pub written : List ℕ
  pub end : List ℕ
  pub bytes_are : bytes ≡ core ++ blanks
  pub are_blank : AreBlank blanks
  pub ends_core : (more : List ℕ) (b : ℕ) → core ≡ more ++ b ∷ [] → is_blank b ≡ false
  pub feeds : FeedsComment was bytes feed
  pub is_written : WritesComment comment written
  pub is_end : IsEndOfLine (part_bytes part) (ends_line part) end
  pub after_is : after ≡ core ++ (feed ++ (written ++ end))

-- An entry gets the key and the value of the change: what is between them stays. If the change has a comment,
-- what is left of the
-- line of the entry goes too, and the comment comes in its place.
abbrev pub ChangesEntry : Change → Part → List ℕ → Type 0
ChangesEntry change (cut.entry blanks key between was tail is_line) put = (bytes after : List ℕ)
    × MatchOption (option_copied change.value) (bytes ≡ value_bytes was) (λ value.
    ChangesValueTo value between tail was bytes)
    × MatchOption (option_copied change.comment) (after ≡ bytes ++ tail)
    (λ comment. PutsComment comment (cut.entry blanks key between was tail is_line) was bytes after)
    × (put ≡ blanks ++ (name_after (option_copied change.name) key ++ (between ++ after)))
ChangesEntry change _ put = ⊥

-- the part is an entry, and one of the changes names it
abbrev pub NamesPart : List Change → List Part → Part → Type 0
NamesPart changes before (cut.entry blanks key between value tail is_line) =
    (change : Change) × Has changes change × (change.entry ≡ entries_in before)
NamesPart changes before _ = ⊥

-- an entry that a change names changes as it asks, and every other part stays
pub data ChangesPart (changes : List Change) (before : List Part) (part : Part) : List ℕ → Type 0 where
  changed : {put : List ℕ} (change : Change)
      → Has changes change → change.entry ≡ entries_in before → ChangesEntry change part put
      → ChangesPart changes before part put
  stays : ¬ (NamesPart changes before part) → ChangesPart changes before part (part_bytes part)

-- what `change_entries` makes: the entries that the changes name are changed, and no other bytes
abbrev pub ChangesEntries : List Change → List ℕ → List ℕ → Type 0
ChangesEntries changes old new = (contents : List Content) × HasContents old contents
    × AreInOrder 0 changes (length contents)
    × (now : List Content) × HasContents new now × ChangesEach changes contents now
    × BecomesParts (ChangesPart changes) old new

-- why a text is not the last part of a key: it is empty, or has a wrong byte
abbrev pub RefusesLastPart : Option (List ℕ) → KeyError → Type 0
RefusesLastPart (Some []) key_error.NoName = ⊤
RefusesLastPart (Some (b ∷ more)) key_error.BadByte = is_name (b ∷ more) ≡ false
RefusesLastPart _ _ = ⊥

-- why a comment is refused: it comes without a value, or has a line end
abbrev pub RefusesComment : Option (List ℕ) → Option (List ℕ) → Type 0
RefusesComment value None = ⊥
RefusesComment None (Some comment) = ⊤
RefusesComment (Some value) (Some comment) = list_all is_comment_byte comment ≡ false

-- the name of a change is refused
abbrev pub LacksName : Change → Type 0
LacksName change = (e : KeyError) × RefusesLastPart (option_copied change.name) e

-- why a change is refused: by its name, otherwise by its value, otherwise by its comment
abbrev pub RefusesOneChange : Change → EditError → Type 0
RefusesOneChange change (error.Key e) = RefusesLastPart (option_copied change.name) e
RefusesOneChange change error.Value = ¬ (LacksName change) × LacksSpelling (option_copied change.value)
RefusesOneChange change error.Comment = ¬ (LacksName change) × ¬ (LacksSpelling (option_copied change.value))
    × RefusesComment (option_copied change.value) (option_copied change.comment)
RefusesOneChange change _ = ⊥

-- a change is refused for no reason of its own
abbrev pub CanBeMade : Change → Type 0
CanBeMade change = (e : EditError) → ¬ (RefusesOneChange change e)

-- why changes are refused of which one cannot be written, and none before it
abbrev pub RefusesOneOf : List Change → EditError → Type 0
RefusesOneOf changes e = (before after : List Change) × (change : Change) × (changes ≡ before ++ change ∷ after)
    × AllByRecursion CanBeMade before × RefusesOneChange change e

-- why changes are refused: by one of them, otherwise by the text, otherwise by their order and the entries of
-- the text
abbrev pub RefusesChanges : List Change → List ℕ → EditError → Type 0
RefusesChanges changes text (error.Memory e) = ⊤
RefusesChanges changes text (error.File e) = AllByRecursion CanBeMade changes
    × (entries : List Entry) × IsFile text entries (Some e)
RefusesChanges changes text error.Absent = AllByRecursion CanBeMade changes
    × (contents : List Content) × HasContents text contents × ¬ (AreInOrder 0 changes (length contents))
RefusesChanges changes text e = RefusesOneOf changes e
