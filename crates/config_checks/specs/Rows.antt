-- Rows: which row decides about a key, and how rows are written.
use Rattle.std.specs.Prelude.{◌≡◌, ◌≢◌, ◌⊎◌, ℕ, ◌+◌, ◌<◌, ◌≤ℤ◌, ◌<ℤ◌, ◌==◌, ◌||◌, Bool, true, false, List, []}
use Rattle.std.specs.Prelude.{◌∷◌, ◌++◌}
use Rattle.std.specs.Prelude.{length, take, map, flat_map, codes, Option, None, Some, slice_index_or, All}
use Rattle.std.specs.Prelude.{option_copied}
use Rattle.std.specs.Prelude.{nat_eq, if◌then◌else◌}
use Rattle.std.specs.List.{slice_split, list_all, starts_with, take_while}
use Rattle.gix_config_value.specs.Amount.{AmountText}
use Rattle.config_integer.specs.declared.amount.Amount.{Amount}
use Rattle.config_checks.specs.declared.kind.Form.{Form}
use Rattle.config_checks.specs.declared.kind.Form.TheVariants as forms
use Rattle.config_file.specs.Key.{Key, IsCut, is_no_dot}
use Rattle.config_file.specs.KeyView.{key_of}
use Rattle.config_checks.specs.declared.row.Row.{Row}
use Rattle.config_checks.specs.declared.row.Run.{Run}
use Rattle.config_checks.specs.declared.kind.SettingKind.{SettingKind}
use Rattle.config_checks.specs.declared.kind.SettingKind.TheVariants as kinds
use Rattle.config_checks.specs.declared.shape.Shape.TheVariants as shapes
use Rattle.config_checks.specs.declared.table.RowFault.{RowFault}
use Rattle.config_checks.specs.declared.table.BadRow.{BadRow}
use Rattle.config_checks.specs.declared.table.Marks.{Marks}
use Rattle.config_checks.specs.declared.version.Version.{Version}
use Rattle.config_checks.specs.declared.table.RowFault.TheVariants.{NoKind, NoKey, UnknownKind, NoWords}
use Rattle.config_checks.specs.declared.table.RowFault.TheVariants.{Bounds, NotInOrder}
use Rattle.config_checks.specs.declared.table.RowFault.TheVariants.{Words, NoVersion, Unwanted, Memory}
use Rattle.config_checks.specs.Keys.{Covers}
use Rattle.config_checks.specs.Versions.{IsVersion}
use Rattle.config_checks.specs.Kinds.{takes_true, without_front}
use Rattle.config_checks.specs.Reasons.{least_int, greatest_int, HasReason}

-- the rows of these runs
abbrev pub rows_of : List Run → List Row
rows_of = flat_map (λ run. run.rows.now)

-- no row covers the key
abbrev pub CoversNone : List Row → Key → Type 0
CoversNone rows key = All (λ row. ¬ (Covers (key_of row.key) key)) rows

-- the first row that covers the key
pub record IsFirstCovering (rows : List Row) (key : Key) (row : Row) : Type 0 where
  pub place : ℕ
  pub inside : place < length rows
  pub stands : slice_index_or rows place row ≡ row
  pub covers : Covers (key_of row.key) key
  pub first : CoversNone (take place rows) key

-- the first row that covers the key of this text
pub record Decides (rows : List Row) (t : List ℕ) (row : Row) : Type 0 where
  pub key : Key
  pub cut : IsCut t key
  pub covering : IsFirstCovering rows key row

-- the text has no dot, or no row covers its key
abbrev pub IsUnknown : List Row → List ℕ → Type 0
IsUnknown rows t = (list_all is_no_dot t ≡ true) ⊎ ((key : Key) × IsCut t key × CoversNone rows key)

-- ---- how rows are written

-- a space, a tab or a CR
abbrev pub is_blank : ℕ → Bool
is_blank b = (b == 32) || (b == 9) || (b == 13)

-- a backslash, after which a field may begin with any byte
abbrev pub escape : List ℕ
escape = 0x5C ∷ []

-- the field of a piece, which lacks a backslash at the start of the piece, or no field if the piece is empty
abbrev pub field_if_some : List ℕ → List (List ℕ)
field_if_some [] = []
field_if_some (b ∷ bs) = without_front escape (b ∷ bs) ∷ []

-- the piece does not begin with `#`, which begins a comment
abbrev pub is_no_comment : List ℕ → Bool
is_no_comment piece = if starts_with nat_eq piece (codes "#") then false else true

-- the fields of a line: its pieces between blanks, up to a comment, without empty ones
abbrev pub fields_of : List ℕ → List (List ℕ)
fields_of line = flat_map field_if_some (take_while is_no_comment (slice_split is_blank line))

-- the rest of the first field after this text, if the field begins with it, and the fields after that one
abbrev pub CutsText : List (List ℕ) → List ℕ → Option (List ℕ) → List (List ℕ) → Type 0
CutsText fields front (Some text) rest = fields ≡ (front ++ text) ∷ rest
CutsText fields front None rest =
    (rest ≡ fields) × ((text : List ℕ) (more : List (List ℕ)) → fields ≢ (front ++ text) ∷ more)

-- the version after this text in the first field, if the field begins with the text, and the fields after it
abbrev pub CutsVersion : List (List ℕ) → List ℕ → Option Version → List (List ℕ) → Type 0
CutsVersion fields front (Some version) rest =
    (text : List ℕ) × CutsText fields front (Some text) rest × IsVersion text version
CutsVersion fields front None rest = CutsText fields front None rest

-- the first field begins with this text, and what follows is no version
abbrev pub LacksVersion : List (List ℕ) → List ℕ → Type 0
LacksVersion fields front = (text : List ℕ) × (rest : List (List ℕ)) × CutsText fields front (Some text) rest
    × ((version : Version) → ¬ (IsVersion text version))

-- the mark that says whether a key alone is right
abbrev pub alone_mark : Bool → List ℕ
alone_mark true = codes "alone"
alone_mark false = codes "needs-value"

-- the mark `alone` or `needs-value` if the fields begin with one, and the fields after it
abbrev pub CutsAlone : List (List ℕ) → Option Bool → List (List ℕ) → Type 0
CutsAlone fields (Some alone) rest = fields ≡ alone_mark alone ∷ rest
CutsAlone fields None rest =
    (rest ≡ fields) × ((alone : Bool) (more : List (List ℕ)) → fields ≢ alone_mark alone ∷ more)

-- whether the fields begin with this mark, and the fields after it
abbrev pub CutsMark : List (List ℕ) → List ℕ → Bool → List (List ℕ) → Type 0
CutsMark fields mark true rest = fields ≡ mark ∷ rest
CutsMark fields mark false rest = (rest ≡ fields) × ((more : List (List ℕ)) → fields ≢ mark ∷ more)

-- the marks of a row, in this order, and the fields after them
pub record HasMarks (fields : List (List ℕ)) (marks : Marks) (rest : List (List ℕ)) : Type 0 where
  pub after_since : List (List ℕ)
  pub since : CutsVersion fields (codes "since=") marks.since after_since
  pub after_until : List (List ℕ)
  pub until : CutsVersion after_since (codes "until=") marks.until after_until
  pub after_instead : List (List ℕ)
  pub instead : CutsText after_until (codes "instead=") (option_copied marks.instead) after_instead
  pub after_old : List (List ℕ)
  pub old : CutsText after_instead (codes "old=") (option_copied marks.old) after_old
  pub after_wanted : List (List ℕ)
  pub wanted : CutsText after_old (codes "is=") (option_copied marks.wanted) after_wanted
  pub after_must : List (List ℕ)
  pub must : CutsMark after_wanted (codes "must") marks.must after_must
  pub after_alone : List (List ℕ)
  pub alone : CutsAlone after_must marks.alone after_alone
  pub goes_on : CutsMark after_alone (codes "warn") marks.goes_on rest

-- no version follows `since=`, or `until=` after what may be a version since
abbrev pub HasBadVersion : List (List ℕ) → Type 0
HasBadVersion fields = LacksVersion fields (codes "since=")
    ⊎ ((since : Option Version) × (rest : List (List ℕ)) × CutsVersion fields (codes "since=") since rest
    × LacksVersion rest (codes "until="))

-- the name of a kind that takes neither words nor bounds
abbrev pub plain_name : SettingKind → Option (List ℕ)
plain_name kinds.Text = Some (codes "text")
plain_name kinds.Bool = Some (codes "bool")
plain_name kinds.BoolOrInt = Some (codes "bool-or-int")
plain_name kinds.Color = Some (codes "color")
plain_name kinds.Path = Some (codes "path")
plain_name (kinds.Shaped shapes.FetchRefspec) = Some (codes "fetch-refspec")
plain_name (kinds.Shaped shapes.PushRefspec) = Some (codes "push-refspec")
plain_name (kinds.Shaped shapes.Branch) = Some (codes "branch")
plain_name (kinds.Shaped shapes.Command) = Some (codes "command")
plain_name (kinds.Shaped shapes.NoOption) = Some (codes "no-option")
plain_name (kinds.Shaped shapes.ColorsByAge) = Some (codes "colors-by-age")
plain_name _ = None

abbrev pub form_name : Form → List ℕ
form_name forms.Word = codes "word"
form_name forms.BoolOrWord = codes "bool-or-word"
form_name forms.IntOrWord = codes "int-or-word"
form_name forms.Words = codes "words"
form_name forms.Date = codes "date"
form_name forms.SortKey = codes "sort-key"

-- the name of a kind with words: that of its form, followed by `-any-case` if it ignores ASCII case
abbrev pub words_name : (ignores_case : Bool) → Form → List ℕ
words_name true form = form_name form ++ codes "-any-case"
words_name false form = form_name form

-- the numbers of two integer texts
abbrev pub AreNumbers : List (List ℕ) → (low high : Amount) → Type 0
AreNumbers words low high =
    (l : List ℕ) × (h : List ℕ) × (words ≡ l ∷ h ∷ []) × AmountText l low × AmountText h high

-- the bounds of `int`: the range of 32 bits if there are no words, or two numbers in order
pub data IsBounds (words : List (List ℕ)) (low high : Amount) : Type 0 where
  of_32_bits : words ≡ [] → low ≡ least_int → high ≡ greatest_int → IsBounds words low high
  these : AreNumbers words low high → low.0 ≤ℤ high.0 → IsBounds words low high

-- the kind that has this name, followed by these words
abbrev pub IsKind : List ℕ → List (List ℕ) → SettingKind → Type 0
IsKind name words (kinds.Word list) =
    (words_name list.ignores_case list.form ≡ name) × (words ≢ [])
    × (map (λ word. word.now) list.words.items ≡ words)
IsKind name words (kinds.Int low high) = (name ≡ codes "int") × IsBounds words low high
IsKind name words kind = (plain_name kind ≡ Some name) × (words ≡ [])

-- no kind has this name
pub record IsNoKind (name : List ℕ) : Type 0 where
  pub plain : (kind : SettingKind) → plain_name kind ≢ Some name
  pub number : name ≢ codes "int"
  pub of_words : (ignores_case : Bool) (form : Form) → words_name ignores_case form ≢ name

-- whether a key alone is right: as the mark says or, without a mark, if the kind takes it as true
abbrev pub is_right_alone : Option Bool → SettingKind → Bool
is_right_alone (Some alone) kind = alone
is_right_alone None kind = takes_true kind

-- the fields spell this row: a key, marks if there are any, the name of a kind, and words
pub record SpellsRow (fields : List (List ℕ)) (row : Row) : Type 0 where
  pub key : List ℕ
  pub marked : List (List ℕ)
  pub marks : Marks
  pub name : List ℕ
  pub words : List (List ℕ)
  pub parts : fields ≡ key ∷ marked
  pub has_marks : HasMarks marked marks (name ∷ words)
  pub cut : IsCut key (key_of row.key)
  pub is_kind : IsKind name words row.kind
  pub since : row.since ≡ marks.since
  pub until : row.until ≡ marks.until
  pub instead : row.instead ≡ marks.instead
  pub old : row.old ≡ marks.old
  pub wanted : row.wanted ≡ marks.wanted
  pub must : row.must ≡ marks.must
  pub takes_no_value : row.takes_no_value ≡ is_right_alone marks.alone row.kind
  pub goes_on : row.goes_on ≡ marks.goes_on

-- the kind of the row takes the value that the row wants, if it wants one, whatever users there are
abbrev pub TakesWanted : Row → Type 0
TakesWanted row = (wanted : List ℕ) → option_copied row.wanted ≡ Some wanted → HasReason None row (Some wanted) None

-- the fields are this row
abbrev pub IsRow : List (List ℕ) → Row → Type 0
IsRow fields row = SpellsRow fields row × TakesWanted row

-- why no kind has this name and these words, or that memory ran out
abbrev pub IsBadKind : List ℕ → List (List ℕ) → RowFault → Type 0
IsBadKind name words (UnknownKind shown) = (shown.now ≡ name) × IsNoKind name
IsBadKind name words NoWords =
    (words ≡ []) × (ignores_case : Bool) × (form : Form) × (words_name ignores_case form ≡ name)
IsBadKind name words (Words word) =
    ((rest : List (List ℕ)) × (words ≡ word.now ∷ rest)) × ((kind : SettingKind) × (plain_name kind ≡ Some name))
IsBadKind name words Bounds = (name ≡ codes "int") × (words ≢ [])
    × ((low high : Amount) → ¬ (AreNumbers words low high))
IsBadKind name words NotInOrder =
    (name ≡ codes "int") × (low : Amount) × (high : Amount) × AreNumbers words low high × (high.0 <ℤ low.0)
IsBadKind name words (Memory e) = Unit {0}
IsBadKind name words _ = ⊥

-- Why these fields are neither a row nor those of a blank line, or that memory ran out. The key has no dot, a
-- version is
-- missing, no kind follows, no kind has the name and the words, or the kind takes no value such as the row
-- wants: the
-- first of these.
abbrev pub IsBadRow : List (List ℕ) → RowFault → Type 0
IsBadRow fields (Memory e) = Unit {0}
IsBadRow fields Unwanted = (row : Row) × SpellsRow fields row × ¬ (TakesWanted row)
IsBadRow fields NoKey =
    (key : List ℕ) × (marked : List (List ℕ)) × (fields ≡ key ∷ marked) × (list_all is_no_dot key ≡ true)
IsBadRow fields NoKind = (key : List ℕ) × (marked : List (List ℕ)) × (fields ≡ key ∷ marked)
    × ((k : Key) × IsCut key k) × ((marks : Marks) × HasMarks marked marks [])
IsBadRow fields NoVersion = (key : List ℕ) × (marked : List (List ℕ)) × (fields ≡ key ∷ marked)
    × ((k : Key) × IsCut key k) × HasBadVersion marked
IsBadRow fields fault = (key : List ℕ) × (marked : List (List ℕ)) × (fields ≡ key ∷ marked)
    × ((k : Key) × IsCut key k) × (marks : Marks) × (name : List ℕ) × (words : List (List ℕ))
    × HasMarks marked marks (name ∷ words) × IsBadKind name words fault

-- the lines of a text, which line feeds separate
abbrev pub lines_of : List ℕ → List (List ℕ)
lines_of text = slice_split (λ b. b == 10) text

-- the line adds nothing if it has no fields, since it is blank or a comment, and otherwise its row
abbrev pub AddsRow : List ℕ → List Row → List Row → Type 0
AddsRow line rows rows' =
    ((fields_of line ≡ []) × (rows' ≡ rows))
    ⊎ ((row : Row) × IsRow (fields_of line) row × (rows' ≡ rows ++ row ∷ []))

-- the lines add their rows, in order
abbrev pub AddsRows : List (List ℕ) → List Row → List Row → Type 0
AddsRows [] rows rows' = rows' ≡ rows
AddsRows (line ∷ lines) rows rows'' =
    (rows' : List Row) × AddsRow line rows rows' × AddsRows lines rows' rows''

-- the first bad line has this number, from 1, and this fault, and the rows of the lines before it are added
pub record IsBadLine (text : List ℕ) (rows rows' : List Row) (bad : BadRow) : Type 0 where
  pub before : List (List ℕ)
  pub line : List ℕ
  pub behind : List (List ℕ)
  pub parts : lines_of text ≡ before ++ line ∷ behind
  pub numbered : bad.line ≡ length before + 1
  pub added : AddsRows before rows rows'
  pub fault : IsBadRow (fields_of line) bad.fault
