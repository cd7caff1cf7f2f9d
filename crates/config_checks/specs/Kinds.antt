-- What a row demands of a text by its list of words, and which kinds take a key alone.
--
-- Look for (here and in Rows, Reasons, Report): what a row's kind takes, the first row that covers a key,
-- and why a value is wrong: one reason, whose code, severity and suggestions `Report` gives. Rows
-- themselves are data: docs/CHECKING.md says where they are from.
use Rattle.std.specs.Prelude.{◌≡◌, ◌⊎◌, ℕ, ◌<◌, ◌==◌, ◌||◌, nat_eq, IsTrue, List, [], ◌∷◌, ◌++◌, codes}
use Rattle.std.specs.Prelude.{length, take, drop, slice_index_or, Bool, true, false, if◌then◌else◌, All}
use Rattle.std.specs.List.{slice_split, starts_with, Any}
use Rattle.std.specs.Char.{is_ascii_digit, is_ascii_alphabetic}
use denote.Ref.{Bor}
use Rattle.config_text.specs.SameWord.{SameWord}
use Rattle.config_checks.specs.declared.kind.Form.{Form}
use Rattle.config_checks.specs.declared.kind.Form.TheVariants as forms
use Rattle.config_checks.specs.declared.kind.WordList.{WordList}
use Rattle.config_checks.specs.declared.kind.SettingKind.{SettingKind}
use Rattle.config_checks.specs.declared.kind.SettingKind.TheVariants as kinds

-- ---- one word

-- the word and the text are the same, ignoring ASCII case if `ignores_case` is true
abbrev pub IsSame : (ignores_case : Bool) → List ℕ → List ℕ → Type 0
IsSame true word t = SameWord word t
IsSame false word t = word ≡ t

-- the word is this text, followed by a `*`
abbrev pub IsPattern : List ℕ → List ℕ → Type 0
IsPattern word front = word ≡ front ++ codes "*"

-- the word matches the text: the text begins with what precedes the word's final `*`, or there is no
-- final `*` and the two are the same
pub data IsWord (list : WordList) (t word : List ℕ) : Type 0 where
  begins : (front : List ℕ) → IsPattern word front → IsSame list.ignores_case front (take (length front) t)
      → IsWord list t word
  itself : ((front : List ℕ) → ¬ (IsPattern word front)) → IsSame list.ignores_case word t → IsWord list t word

-- none of these words matches the text
abbrev pub IsNoWord : WordList → List ℕ → List (Bor (List ℕ)) → Type 0
IsNoWord list t words = All (λ word. ¬ (IsWord list t word.now)) words

-- the first word of the list that matches the text
pub record IsFirstWord (list : WordList) (t : List ℕ) (word : Bor (List ℕ)) : Type 0 where
  pub place : ℕ
  pub inside : place < length list.words.items
  pub stands : slice_index_or list.words.items place word ≡ word
  pub is_word : IsWord list t word.now
  pub first : IsNoWord list t (take place list.words.items)

-- a word of the list matches the text
abbrev pub HasWord : WordList → List ℕ → Type 0
HasWord list t = (word : Bor (List ℕ)) × IsFirstWord list t word

-- ---- a list of words

-- a comma, a space, a tab, an LF or a CR
abbrev pub is_separator : ℕ → Bool
is_separator b = (b == 44) || (b == 32) || (b == 9) || (b == 10) || (b == 13)

-- the piece is empty, or a word of the list matches it
abbrev pub IsPiece : WordList → List ℕ → Type 0
IsPiece list piece = (piece ≡ []) ⊎ HasWord list piece

-- the text is a list: each piece between separators is empty, or a word of the list matches it
abbrev pub AreWords : WordList → List ℕ → Type 0
AreWords list t = All (IsPiece list) (slice_split is_separator t)

-- ---- a date

abbrev pub HasDigit : List ℕ → Type 0
HasDigit t = Any (λ b. IsTrue (is_ascii_digit b)) t

abbrev pub is_no_letter : ℕ → Bool
is_no_letter b = if is_ascii_alphabetic b then false else true

-- the text has a digit, or a word of the list matches a piece between bytes that are not letters
abbrev pub HasDate : WordList → List ℕ → Type 0
HasDate list t = HasDigit t ⊎ Any (HasWord list) (slice_split is_no_letter t)

-- ---- a key to sort by

-- the text without this prefix, or the whole text if it does not begin with the prefix
abbrev pub without_front : List ℕ → List ℕ → List ℕ
without_front front t = if starts_with nat_eq t front then drop (length front) t else t

-- the text without the prefixes `-`, `version:`, `v:` and `*`, in this order, if it has them
abbrev pub sort_name : List ℕ → List ℕ
sort_name t =
    without_front (codes "*") (without_front (codes "v:")
    (without_front (codes "version:") (without_front (codes "-") t)))

-- the rest after a name is empty, or begins with a colon
abbrev pub EndsName : List ℕ → Type 0
EndsName rest = (rest ≡ []) ⊎ ((more : List ℕ) × (rest ≡ 58 ∷ more))

-- the text is this name, or begins with this name and a colon
abbrev pub BeginsWithName : List ℕ → List ℕ → Type 0
BeginsWithName t name = (rest : List ℕ) × (t ≡ name ++ rest) × EndsName rest

abbrev pub IsSortKey : WordList → List ℕ → Type 0
IsSortKey list t = Any (λ name. BeginsWithName (sort_name t) name.now) list.words.items

-- ---- no value

abbrev pub takes_booleans : Form → Bool
takes_booleans forms.BoolOrWord = true
takes_booleans _ = false

-- whether the kind takes booleans, and therefore a key alone, which Git reads as true
abbrev pub takes_true : SettingKind → Bool
takes_true kinds.Bool = true
takes_true kinds.BoolOrInt = true
takes_true (kinds.Word list) = takes_booleans list.form
takes_true _ = false
