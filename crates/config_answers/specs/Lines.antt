-- The line that Git writes for a setting.
--
-- Look for (here and in Answers): a TAB or NUL after the scope and the origin, an LF or NUL at the end;
-- with NUL no quotes around the file. `chosen false` is the last line. `Refused` writes nothing, and tells
-- the first setting that is none of its type.
use Rattle.std.specs.Prelude.{◌≡◌, ℕ, ◌+◌, ◌/◌, ◌%◌, Bool, true, not, ◌&&◌, ◌==◌, nat_le, if◌then◌else◌}
use Rattle.std.specs.Prelude.{List, [], ◌∷◌, ◌++◌, flat_map, codes, Option, Some, None, option_map}
use Rattle.std.specs.List.{list_all}
use Rattle.config_file.specs.Listing.{IsListed}
use Rattle.config_file.specs.Scope.{scope_name}
use Rattle.config_file.specs.Views.{section_of}
use Rattle.config_file.specs.declared.scope.Scope.{Scope}
use Rattle.config_file.specs.declared.scope.Scope.TheVariants as scope
use Rattle.config_file.specs.declared.settings.Setting.{Setting}
use Rattle.config_answers.specs.declared.line.Form.{Form}
use Rattle.config_answers.specs.declared.line.Name as code
use Rattle.config_answers.specs.declared.line.Name.TheVariants as name
use Rattle.config_answers.specs.declared.line.Place.{Place}
use Rattle.config_answers.specs.declared.line.Unfiled.{Unfiled}
use Rattle.config_answers.specs.declared.line.Origin.{Origin}
use Rattle.config_answers.specs.declared.line.Origin.TheVariants.{File, Input, Command}

-- the letter that stands for a byte after a backslash, if there is one: `abtnvfr`, a quote and a backslash
abbrev pub letter_of : ℕ → Option ℕ
letter_of b = if b == 7 then Some 97 else if b == 8 then Some 98 else if b == 9 then Some 116
    else if b == 10 then Some 110 else if b == 11 then Some 118 else if b == 12 then Some 102
    else if b == 13 then Some 114 else if b == 34 then Some 34 else if b == 92 then Some 92 else None

-- whether a byte of the name of a file is written as it is
abbrev pub is_plain : ℕ → Bool
is_plain b = (nat_le 32 b && nat_le b 126) && (not (b == 34) && not (b == 92))

-- what follows a backslash: the letter, or three octal digits
abbrev pub escape : Option ℕ → ℕ → List ℕ
escape (Some letter) b = letter ∷ []
escape None b = (48 + b / 64) ∷ (48 + b / 8 % 8) ∷ (48 + b % 8) ∷ []

-- a byte within quotes
abbrev pub escaped : ℕ → List ℕ
escaped b = if is_plain b then b ∷ [] else 92 ∷ escape (letter_of b) b

-- the name of a file: in quotes if one of its bytes is not written as it is
abbrev pub name_shown : List ℕ → List ℕ
name_shown name = if list_all is_plain name then name else 34 ∷ (flat_map escaped name ++ 34 ∷ [])

-- where a setting is; the name of a file is in quotes only where no NUL ends it
abbrev pub origin_shown : Bool → Origin → List ℕ → List ℕ
origin_shown null File name = codes "file:" ++ (if null then name else name_shown name)
origin_shown null Input name = codes "standard input:"
origin_shown null Command name = codes "command line:"

-- what ends a scope or an origin: a NUL, or a TAB
abbrev pub gap : Form → List ℕ
gap form = (if form.null then 0 else 9) ∷ []

-- what ends a line: a NUL, or an LF
abbrev pub end : Form → List ℕ
end form = (if form.null then 0 else 10) ∷ []

-- what stands between a key and its value, if both are written
abbrev pub between : Form → List ℕ
between form = if form.shows_names then (if form.null then 10 else form.between) ∷ [] else []

-- the value of a line, if there is one and values are written
abbrev pub value_part : Form → Option (List ℕ) → List ℕ
value_part form None = []
value_part form (Some value) = if form.shows_values then between form ++ value else []

-- a line: the scope, the origin and the key, if they are asked for, then the value and the end
abbrev pub line : Form → Place → (key : List ℕ) → Option (List ℕ) → List ℕ
line form place key value =
    (if form.shows_scope then scope_name place.scope ++ gap form else [])
    ++ ((if form.shows_origin then origin_shown form.null place.origin place.file.now ++ gap form else [])
    ++ ((if form.shows_names then key else []) ++ (value_part form value ++ end form)))

-- the key under which a setting is written: the text, or that of the entry as Git lists it
abbrev pub IsName : code.Name → List ℕ → Type 0
IsName (name.Text text) key = key ≡ text.now
IsName (name.Of entry) key = IsListed (option_map section_of entry.now.section) entry.now.key.now key

-- the settings of this scope and of a text of this name are in the text of the other name, if it is one that is read
abbrev pub IsText : Scope → List ℕ → (is_read : Bool) → List ℕ → Type 0
IsText of file is_read name = (of ≡ scope.Command) × (is_read ≡ true) × (file ≡ name)

-- what the settings of this scope and of a text of this name are in: a file, unless it is one of the other two
abbrev pub Lies : Unfiled → Scope → List ℕ → Origin → Type 0
Lies unfiled of file Command = IsText of file unfiled.command (codes "command line")
Lies unfiled of file Input = IsText of file unfiled.input (codes "standard input")
Lies unfiled of file File = ¬ (IsText of file unfiled.command (codes "command line"))
    × ¬ (IsText of file unfiled.input (codes "standard input"))

-- where a setting is
abbrev pub IsPlaceOf : Unfiled → Setting → Place → Type 0
IsPlaceOf unfiled setting place = Lies unfiled setting.scope setting.file.now place.origin
    × (place.scope ≡ setting.scope) × (place.file.now ≡ setting.file.now) × (place.line ≡ setting.entry.line)
