-- Sets of bytes in patterns, after their `[`.
--
-- Look for (here and in Pattern): no item but an escaped or ordinary `/` matches `/`. `crosses`: two stars
-- or more, where a name starts before them and ends after them.
use Rattle.std.specs.Prelude.{◌≡◌, ◌≢◌, ℕ, Bool, true, false, not, if◌then◌else◌, ◌||◌, ◌&&◌, ◌==◌, List, []}
use Rattle.std.specs.Prelude.{◌∷◌, ◌++◌, codes}
use Rattle.std.specs.Char.{to_ascii_lowercase, to_ascii_uppercase, is_ascii_alphanumeric, is_ascii_alphabetic}
use Rattle.std.specs.Char.{is_ascii_digit, is_ascii_control, is_ascii_graphic, is_ascii_punctuation}
use Rattle.std.specs.Char.{is_ascii_hexdigit, is_ascii_lowercase, is_ascii_uppercase}
use Rattle.std.specs.Int.{is_in_range}
use Rattle.config_file.specs.Bytes.{space, line_feed, dash, right_bracket, backslash, is_blank, is_space}
use Rattle.config_file.specs.Runs.{Run}

abbrev pub slash : ℕ
slash = 47

-- a byte as it is compared: in lower case if case is ignored
abbrev pub folded : Bool → ℕ → ℕ
folded ignores_case b = if ignores_case then to_ascii_lowercase b else b

-- `!` or `^`
abbrev pub is_negation : ℕ → Bool
is_negation c = c == 33 || c == 94

-- whether the set is negated, and the text from its first member on
abbrev pub opened : List ℕ → Bool × List ℕ
opened [] = (false, [])
opened (c ∷ rest) = if is_negation c then (true, rest) else (false, c ∷ rest)

-- A byte of a set: itself, or any byte after a backslash. A `]` is a byte of the set only if it is the first
-- one.
pub data SetByte (starts : Bool) : List ℕ → ℕ → List ℕ → Type 0 where
  bare : {c : ℕ} {rest : List ℕ} → c ≢ backslash → (c ≡ right_bracket → starts ≡ true)
      → SetByte starts (c ∷ rest) c rest
  after_backslash : {c e : ℕ} {rest : List ℕ} → c ≡ backslash → SetByte starts (c ∷ e ∷ rest) e rest

-- after its first byte, a range has `-` and its last byte, and then this rest
pub data RangeEnd : List ℕ → ℕ → List ℕ → Type 0 where
  to : {c last : ℕ} {text rest : List ℕ} → c ≡ dash → SetByte false text last rest
      → RangeEnd (c ∷ text) last rest

-- whether a range has the byte, in either case if case is ignored
abbrev pub range_has : Bool → ℕ → ℕ → ℕ → Bool
range_has ignores_case first last b =
    is_in_range first last (folded ignores_case b) || (ignores_case && is_in_range first last (to_ascii_uppercase b))

-- The POSIX class of this name, and whether it has the byte. White space is Git's: it has no vertical tab and
-- no form feed. If case is ignored, `lower` and `upper` have every letter.
pub data Class (ignores_case : Bool) (b : ℕ) (name : List ℕ) (has : Bool) : Type 0 where
  alnum : name ≡ codes "alnum" → has ≡ is_ascii_alphanumeric b → Class ignores_case b name has
  alpha : name ≡ codes "alpha" → has ≡ is_ascii_alphabetic b → Class ignores_case b name has
  blank : name ≡ codes "blank" → has ≡ is_space b → Class ignores_case b name has
  cntrl : name ≡ codes "cntrl" → has ≡ is_ascii_control b → Class ignores_case b name has
  digit : name ≡ codes "digit" → has ≡ is_ascii_digit b → Class ignores_case b name has
  graph : name ≡ codes "graph" → has ≡ is_ascii_graphic b → Class ignores_case b name has
  lower : name ≡ codes "lower" → has ≡ (is_ascii_lowercase b || (ignores_case && is_ascii_uppercase b))
      → Class ignores_case b name has
  print : name ≡ codes "print" → has ≡ (b == space || is_ascii_graphic b) → Class ignores_case b name has
  punct : name ≡ codes "punct" → has ≡ is_ascii_punctuation b → Class ignores_case b name has
  spaces : name ≡ codes "space" → has ≡ (is_blank b || b == line_feed) → Class ignores_case b name has
  upper : name ≡ codes "upper" → has ≡ (is_ascii_uppercase b || (ignores_case && is_ascii_lowercase b))
      → Class ignores_case b name has
  xdigit : name ≡ codes "xdigit" → has ≡ is_ascii_hexdigit b → Class ignores_case b name has

abbrev pub is_unclosed : ℕ → Bool
is_unclosed b = not (b == right_bracket)

-- a class, `[:NAME:]`, and the rest; the first `]` after `[:` ends it
pub record IsClass (text name rest : List ℕ) : Type 0 where
  pub inner : List ℕ
  pub opened : text ≡ codes "[:" ++ inner
  pub closed : Run is_unclosed inner (name ++ codes ":") (right_bracket ∷ rest)

-- the text begins with no class
abbrev pub IsNoClass : List ℕ → Type 0
IsNoClass text = (name rest : List ℕ) → ¬ (IsClass text name rest)

-- the byte before this text is not the first one of a range
abbrev pub IsNoRange : List ℕ → Type 0
IsNoRange text = (last : ℕ) (rest : List ℕ) → ¬ (RangeEnd text last rest)

-- Whether the first member of a set has the byte, and the rest. It is a class, a byte or a range; the flag
-- says whether it is at the start of the set. A range has its first byte, even if its last byte is a lower
-- one.
pub data Member (ignores_case : Bool) (b : ℕ) (starts : Bool) (text : List ℕ) (has : Bool) (rest : List ℕ) : Type 0 where
  class : (name : List ℕ) → IsClass text name rest → Class ignores_case b name has
      → Member ignores_case b starts text has rest
  single : (c : ℕ) → IsNoClass text → SetByte starts text c rest → IsNoRange rest
      → has ≡ (c == folded ignores_case b) → Member ignores_case b starts text has rest
  range : (first last : ℕ) (after : List ℕ) → IsNoClass text → SetByte starts text first after
      → RangeEnd after last rest
      → has ≡ (first == folded ignores_case b || range_has ignores_case first last b)
      → Member ignores_case b starts text has rest

-- whether one of the members up to `]` has the byte, and what follows; the flag is true at the first member
pub data SetHas (ignores_case : Bool) (b : ℕ) : Bool → List ℕ → Bool → List ℕ → Type 0 where
  closes : {c : ℕ} {rest : List ℕ} → c ≡ right_bracket → SetHas ignores_case b false (c ∷ rest) false rest
  has : {starts all : Bool} {text rest : List ℕ} (here found : Bool) (after : List ℕ)
      → Member ignores_case b starts text here after → SetHas ignores_case b false after found rest
      → all ≡ (here || found)
      → SetHas ignores_case b starts text all rest

-- whether a set matches a byte: one of its members has it, or, if the set is negated, none of them has it
abbrev pub is_wanted : Bool → Bool → Bool
is_wanted found negated = if negated then not found else found

-- the set, after its `[`, matches this byte, which is not `/`, and this rest follows
pub record StandsForByte (ignores_case : Bool) (text : List ℕ) (b : ℕ) (rest : List ℕ) : Type 0 where
  pub found : Bool
  pub members : SetHas ignores_case b true ((opened text).1) found rest
  pub wanted : is_wanted found ((opened text).0) ≡ true
  pub no_slash : b ≢ slash
