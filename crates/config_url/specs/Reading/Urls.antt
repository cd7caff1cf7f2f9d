-- How the parts of a URL are cut, one after the other.
use Rattle.std.specs.Prelude.{◌≡◌, ◌↔◌, ℕ, Bool, true, false, not, ◌&&◌, ◌||◌, ◌==◌, List, ◌∷◌, ◌++◌, Option}
use Rattle.std.specs.Prelude.{Some, None, codes}
use Rattle.std.specs.Char.{is_ascii_alphanumeric}
use Rattle.std.specs.List.{list_all}
use Rattle.config_file.specs.Bytes.{right_bracket}
use Rattle.config_file.specs.Runs.{Run}
use Rattle.config_url.specs.Url.{SplitUrl, IsWhole, is_scheme, is_place_byte, at_sign, colon}
use Rattle.config_url.specs.Url.{IsNormal, escaped, is_unsafe, is_reserved, Leads, is_one_of}

abbrev pub no_at : ℕ → Bool
no_at b = not (b == at_sign)

-- neither a colon nor `]`
abbrev pub is_port_byte : ℕ → Bool
is_port_byte b = not (b == colon) && not (b == right_bracket)

-- the text is a scheme, `://` and the rest
pub record CutsScheme (text scheme rest : List ℕ) : Type 0 where
  pub joined : text ≡ scheme ++ (codes "://" ++ rest)
  pub is : is_scheme scheme ≡ true

-- what precedes the first `@`, if there is one, and the rest
abbrev pub CutsLogin : List ℕ → Option (List ℕ) → List ℕ → Type 0
CutsLogin place None rest = (place ≡ rest) × (list_all no_at place ≡ true)
CutsLogin place (Some login) rest = (place ≡ login ++ at_sign ∷ rest) × (list_all no_at login ≡ true)

-- a host, and what follows its last colon if no `]` follows that
abbrev pub CutsPort : List ℕ → List ℕ → Option (List ℕ) → Type 0
CutsPort text host None = (text ≡ host) × IsWhole host None
CutsPort text host (Some port) = (text ≡ host ++ colon ∷ port) × (list_all is_port_byte port ≡ true)

-- the parts into which the text is cut
pub record IsCutUrl (text : List ℕ) (parts : SplitUrl) : Type 0 where
  pub after : List ℕ
  pub place : List ℕ
  pub named : List ℕ
  pub cuts_scheme : CutsScheme text parts.scheme after
  pub cuts_place : Run is_place_byte after place parts.path
  pub cuts_login : CutsLogin place parts.login named
  pub cuts_port : CutsPort named parts.host parts.port

-- what precedes the first separator, and what follows it, if there is one
abbrev pub CutsPiece : ℕ → List ℕ → List ℕ → Option (List ℕ) → Type 0
CutsPiece separator text piece None =
    (text ≡ piece) × (list_all (λ b. not (b == separator)) piece ≡ true)
CutsPiece separator text piece (Some rest) =
    (text ≡ piece ++ separator ∷ rest) × (list_all (λ b. not (b == separator)) piece ≡ true)

-- a byte in normal form, where it is escaped or not
abbrev pub written_as : Bool → ℕ → List ℕ
written_as is_escaped b = escaped (is_unsafe b || (is_escaped && is_reserved b)) b

-- a letter, a digit, `/`, `-` or `_`: a byte that is never escaped, is no dot, and ends no path
abbrev pub is_own_byte : ℕ → Bool
is_own_byte b = is_ascii_alphanumeric b || is_one_of (codes "/-_") b

-- the normal forms of the text are this front and then those of the rest
pub record GoesOn (text front rest : List ℕ) : Type 0 where
  pub more : (normal : List ℕ) → IsNormal rest normal → IsNormal text (front ++ normal)
  pub none : ((normal : List ℕ) → ¬ (IsNormal rest normal)) → (normal : List ℕ) → ¬ (IsNormal text normal)

-- a name leads from the kept names to these, or, at false, nowhere
abbrev pub Steps : List (List ℕ) → List ℕ → Bool → List (List ℕ) → Type 0
Steps kept name true next = (rest all : List (List ℕ)) → (Leads next rest all ↔ Leads kept (name ∷ rest) all)
Steps kept name false next = (rest all : List (List ℕ)) → ¬ (Leads kept (name ∷ rest) all)
