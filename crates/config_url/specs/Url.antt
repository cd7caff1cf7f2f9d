-- URLs of settings: the texts that are URLs, the form in which Git compares them, the URLs that a pattern
-- matches, and the setting that decides for a URL.
--
-- Look for (here and in UrlView): the normal form: the port that a scheme has if it names none, escapes
-- that are needed and no others, `.` and `..` in paths. `Matches`: the same scheme and port, `*` for a
-- whole label of the host, a path at or below that of the pattern. `IsCloser`: by the host, else by the
-- path, else by a user.
use Rattle.std.specs.Prelude.{◌≡◌, ◌≢◌, ◌⊎◌, ◌<◌, ◌+◌, ◌-◌, ◌*◌, ◌/◌, ◌%◌, ℕ, Bool, true, false, not, is_some}
use Rattle.std.specs.Prelude.{◌&&◌, ◌||◌, ◌==◌, nat_le, nat_lt, if◌then◌else◌, List, [], ◌∷◌, ◌++◌, length}
use Rattle.std.specs.Prelude.{map, flat_map, Option, Some, None, unwrap_or, codes, ⊤}
use Rattle.std.specs.Char.{to_ascii_lowercase, is_ascii_alphabetic, is_ascii_alphanumeric, is_ascii_digit}
use Rattle.std.specs.List.{list_all, list_any, AllZip}
use Rattle.config_file.specs.Bytes.{dot, right_bracket}
use Rattle.config_file.specs.Runs.{Run, StopsRun}

abbrev pub percent : ℕ
percent = 37

abbrev pub star : ℕ
star = 42

abbrev pub slash : ℕ
slash = 47

abbrev pub colon : ℕ
colon = 58

abbrev pub at_sign : ℕ
at_sign = 64

-- the byte is one of these
abbrev pub is_one_of : List ℕ → ℕ → Bool
is_one_of bytes b = list_any (λ other. other == b) bytes

-- a letter, a digit, `+`, `-` or `.`
abbrev pub is_scheme_byte : ℕ → Bool
is_scheme_byte b = is_ascii_alphanumeric b || is_one_of (codes "+-.") b

-- a letter, and then bytes of schemes
abbrev pub is_scheme : List ℕ → Bool
is_scheme [] = false
is_scheme (b ∷ rest) = is_ascii_alphabetic b && list_all is_scheme_byte (b ∷ rest)

-- a byte that can precede the path: neither `/` nor `?` nor `#`
abbrev pub is_place_byte : ℕ → Bool
is_place_byte b = not (is_one_of (codes "/?#") b)

-- a byte that can precede `@`
abbrev pub is_login_byte : ℕ → Bool
is_login_byte b = is_place_byte b && not (b == at_sign)

-- a letter, a digit, `.`, `-`, `_`, `[`, `:` or `]`, and `*` if there are stars
abbrev pub is_host_byte : Bool → ℕ → Bool
is_host_byte has_stars b = is_ascii_alphanumeric b || (is_one_of (codes ".-_[:]") b || has_stars && b == star)

-- the parts of a URL as they are written: its scheme, what precedes `@`, its host, what follows the colon
-- behind the host, and the path with the query and the fragment
pub record SplitUrl : Type 0 where
  pub scheme : List ℕ
  pub login : Option (List ℕ)
  pub host : List ℕ
  pub port : Option (List ℕ)
  pub path : List ℕ

-- what is written between the scheme and the path
abbrev pub place_text : Option (List ℕ) → List ℕ → Option (List ℕ) → List ℕ
place_text None host None = host
place_text None host (Some port) = host ++ colon ∷ port
place_text (Some login) host None = login ++ at_sign ∷ host
place_text (Some login) host (Some port) = login ++ at_sign ∷ (host ++ colon ∷ port)

-- without a port, a `]` follows each colon of the host
abbrev pub IsWhole : List ℕ → Option (List ℕ) → Type 0
IsWhole host None = (front back : List ℕ) → host ≡ front ++ colon ∷ back
    → list_any (λ b. b == right_bracket) back ≡ true
IsWhole host (Some port) = list_all is_ascii_digit port ≡ true

-- the text is a URL of these parts, which may have `*` in its host if there are stars
pub record IsWritten (has_stars : Bool) (text : List ℕ) (parts : SplitUrl) : Type 0 where
  pub joined : text ≡ parts.scheme
      ++ (codes "://" ++ (place_text parts.login parts.host parts.port ++ parts.path))
  pub scheme : is_scheme parts.scheme ≡ true
  pub login : list_all is_login_byte (unwrap_or parts.login []) ≡ true
  pub host : list_all (is_host_byte has_stars) parts.host ≡ true
  pub port : IsWhole parts.host parts.port
  pub path : StopsRun is_place_byte parts.path

-- a byte that is always escaped: a control character, a byte above U+007E, a space, or one of these signs
abbrev pub is_unsafe : ℕ → Bool
is_unsafe b = is_one_of (codes " <>\"%{}|\\^`") b || (nat_lt b 32 || nat_lt 126 b)

-- a byte that separates parts of URLs, so that it differs from its escape
abbrev pub is_reserved : ℕ → Bool
is_reserved b = is_one_of (codes ":/?#[]@!$&'()*+,;=") b

-- a hexadecimal digit, in upper case
abbrev pub hex_digit : ℕ → ℕ
hex_digit value = if nat_lt value 10 then 48 + value else 55 + value

-- the value of a hexadecimal digit
abbrev pub hex_value : ℕ → Option ℕ
hex_value b =
    if nat_le 48 b && nat_le b 57 then Some (b - 48)
    else if nat_le 97 b && nat_le b 102 then Some (b - 87)
    else if nat_le 65 b && nat_le b 70 then Some (b - 55)
    else None

-- a byte as it is, or as `%` and two hexadecimal digits
abbrev pub escaped : Bool → ℕ → List ℕ
escaped false b = b ∷ []
escaped true b = percent ∷ hex_digit (b / 16) ∷ hex_digit (b % 16) ∷ []

-- a text, and the same with the escapes that it needs and no others: a byte that is written as it is is
-- escaped if it is unsafe, and an escaped one stays so if it is unsafe or separates parts
pub data IsNormal : List ℕ → List ℕ → Type 0 where
  done : IsNormal [] []
  plain : {b : ℕ} {rest normal : List ℕ}
      → b ≢ percent → IsNormal rest normal → IsNormal (b ∷ rest) (escaped (is_unsafe b) b ++ normal)
  escape : {b high low h l : ℕ} {rest normal : List ℕ}
      → b ≡ percent → hex_value high ≡ Some h → hex_value low ≡ Some l → IsNormal rest normal
      → IsNormal (b ∷ high ∷ low ∷ rest)
      (escaped (is_unsafe (h * 16 + l) || is_reserved (h * 16 + l)) (h * 16 + l) ++ normal)

-- a byte goes before the first piece
abbrev pub onto : ℕ → List (List ℕ) → List (List ℕ)
onto b [] = (b ∷ []) ∷ []
onto b (piece ∷ pieces) = (b ∷ piece) ∷ pieces

-- the pieces of a text, each of which ends at a separator or at the end of the text
unfoldable pub pieces : ℕ → List ℕ → List (List ℕ)
pieces separator [] = []
pieces separator (b ∷ rest) =
    if b == separator then [] ∷ pieces separator rest else onto b (pieces separator rest)

-- Going on by these names leads from the kept names to those at the end: `.` stays, `..` drops the last name,
-- and any other name is kept.
pub data Leads : List (List ℕ) → List (List ℕ) → List (List ℕ) → Type 0 where
  ends : {kept : List (List ℕ)} → Leads kept [] kept
  stays : {kept rest all : List (List ℕ)} {name : List ℕ}
      → name ≡ codes "." → Leads kept rest all → Leads kept (name ∷ rest) all
  drops : {kept front rest all : List (List ℕ)} {name : List ℕ} (last : List ℕ)
      → name ≡ codes ".." → kept ≡ front ++ last ∷ [] → Leads front rest all → Leads kept (name ∷ rest) all
  keeps : {kept rest all : List (List ℕ)} {name : List ℕ}
      → name ≢ codes "." → name ≢ codes ".." → Leads (kept ++ name ∷ []) rest all
      → Leads kept (name ∷ rest) all

-- the names with a slash before each, and the root for no names
abbrev pub joined_names : List (List ℕ) → List ℕ
joined_names [] = slash ∷ []
joined_names (name ∷ names) = flat_map (λ n. slash ∷ n) (name ∷ names)

-- a byte that precedes the query and the fragment: neither `?` nor `#`
abbrev pub is_path_byte : ℕ → Bool
is_path_byte b = not (is_one_of (codes "?#") b)

-- a path without the slash at its start
abbrev pub without_root : List ℕ → List ℕ
without_root [] = []
without_root (b ∷ rest) = if b == slash then rest else b ∷ rest

-- the text of a path and of what follows it, and its normal form: the names that its names lead to from the
-- root
pub record IsPath (text path : List ℕ) : Type 0 where
  pub normal : List ℕ
  pub names : List ℕ
  pub query : List ℕ
  pub kept : List (List ℕ)
  pub is_normal : IsNormal text normal
  pub is_cut : Run is_path_byte normal names query
  pub leads : Leads [] (pieces slash (without_root names ++ slash ∷ [])) kept
  pub joined : path ≡ joined_names kept ++ query

-- what precedes `@`, and the user: its text up to the first colon, in normal form
abbrev pub IsUser : Option (List ℕ) → Option (List ℕ) → Type 0
IsUser None user = user ≡ None
IsUser (Some login) user = (normal name password : List ℕ) × IsNormal login normal
    × Run (λ b. not (b == colon)) normal name password × (user ≡ Some name)

-- the host is missing: it is empty or begins with a colon
abbrev pub is_missing : List ℕ → Bool
is_missing [] = true
is_missing (b ∷ rest) = b == colon

-- the host that Git compares
abbrev pub compared_host : List ℕ → List ℕ
compared_host host = if is_missing host then [] else map to_ascii_lowercase host

-- the number that digits write after this number
unfoldable pub number_after : ℕ → List ℕ → ℕ
number_after n [] = n
number_after n (digit ∷ rest) = number_after (n * 10 + (digit - 48)) rest

-- URLs of the scheme have this port if they name none
abbrev pub IsDefault : List ℕ → ℕ → Type 0
IsDefault scheme port = ((scheme ≡ codes "http") × (port ≡ 80)) ⊎ ((scheme ≡ codes "https") × (port ≡ 443))

-- the digits that are written as a port, and the port: from 1 to 65535, or none for no digits or the scheme's
-- own
abbrev pub IsPort : List ℕ → List ℕ → Option ℕ → Type 0
IsPort scheme digits None = (digits ≡ []) ⊎ IsDefault scheme (number_after 0 digits)
IsPort scheme digits (Some port) =
    (digits ≢ []) × (number_after 0 digits ≡ port) × (0 < port) × (port < 65536)
    × ¬ (IsDefault scheme port)

-- a URL in the form in which Git compares URLs
pub record Url : Type 0 where
  pub scheme : List ℕ
  pub user : Option (List ℕ)
  pub host : List ℕ
  pub port : Option ℕ
  pub path : List ℕ

abbrev pub url : List ℕ → Option (List ℕ) → List ℕ → Option ℕ → List ℕ → Url
url scheme user host port path =
    record { scheme = scheme; user = user; host = host; port = port; path = path }

-- the URL of these parts: only one of the scheme `file` lacks a host, and it has no port then
pub record IsForm (parts : SplitUrl) (u : Url) : Type 0 where
  pub scheme : u.scheme ≡ map to_ascii_lowercase parts.scheme
  pub host : u.host ≡ compared_host parts.host
  pub only_files : is_missing parts.host ≡ true
      → (u.scheme ≡ codes "file") × (unwrap_or parts.port [] ≡ [])
  pub port : IsPort u.scheme (unwrap_or parts.port []) u.port
  pub user : IsUser parts.login u.user
  pub path : IsPath parts.path u.path

-- the text is this URL, which may have `*` in its host if there are stars
abbrev pub IsUrl : Bool → List ℕ → Url → Type 0
IsUrl has_stars text u = (parts : SplitUrl) × IsWritten has_stars text parts × IsForm parts u

-- a label of a pattern stands for this label: it is the same, or `*`
abbrev pub StandsFor : List ℕ → List ℕ → Type 0
StandsFor wanted label = (wanted ≡ label) ⊎ (wanted ≡ codes "*")

-- a pattern without a user matches each user, and else only the same one
abbrev pub AllowsUser : Option (List ℕ) → Option (List ℕ) → Type 0
AllowsUser None user = ⊤
AllowsUser (Some wanted) user = user ≡ Some wanted

-- a path with a slash at its end
unfoldable pub closed : List ℕ → List ℕ
closed [] = slash ∷ []
closed (b ∷ []) = if b == slash then b ∷ [] else b ∷ slash ∷ []
closed (b ∷ c ∷ rest) = b ∷ closed (c ∷ rest)

-- the pattern matches the URL: their schemes and ports are the same, the labels of its host stand for those
-- of the URL, one for one, and its path is that of the URL or of a directory above it
pub record Matches (pattern u : Url) : Type 0 where
  pub scheme : pattern.scheme ≡ u.scheme
  pub user : AllowsUser pattern.user u.user
  pub host : AllZip StandsFor (pieces dot pattern.host) (pieces dot u.host)
  pub port : pattern.port ≡ u.port
  pub path : (rest : List ℕ) × (u.path ++ slash ∷ [] ≡ closed pattern.path ++ rest)

-- how closely a setting fits a URL: the lengths of the host and of the path of its pattern, and whether that
-- names a user
pub record Fit : Type 0 where
  pub host : ℕ
  pub path : ℕ
  pub has_user : Bool

abbrev pub fit : ℕ → ℕ → Bool → Fit
fit host path has_user = record { host = host; path = path; has_user = has_user }

-- the fit of a setting without a pattern
abbrev pub weakest : Fit
weakest = fit 0 0 false

abbrev pub fit_of : Url → Fit
fit_of pattern = fit (length pattern.host) (length (closed pattern.path)) (is_some pattern.user)

-- the second fit is closer: by a longer host, else by a longer path, else by a user
abbrev pub IsCloser : Fit → Fit → Type 0
IsCloser a b = (a.host < b.host) ⊎ ((a.host ≡ b.host) × ((a.path < b.path)
    ⊎ ((a.path ≡ b.path) × (a.has_user ≡ false) × (b.has_user ≡ true))))
