-- The result of interpolating a path value: the path table.
--
-- Look for: in neither headline: `Gives` is the table, a line for each form. `IsAllocated`: `Memory` needs
-- a text that is not empty.
use Rattle.std.specs.Prelude.{◌≡◌, ◌≢◌, ℕ, nat_eq, List, [], ◌∷◌, ◌++◌, codes, Option, None, Some}
use Rattle.std.specs.Prelude.{option_map, Result, Ok, Err, string_bytes, IsUtf8, if◌then◌else◌, ⊤}
use Rattle.std.specs.Fn.{Once, FnOnceReturnsAt}
use Rattle.std.specs.List.{starts_with, ends_with, AllByRecursion}
use Rattle.std.specs.declared.string.String.{String}
use Rattle.std.specs.declared.alloc.Global.{Global}
use denote.Ref.{Bor}
use Rattle.config_text.specs.Bytes.{LacksFront}
use Rattle.config_path.specs.declared.interpolate.Context.{Context}
use Rattle.config_path.specs.declared.interpolate.Place.{Place}
use Rattle.config_path.specs.declared.interpolate.Place.TheVariants.{PastPrefix, PastHome, Username, PastUser}
use Rattle.config_path.specs.declared.interpolate.Place.TheVariants.{Whole}
use Rattle.config_path.specs.declared.interpolate.Class.{Class}
use Rattle.config_path.specs.declared.interpolate.Class.TheVariants as class
use Rattle.config_path.specs.declared.interpolate.Error.{Error}
use Rattle.config_path.specs.declared.interpolate.Error.TheVariants.{PathMissing, InstallDirMissing}
use Rattle.config_path.specs.declared.interpolate.Error.TheVariants.{HomeMissing, LookupMissing, UserNotFound}
use Rattle.config_path.specs.declared.interpolate.Error.TheVariants.{IllFormed, Memory}

-- what a value is, by how it begins
pub data Form : Type 0 where
  empty : Form
  below_prefix : (rest : List ℕ) → Form
  below_home : (rest : Option (List ℕ)) → Form
  below_user : (name : List ℕ) → (rest : Option (List ℕ)) → Form
  other : (value : List ℕ) → Form

-- `/`
abbrev pub slash : ℕ
slash = 47

-- a text with no `/` in it
abbrev pub IsOneName : List ℕ → Type 0
IsOneName name = AllByRecursion (λ b. b ≢ slash) name

-- a name alone, or a name, a `/` and the rest
abbrev pub below : List ℕ → Option (List ℕ) → List ℕ
below name None = name
below name (Some rest) = name ++ codes "/" ++ rest

-- the value has this form; each value has exactly one form
abbrev pub HasForm : List ℕ → Form → Type 0
HasForm value empty = value ≡ []
HasForm value (below_prefix rest) = value ≡ codes "%(prefix)/" ++ rest
HasForm value (below_home rest) = value ≡ codes "~" ++ below [] rest
HasForm value (below_user name rest) = (value ≡ codes "~" ++ below name rest) × (name ≢ []) × IsOneName name
HasForm value (other whole) =
    (whole ≡ value) × (value ≢ []) × LacksFront (codes "%(prefix)/") value × LacksFront (codes "~") value

-- what comes between a directory and a rest: a `/`, unless the directory is empty or ends in one
abbrev pub separator : List ℕ → List ℕ
separator [] = []
separator (c ∷ cs) = if ends_with nat_eq (c ∷ cs) (codes "/") then [] else codes "/"

-- joined: the rest alone if it begins with `/`, otherwise the directory, the separator and the rest
abbrev pub join : List ℕ → List ℕ → List ℕ
join dir rest = if starts_with nat_eq rest (codes "/") then rest else dir ++ separator dir ++ rest

-- ---- the path table

-- the users that a caller knows: no lookup, or a lookup and the homes that it may return for each name
pub data Users : Type 1 where
  no_lookup : Users
  looked_up : (may_give : List ℕ → Option (List ℕ) → Type 0) → Users

-- what a caller knows about the directories that a path may refer to
pub record Known : Type 1 where
  pub install_dir : Option (List ℕ)
  pub home_dir : Option (List ℕ)
  pub users : Users

-- the result for a value: a text, an error, or the error that the bytes at this place are not UTF-8
pub data PathResult : Type 0 where
  text : List ℕ → PathResult
  fault : Error → PathResult
  ill_formed : Place → List ℕ → PathResult

-- if the bytes are UTF-8, the row decides; otherwise the result is the error that they are not
pub data WhereUtf8 (place : Place) (bytes : List ℕ) (row : Type 0) (result : PathResult) : Type 0 where
  utf8 : IsUtf8 bytes → row → WhereUtf8 place bytes row result
  other_bytes : ¬ (IsUtf8 bytes) → result ≡ ill_formed place bytes → WhereUtf8 place bytes row result

-- a row: the directory, the result if there is no directory, and the rest with its place, which has to be
-- UTF-8
pub record Row : Type 0 where
  pub dir : Option (List ℕ)
  pub missing : PathResult
  pub rest : Option (List ℕ)
  pub place : Place

-- the result of a row: `missing` without a directory, the directory without a rest, otherwise the two joined
pub data IsBelow (row : Row) (result : PathResult) : Type 0 where
  no_dir : row.dir ≡ None → result ≡ row.missing → IsBelow row result
  no_rest : (dir : List ℕ) → row.dir ≡ Some dir → row.rest ≡ None → result ≡ text dir → IsBelow row result
  both : (dir rest : List ℕ) → row.dir ≡ Some dir → row.rest ≡ Some rest
      → WhereUtf8 row.place rest (result ≡ text (join dir rest)) result
      → IsBelow row result

-- the row for the home of a user
abbrev pub home_row : Option (List ℕ) → Option (List ℕ) → Row
home_row home rest = record { dir = home; missing = fault UserNotFound; rest = rest; place = PastUser }

-- the result for a user's home: it needs a lookup and a name in UTF-8; then the row of the home decides
abbrev pub IsBelowUser : Users → List ℕ → Option (List ℕ) → PathResult → Type 0
IsBelowUser no_lookup name rest result = result ≡ fault LookupMissing
IsBelowUser (looked_up may_give) name rest result = WhereUtf8 Username name
    ((home : Option (List ℕ)) × may_give name home × IsBelow (home_row home rest) result) result

-- the path table: the result for a value of this form
abbrev pub Gives : Known → Form → PathResult → Type 0
Gives known empty result = result ≡ fault PathMissing
Gives known (below_prefix rest) result = IsBelow (record {
  dir = known.install_dir;
  missing = fault InstallDirMissing;
  rest = Some rest;
  place = PastPrefix;
}) result
Gives known (below_home rest) result = IsBelow (record {
  dir = known.home_dir;
  missing = fault HomeMissing;
  rest = rest;
  place = PastHome;
}) result
Gives known (below_user name rest) result = IsBelowUser known.users name rest result
Gives known (other value) result = WhereUtf8 Whole value (result ≡ text value) result

-- the result of the table for the form that the value has
pub record PathTable (known : Known) (value : List ℕ) (result : PathResult) : Type 0 where
  pub form : Form
  pub has_form : HasForm value form
  pub gives : Gives known form result

-- ---- what a call returns

-- an error as a result of the table
abbrev pub refusal : Error → PathResult
refusal (IllFormed place input) = ill_formed place input.now
refusal e = fault e

-- the returned text or error as a result of the table
abbrev pub returned : Result (String Global) Error → PathResult
returned (Ok s) = text (string_bytes s)
returned (Err e) = refusal e

-- this result is returned; or `Memory`, which is possible only if the result is a text that is not empty
abbrev pub IsAllocated : PathResult → Result (String Global) Error → Type 0
IsAllocated result (Err (Memory e)) = (t : List ℕ) × (result ≡ text t) × (t ≢ [])
IsAllocated result r = result ≡ returned r

-- interpolated: the result of the table is returned, or `Memory`
pub record Interpolated (known : Known) (value : List ℕ) (r : Result (String Global) Error) : Type 0 where
  pub result : PathResult
  pub table : PathTable known value result
  pub allocated : IsAllocated result r

-- ---- what a context knows

-- the lookup may find a directory with these bytes, or `None`, for the name
abbrev pub LooksUp : {H D : Type 0} → (D → List ℕ) → (H → List ℕ → Option D → Type 0) → H → List ℕ
    → Option (List ℕ) → Type 0
LooksUp {D = D} bytes finds lookup name answer =
    (found : Option D) × finds lookup name found × (option_map bytes found ≡ answer)

-- the users that a lookup knows, if there is one
abbrev pub users_of : {H D : Type 0} → (D → List ℕ) → (H → List ℕ → Option D → Type 0) → Option H → Users
users_of bytes finds None = no_lookup
users_of bytes finds (Some lookup) = looked_up (LooksUp bytes finds lookup)

-- what two directories and a lookup know, if directories have these bytes and the lookup finds these homes
abbrev pub known_by : {H D : Type 0} → (D → List ℕ) → (H → List ℕ → Option D → Type 0)
    → (install_dir home_dir : Option D) → Option H → Known
known_by bytes finds install_dir home_dir lookup = record {
  install_dir = option_map bytes install_dir;
  home_dir = option_map bytes home_dir;
  users = users_of bytes finds lookup;
}

-- the directories and users that a context knows
abbrev pub known_in : {F : Type 0} → Once F (Bor (List ℕ) × Unit {0}) (Option (Bor (List ℕ))) → Context F
    → Known
known_in lookup context = known_by (λ dir. dir.now) (λ f name found. FnOnceReturnsAt lookup f name found)
    context.git_install_dir context.home_dir context.home_for_user

-- ---- conditions of the laws

-- the lookup, if there is one, may return only one home for each name
abbrev pub HaveOneHome : Users → Type 0
HaveOneHome no_lookup = ⊤
HaveOneHome (looked_up may_give) =
    (name : List ℕ) (home other_home : Option (List ℕ)) → may_give name home → may_give name other_home
    → home ≡ other_home

-- the result is the error `Memory`
abbrev pub IsOutOfMemory : Result (String Global) Error → Type 0
IsOutOfMemory (Err (Memory e)) = ⊤
IsOutOfMemory r = ⊥

-- ---- errors

-- how a place is shown
abbrev pub place_shown : Place → List ℕ
place_shown PastPrefix = codes "path past %(prefix)"
place_shown PastHome = codes "path past ~/"
place_shown Username = codes "username"
place_shown PastUser = codes "path past ~user/"
place_shown Whole = codes "path"

-- the text that an error is printed as
abbrev pub path_error_text : Error → List ℕ
path_error_text PathMissing = codes "path is missing"
path_error_text InstallDirMissing = codes "git install dir is missing"
path_error_text HomeMissing = codes "home dir is missing"
path_error_text LookupMissing = codes "home for user lookup is missing"
path_error_text UserNotFound = codes "pwd user info is missing"
path_error_text (IllFormed place input) = codes "Ill-formed UTF-8 in " ++ place_shown place
path_error_text (Memory e) = codes "no memory"

-- the class of an error
abbrev pub class_of : Error → Class
class_of (IllFormed place input) = class.Validation
class_of (Memory e) = class.Memory
class_of _ = class.NotFound

-- the same error; in `IllFormed` the places have to be the same, and the inputs have to have the same bytes
abbrev pub IsSameError : Error → Error → Type 0
IsSameError (IllFormed place bytes) (IllFormed at input) = (place ≡ at) × (bytes.now ≡ input.now)
IsSameError (IllFormed place bytes) f = ⊥
IsSameError e (IllFormed place bytes) = ⊥
IsSameError e f = e ≡ f
