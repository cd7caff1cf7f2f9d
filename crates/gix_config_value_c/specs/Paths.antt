-- Paths in C: the mark of an optional path, and the text that a path value is interpolated to.
use Rattle.std.specs.Prelude.{◌≡◌, ◌≤◌, ◌<◌, ◌-◌, ◌^◌, ◌⊎◌, ℕ, List, [], ◌∷◌, length, Bool}
use Rattle.std.specs.Prelude.{Option, None, Some, drop}
use Rattle.gix_config_value.specs.Path.{Marked}
use Rattle.gix_config_value.specs.Passwd.{IsHomeIn}
use Rattle.gix_config_value.specs.Interpolation.{Users, Known, PathResult, PathTable}
use Rattle.gix_config_value.specs.Interpolation.Users.{no_lookup, looked_up}
use Rattle.gix_config_value.specs.Interpolation.PathResult.{text, fault as path_fault, ill_formed}
use Rattle.gix_config_value_c.specs.declared.status.Status.TheVariants as statuses
use Rattle.gix_config_value_c.specs.Buffers.{PutsText, LeavesBuffer}
use Rattle.gix_config_value_c.specs.Faults.{path_fault_number, place_number}
use Rattle.gix_config_value_c.specs.Numbers.{flag_number}
use Rattle.gix_config_value_c.specs.Values.{IsNoValue}

-- `optional` says whether the mark is at the front, and `start` is the index where the path after it begins
abbrev pub CutsMark : List ℕ → ℕ → ℕ → Type 0
CutsMark t optional start =
    (is_optional : Bool) × (optional ≡ flag_number is_optional) × Marked t is_optional (drop start t)
    × (start ≤ length t)

-- ---- what is given: a flag, and bytes that count if it is 1

abbrev pub IsGiven : ℕ × List ℕ → Option (List ℕ) → Type 0
IsGiven given None = given.0 ≡ 0
IsGiven given (Some bytes) = (given.0 ≡ 1) × (bytes ≡ given.1)

-- one of these flags is neither 0 nor 1
abbrev pub HasBadFlag : List ℕ → Type 0
HasBadFlag [] = ⊥
HasBadFlag (flag ∷ flags) = IsNoValue flag_number flag ⊎ HasBadFlag flags

-- the users of a passwd text, if there is one
abbrev pub users_in : Option (List ℕ) → Users
users_in None = no_lookup
users_in (Some passwd) = looked_up (IsHomeIn passwd)

-- what is known about the directories
abbrev pub known_of : (install_dir home passwd : Option (List ℕ)) → Known
known_of install_dir home passwd =
    record { install_dir = install_dir; home_dir = home; users = users_in passwd }

-- ---- the result

-- the length of the longest block of memory in bytes, and so of the longest text: PTRDIFF_MAX
abbrev pub longest_block : ℕ
longest_block = 2 ^ 63 - 1

-- the result is a fault, and it has this number
abbrev pub IsPathFault : PathResult → ℕ → Type 0
IsPathFault (text t) number = ⊥
IsPathFault (path_fault e) number = number ≡ path_fault_number e
IsPathFault (ill_formed place bytes) number = number ≡ place_number place

-- a text of at most `longest` bytes is put into the buffer; or the text is longer, and the status `NoMemory`;
-- or the path is refused, and the number of the fault is put into `fault`. The rest is left alone.
pub data PutsPath (longest : ℕ) (result : PathResult) (buffer buffer' : List ℕ)
    (size size' fault fault' status : ℕ) : Type 0 where
  put : (t : List ℕ) → result ≡ text t → length t ≤ longest → PutsText t buffer buffer' size' status
      → fault' ≡ fault
      → PutsPath longest result buffer buffer' size size' fault fault' status
  too_long : (t : List ℕ) → result ≡ text t → longest < length t
      → LeavesBuffer statuses.NoMemory buffer buffer' size size' status → fault' ≡ fault
      → PutsPath longest result buffer buffer' size size' fault fault' status
  refused : IsPathFault result fault' → LeavesBuffer statuses.Refused buffer buffer' size size' status
      → PutsPath longest result buffer buffer' size size' fault fault' status

-- the path without its mark is interpolated, and the result put; or a flag is bad, and all is left alone
pub data InterpolatesInto (t : List ℕ) (install_dir home passwd : ℕ × List ℕ) (buffer buffer' : List ℕ)
    (size size' fault fault' status : ℕ) : Type 0 where
  interpolated : (i h p : Option (List ℕ)) (is_optional : Bool) (value : List ℕ) (result : PathResult)
      → IsGiven install_dir i → IsGiven home h → IsGiven passwd p → Marked t is_optional value
      → PathTable (known_of i h p) value result
      → PutsPath longest_block result buffer buffer' size size' fault fault' status
      → InterpolatesInto t install_dir home passwd buffer buffer' size size' fault fault' status
  bad_flag : HasBadFlag (install_dir.0 ∷ home.0 ∷ passwd.0 ∷ [])
      → LeavesBuffer statuses.BadFlag buffer buffer' size size' status → fault' ≡ fault
      → InterpolatesInto t install_dir home passwd buffer buffer' size size' fault fault' status
