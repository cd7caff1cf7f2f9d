-- The numbers that represent statuses, roles of entries, kinds, suffixes, depths, truth values and faults in C.
--
-- Look for (here and in Structs, Roles): the numbers and structs that C sees, which callers know from the
-- header: `tests/header.py` compares them. The other files there say which bytes a call writes, and which
-- status it returns, by the definitions of the crates above.
use Rattle.std.specs.Prelude.{◌≡◌, ◌≢◌, ℕ, Bool, true, false, Option, None, Some}
use Rattle.config_color.specs.declared.depth.Depth.{Depth}
use Rattle.config_color.specs.declared.depth.Depth.TheVariants as depths
use Rattle.config_integer.specs.declared.suffix.Suffix.{Suffix}
use Rattle.config_integer.specs.declared.suffix.Suffix.TheVariants.{Kibi, Mebi, Gibi}
use Rattle.config_text.specs.declared.errors.Fault.{Fault}
use Rattle.config_text.specs.declared.errors.Fault.TheVariants as faults
use Rattle.gix_config_value.specs.declared.kind.Kind.{Kind}
use Rattle.gix_config_value.specs.declared.kind.Kind.TheVariants as kinds
use Rattle.gix_config_value_c.specs.declared.roles.Role.{Role}
use Rattle.gix_config_value_c.specs.declared.roles.Role.TheVariants as roles
use Rattle.gix_config_value_c.specs.declared.status.Status.{Status}
use Rattle.gix_config_value_c.specs.declared.status.Status.TheVariants as statuses

-- the value that `c` represents in C, and `None` only if `c` represents no value
abbrev pub StandsFor : {V C : Type 0} → (V → C) → C → Option V → Type 0
StandsFor {V} struct c None = (v : V) → c ≢ struct v
StandsFor struct c (Some v) = c ≡ struct v

-- the number of a status, which a call returns; where Git stops it returns that of the reason, `why_number`
abbrev pub status_number : Status → ℕ
status_number statuses.Ok = 0
status_number statuses.Refused = 1
status_number statuses.Overflow = 2
status_number statuses.NoText = 3
status_number statuses.TooManyNames = 4
status_number statuses.Absent = 5
status_number statuses.UnknownKind = 6
status_number statuses.UnknownFault = 7
status_number statuses.BadSuffix = 8
status_number statuses.BadName = 9
status_number statuses.BadFlag = 10
status_number statuses.BadLengths = 12
status_number statuses.ShortBuffer = 13
status_number statuses.NoMemory = 14
status_number statuses.NoInclude = 17
status_number statuses.BadDepth = 21
status_number statuses.BadCount = 22
status_number statuses.TooManySettings = 23
status_number statuses.MissingKey = 24
status_number statuses.MissingValue = 25
status_number statuses.BadParameters = 26
status_number statuses.NoKey = 27
status_number statuses.EmptyKey = 28
status_number statuses.NoSection = 29
status_number statuses.NoKeyName = 30
status_number statuses.BadKey = 31
status_number statuses.KeyLineFeed = 32
status_number statuses.BadValue = 33
status_number statuses.BadSection = 34
status_number statuses.Several = 35
status_number statuses.Asks = 37
status_number statuses.TooManyFacts = 38

-- the number of a role
abbrev pub role_number : Role → ℕ
role_number roles.Plain = 0
role_number roles.RemoteUrl = 1
role_number roles.Condition = 2
role_number roles.UrlCondition = 3

-- the number of a kind
abbrev pub kind_number : Kind → ℕ
kind_number kinds.Suffix = 1
kind_number kinds.Integer = 2
kind_number kinds.Amount = 3
kind_number kinds.Boolean = 4
kind_number kinds.Name = 5
kind_number kinds.Attribute = 6
kind_number kinds.Color = 7

-- the number of a suffix, and 0 for no suffix
abbrev pub suffix_number : Option Suffix → ℕ
suffix_number None = 0
suffix_number (Some Kibi) = 1
suffix_number (Some Mebi) = 2
suffix_number (Some Gibi) = 3

-- the number of a depth: how many colors it has
abbrev pub depth_number : Depth → ℕ
depth_number depths.Ansi16 = 16
depth_number depths.Ansi256 = 256
depth_number depths.TrueColor = 16777216

-- the number of a depth, and 0 for no colors
abbrev pub written_depth : Option Depth → ℕ
written_depth None = 0
written_depth (Some depth) = depth_number depth

-- the number of a truth value
abbrev pub flag_number : Bool → ℕ
flag_number false = 0
flag_number true = 1

-- the number of a fault of a text
abbrev pub fault_number : Fault → ℕ
fault_number faults.Boolean = 1
fault_number faults.Integer = 2
fault_number faults.Overflow = 3
fault_number faults.OutOfRange = 4
fault_number faults.Color = 5
