-- The codes of findings.
use Rattle.std.specs.Prelude.{List, ℕ, codes}
use Rattle.config_text.specs.declared.errors.Fault.{Fault}
use Rattle.config_text.specs.declared.errors.Fault.TheVariants as faults
use Rattle.config_checks.specs.declared.code.Code.{Code}
use Rattle.config_checks.specs.declared.code.Code.TheVariants as kind
use Rattle.config_checks.specs.declared.shape.Shape.{Shape}
use Rattle.config_checks.specs.declared.shape.Shape.TheVariants as shapes
use Rattle.config_checks.specs.declared.reason.Reason.{Reason}
use Rattle.config_checks.specs.declared.reason.Reason.TheVariants.{NoValue, Refused, OutOfRange, NoWord}
use Rattle.config_checks.specs.declared.reason.Reason.TheVariants.{NoHome, Misshapen, IsNot}
use Rattle.config_checks.specs.declared.reason.Reason.TheVariants.{TooNew, Gone, Deprecated, Outdated}
use Rattle.config_checks.specs.declared.reason.Reason.TheVariants.{NotCanonical, OtherCase}

abbrev pub code_name : Code → List ℕ
code_name kind.BadBoolean = codes "bad-boolean"
code_name kind.BadInteger = codes "bad-integer"
code_name kind.BadColor = codes "bad-color"
code_name kind.OutOfRange = codes "out-of-range"
code_name kind.NotAWord = codes "not-a-word"
code_name kind.NoHome = codes "no-home"
code_name kind.BadRefspec = codes "bad-refspec"
code_name kind.BadBranch = codes "bad-branch"
code_name kind.BadCommand = codes "bad-command"
code_name kind.LikeAnOption = codes "like-an-option"
code_name kind.OtherValue = codes "other-value"
code_name kind.NoValue = codes "no-value"
code_name kind.MissingSetting = codes "missing-setting"
code_name kind.UnknownKey = codes "unknown-key"
code_name kind.TooNew = codes "too-new"
code_name kind.Gone = codes "gone"
code_name kind.Deprecated = codes "deprecated"
code_name kind.NotCanonical = codes "not-canonical"
code_name kind.InvalidLine = codes "invalid-line"
code_name kind.IncludeLoop = codes "include-loop"
code_name kind.IncludeDepth = codes "include-depth"
code_name kind.IncludePath = codes "include-path"
code_name kind.MissingFile = codes "missing-file"
code_name kind.UnknownCondition = codes "unknown-condition"
code_name kind.EndlessAlias = codes "endless-alias"
code_name kind.SubmoduleName = codes "submodule-name"

-- the code of a value that a reader refuses
abbrev pub code_of_fault : Fault → Code
code_of_fault faults.Boolean = kind.BadBoolean
code_of_fault faults.Integer = kind.BadInteger
code_of_fault faults.Overflow = kind.OutOfRange
code_of_fault faults.OutOfRange = kind.OutOfRange
code_of_fault faults.Color = kind.BadColor

-- the code of a text that has not this shape
abbrev pub code_of_shape : Shape → Code
code_of_shape shapes.FetchRefspec = kind.BadRefspec
code_of_shape shapes.PushRefspec = kind.BadRefspec
code_of_shape shapes.Branch = kind.BadBranch
code_of_shape shapes.Command = kind.BadCommand
code_of_shape shapes.NoOption = kind.LikeAnOption
code_of_shape shapes.ColorsByAge = kind.BadColor

-- the code of a reason
abbrev pub code_of : Reason → Code
code_of NoValue = kind.NoValue
code_of (Refused fault) = code_of_fault fault
code_of (OutOfRange low high) = kind.OutOfRange
code_of (NoWord list meant) = kind.NotAWord
code_of NoHome = kind.NoHome
code_of (Misshapen shape) = code_of_shape shape
code_of (IsNot wanted) = kind.OtherValue
code_of (TooNew since) = kind.TooNew
code_of (Gone until) = kind.Gone
code_of (Deprecated word) = kind.Deprecated
code_of (Outdated word) = kind.Deprecated
code_of (NotCanonical canonical) = kind.NotCanonical
code_of (OtherCase word) = kind.NotCanonical
