-- A setting of a repository, with its default.
use Rattle.std.specs.Prelude.{List, Bool, false, Option, None, Some, Result, codes}
use Rattle.config_boolean.specs.Boolean.{BooleanText}
use Rattle.config_boolean.specs.declared.boolean.Boolean.{Boolean}
use Rattle.config_text.specs.Refusals.{OnlyFault}
use Rattle.config_text.specs.declared.errors.Fault.TheVariants as faults
use Rattle.config_file.specs.declared.settings.GetError.{GetError}
use Rattle.config_file.specs.declared.settings.Setting.{Setting}
use Rattle.config_file.specs.Settings.{Gets}

-- the value of a boolean, or false if there is no boolean
abbrev pub or_false : Option Boolean → Bool
or_false None = false
or_false (Some boolean) = boolean.0

abbrev pub GetsBare : List Setting → Result (Option Boolean) GetError → Type 0
GetsBare settings result = Gets BooleanText (OnlyFault faults.Boolean) settings (codes "core.bare") result
