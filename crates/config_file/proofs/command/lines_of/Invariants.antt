use Rattle.std.proofs.Common.{List, ◌++◌, length}
use Rattle.config_file.specs.declared.command.CommandError.{CommandError}
use Rattle.config_file.specs.Command.{KeyValue, SettingsOf, AddsSettings, RefusesParameters}
use Rattle.config_file.proofs.command.lines_of.Given as goal

abbrev pub invariant-parameters : goal.invariant-parameters
invariant-parameters l =
    record {
      done : (settings : List KeyValue) × AddsSettings l.lines.items settings
          × ((more : List KeyValue) → SettingsOf l.at more → SettingsOf l.parameters (settings ++ more));
      refused : (error : CommandError) → RefusesParameters l.at error → RefusesParameters l.parameters error;
    }

abbrev pub decreases-parameters : goal.decreases-parameters
decreases-parameters l = length l.at
