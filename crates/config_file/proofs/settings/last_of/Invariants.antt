use Rattle.std.proofs.Common.{◌≤◌, length}
use Rattle.std.specs.List.{AllWithin}
use Rattle.config_file.specs.Key.{HasKey}
use Rattle.config_file.specs.KeyView.{key_of}
use Rattle.config_file.specs.Settings.{AreListed}
use Rattle.config_file.specs.Views.{entry_of}
use Rattle.config_file.proofs.settings.last_of.Given as goal

abbrev pub invariant-settings : goal.invariant-settings
invariant-settings l = (l.index ≤ length l.settings) × (AreListed l.settings
    → AllWithin (λ later. ¬ (HasKey (entry_of later.entry) (key_of l.key))) l.settings l.index (length l.settings))

abbrev pub decreases-settings : goal.decreases-settings
decreases-settings l = l.index
