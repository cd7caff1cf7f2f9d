use Rattle.std.proofs.Common.{map, take}
use Rattle.config_file.specs.KeyView.{key_of}
use Rattle.config_file.specs.Settings.{AreListed, AllWithKey}
use Rattle.config_file.proofs.settings.Settings.all.Given as goal

abbrev pub invariant-loop-setting : goal.invariant-loop-setting
invariant-loop-setting l = AreListed l.fn.self.entries.items
    → AllWithKey (key_of l.fn.key) (take l.setting-index l.fn.self.entries.items) (map (λ s. s.now) l.all.items)
