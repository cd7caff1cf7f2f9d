use Rattle.std.proofs.Common.{map, take}
use Rattle.config_file.specs.Settings.{AreListed, AreSubsections}
use Rattle.config_file.proofs.settings.Settings.subsections.Given as goal

abbrev pub invariant-loop-setting : goal.invariant-loop-setting
invariant-loop-setting l = AreListed l.fn.self.entries.items
    → AreSubsections l.fn.section (take l.setting-index l.fn.self.entries.items) (map (λ text. text.items) l.found.items)
