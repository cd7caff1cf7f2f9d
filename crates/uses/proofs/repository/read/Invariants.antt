use Rattle.config_file.specs.Settings.{AreListed}
use Rattle.uses.proofs.repository.read.Given as goal

abbrev pub invariant-loop-file : goal.invariant-loop-file
invariant-loop-file l = AreListed l.settings.entries.items
