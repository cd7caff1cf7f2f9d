use Rattle.std.proofs.Common.{take}
use Rattle.uses.specs.Reading.{AreRead}
use Rattle.uses.proofs.setting_headline.read_all.Given as goal

abbrev pub invariant-loop-file : goal.invariant-loop-file
invariant-loop-file g l =
    AreRead (g.F.Files.contents l.fn.files) l.fn.known (take l.file-index l.fn.first) l.settings.entries.items
