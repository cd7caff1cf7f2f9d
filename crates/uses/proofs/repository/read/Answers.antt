use Rattle.std.specs.Prelude.{Ok}
use Rattle.uses.proofs.repository.read.Goals as goal

pub loop-file-init : goal.loop-file-init
loop-file-init c = rw c.new-settings.ensures c.added_are_listed.ensures.none

pub loop-file-preserved : goal.loop-file-preserved
loop-file-preserved c = c.added_are_listed.ensures.file _ _ c.loop-file.settings.entries.items
    c.add_file.new.self.entries.items (Ok tt) (rw c.in_ok-add_file.was at c.add_file.ensures.adds) c.loop-file.invariant
