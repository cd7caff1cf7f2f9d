use Rattle.std.proofs.Common.{rules}
use Rattle.uses.proofs.SettingLemmas.{read_none, loop_more, loop_stops}
use Rattle.uses.proofs.setting_headline.read_all.Goals as goal

pub loop-file-init : goal.loop-file-init
loop-file-init g c = read_none _ _ _ c.new-settings.ensures

pub loop-file-preserved : goal.loop-file-preserved
loop-file-preserved g c = loop_more (g.F.Files.contents c.args.files.now) c.args.known.now c.args.first.now
    c.loop-file.file-index _ c.loop-file.settings.entries.items c.add_with_includes.new.self.entries.items
    (search rules) c.loop-file.invariant (rw c.in-Ok.is at c.add_with_includes.ensures.adds)

pub returns-in-Err : goal.returns-in-Err
returns-in-Err g c = loop_stops (g.F.Files.contents c.args.files.now) c.args.known.now c.args.first.now
    c.loop-file.file-index _ c.loop-file.settings.entries.items c.add_with_includes.new.self.entries.items
    c.in-Err.error (search rules) c.loop-file.invariant (rw c.in-Err.is at c.add_with_includes.ensures.adds)
