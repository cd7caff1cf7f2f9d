use Rattle.std.proofs.Common.{Some, None}
use Rattle.config_file.proofs.Commands.{pair_pushed}
use Rattle.config_file.proofs.command.push_pair.Goals as goal

pub returns-in-Some : goal.returns-in-Some
returns-in-Some c =
    let pushes = rw c.deref.ensures.value at c.push_setting.ensures in
    rw c.in-Some.is
    (pair_pushed c.args.key.now c.args.lines.now.items c.push_setting.new.text.items (Some c.in-Some.value.items) c.push_setting.result pushes)

pub returns-in-None : goal.returns-in-None
returns-in-None c =
    rw c.in-None.is
    (pair_pushed c.args.key.now c.args.lines.now.items c.push_setting-in-None.new.text.items None c.push_setting-in-None.result c.push_setting-in-None.ensures)
