use Rattle.std.proofs.Common.{◌≡◌, ◌≢◌, [], refl, rules, option_copied}
use Rattle.config_file.specs.Command.{no_key}
use Rattle.std.proofs.lemmas.List.{nil_from_length}
use Rattle.config_file.proofs.Commands.{keyless, whole_pushed, some_left}
use Rattle.config_file.proofs.command.push_whole.Goals as goal

pub returns-then-is_empty : goal.returns-then-is_empty
returns-then-is_empty c =
    let (rest, run, value) = c.cut.ensures in
    let e : c.cut.result.0.now ≡ [] = nil_from_length _ (search rules) in
    no_key (keyless run e c.deref.ensures.value) refl

pub returns : goal.returns
returns c =
    let (rest, run, value) = c.cut.ensures in
    let some : c.cut.result.0.now ≢ [] = some_left _ (search rules) in
    let here = rw c.deref.ensures.value at run in
    whole_pushed c.args.lines.now.items c.push_setting.new.text.items (option_copied c.cut.result.1)
    c.push_setting.result here value some c.push_setting.ensures
