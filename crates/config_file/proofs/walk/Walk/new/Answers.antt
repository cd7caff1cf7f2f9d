use Rattle.std.proofs.Common.{rules, []}
use Rattle.config_file.proofs.Steps.{enters}
use Rattle.config_file.proofs.walk.Walk.new.Goals as goal

pub returns : goal.returns
returns c =
    enters [] _ c.args.place c.args.text.now c.new.result c.new.ensures.section c.new.ensures.begins (search rules)
