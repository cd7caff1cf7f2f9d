use Rattle.std.proofs.Common.{rules}
use Rattle.config_file.proofs.Steps.{enters}
use Rattle.config_file.proofs.walk.Walk.enter.Goals as goal

pub returns-clause-entered : goal.returns-clause-entered
returns-clause-entered c = λ is.
    enters _ _ c.args.place c.args.text.now c.new.result c.new.ensures.section c.new.ensures.begins (search rules)
