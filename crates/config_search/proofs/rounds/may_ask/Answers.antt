use Rattle.std.proofs.Common.{◌∙◌}
use Rattle.config_search.proofs.RoundSteps.{some_of}
use Rattle.config_search.proofs.rounds.may_ask.Goals as goal

pub returns-in-AsGit : goal.returns-in-AsGit
returns-in-AsGit c = rw c.in-AsGit.is (c.some_include.ensures ∙ some_of c.args.texts.now)
