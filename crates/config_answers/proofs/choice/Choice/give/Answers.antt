use Rattle.std.proofs.Common.{rules}
use Rattle.config_file.specs.Views.{entry_of}
use Rattle.config_answers.specs.Choices.{choice_of}
use Rattle.config_answers.proofs.GivenLemmas.{given_ok}
use Rattle.config_answers.proofs.choice.Choice.give.Goals as goal

pub returns-clause-gives : goal.returns-clause-gives
returns-clause-gives g c = given_ok g.R.Receiver.receives (choice_of c.args.self.now)
    (choice_of c.has_key.new.self) c.args.scope (c.args.file.now, entry_of c.args.entry.now) c.args.receiver.now
    c.give_value.new.receiver c.give_value.result c.has_key.ensures.same
    (λ listed lists. (c.in_ok-has_key.ensures.has listed lists).0 (search rules)) c.give_value.ensures.gives
