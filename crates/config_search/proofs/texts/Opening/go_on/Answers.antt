use Rattle.std.proofs.Common.{refl}
use Rattle.config_search.proofs.OpenedTexts.{counts_more, opens_command, stops_there}
use Rattle.config_search.proofs.texts.Opening.go_on.Goals.{in-Ok-command_in+in_ok-push-in-Ok-command_in}
use Rattle.config_search.proofs.texts.Opening.go_on.Goals.{in-Err-command_in+in-Ok-into_stop-2}
use Rattle.config_search.proofs.texts.Opening.go_on.Goals as goal

pub returns-in-Ok-into_stop-clause-opens : goal.returns-in-Ok-into_stop-clause-opens
returns-in-Ok-into_stop-clause-opens c = λ system start files agrees opening. stops_there system start files
    c.args.self.now c.requires opening c.end.new.self c.in-Ok-into_stop.stop c.end.ensures.list
    c.end.ensures.stop
    c.end.ensures.whole (rw c.in-Ok-into_stop.ensures.same at c.in-Err.ensures.stops)

pub returns-in-Ok-clause-opens : goal.returns-in-Ok-clause-opens
returns-in-Ok-clause-opens c = λ system start files agrees opening. counts_more system start files
    c.args.self.now c.requires
    opening c.push_next.new.self (c.in-Ok.ensures.counts system agrees)

pub returns-clause-opens : goal.returns-clause-opens
returns-clause-opens c = λ system start files agrees opening. elim c.match-command_in.branch [
  | in-Ok-command_in+in_ok-push-in-Ok-command_in w ↦ opens_command system start files c.args.self.now
      c.requires opening
      c.match-command_in.self w.in-Ok-command_in.command.now w.source_of_command.result
      (λ counting. w.in-Ok-command_in.ensures.text system agrees counting
      (c.is_whole.ensures.whole c.if-not-is_whole.false))
      (rw w.self-is w.in_ok-push-in-Ok-command_in.ensures.pushed) (rw w.self-is refl) (rw w.self-is refl)
      w.source_of_command.ensures.text (w.source_of_command.ensures.dir system start)
  | in-Err-command_in+in-Ok-into_stop-2 w ↦ stops_there system start files c.args.self.now c.requires opening
      c.match-command_in.self w.in-Ok-into_stop-2.stop (rw w.self-is w.end-in-Ok-into_stop-2.ensures.list)
      (rw w.self-is w.end-in-Ok-into_stop-2.ensures.stop) (rw w.self-is w.end-in-Ok-into_stop-2.ensures.whole)
      (rw w.in-Ok-into_stop-2.ensures.same at w.in-Err-command_in.ensures.stops)
]
