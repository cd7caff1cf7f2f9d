use Rattle.std.proofs.Common.{◌∙◌, List, Ok, subst, sym}
use Rattle.config_search.specs.Reads.{ReadEntry}
use Rattle.config_search.specs.Reading.{InRounds, KeepsRounds}
use Rattle.config_search.specs.declared.rounds.Rounds.{Rounds}
use Rattle.config_search.proofs.Phases.{begins_after, keeps_pause, same_rounds}
use Rattle.config_search.proofs.rounds.Rounds.ask.Goals.{in-Asks+in-Ok, in_default}
use Rattle.config_search.proofs.rounds.Rounds.ask.Goals as goal

pub returns-in-Err-clause-goes : goal.returns-in-Err-clause-goes
returns-in-Err-clause-goes c = keeps_pause c.args.lookup.now.facts.now c.args.start.now c.args.self.now
    c.have_condition.new.self c.set_phase.new.self c.in-Asks.conditions c.have_condition.new.conditions
    c.in-Err.pause
    (sym c.replace.ensures.value ∙ c.in-Asks.is) c.have_condition.ensures.same c.set_phase.ensures.same
    c.set_phase.ensures.round c.set_phase.ensures.phase
    (λ system opened first agrees right come have. c.in-Err.ensures.finds system opened first agrees right
    come have)

pub returns-clause-goes : goal.returns-clause-goes
returns-clause-goes c = elim c.match-replace.branch [
  | in-Asks+in-Ok w ↦ subst (λ (new : Rounds). KeepsRounds c.args.lookup.now.facts.now c.args.start.now
      c.args.self.now new
      (Ok tt)) (sym w.self-is) (
        (
          w.begin.ensures.same.0 ∙ w.have_condition.ensures.same.0,
          w.begin.ensures.same.1
              ∙ w.have_condition.ensures.same.1,
        ),
        λ system opened read agrees right are.
            let (empty, (first, come, have)) = rw (sym c.replace.ensures.value ∙ w.in-Asks.is) at are in
            subst (λ (all : List ReadEntry). InRounds system c.args.start.now w.begin.new.self opened all)
            (sym empty)
            (begins_after system c.args.start.now w.have_condition.new.self w.begin.new.self w.in-Ok.have
            w.after.result
            opened w.begin.ensures.same w.after.ensures w.begin.ensures.phase w.begin.ensures.round.0
            w.begin.ensures.round.1
            (w.in-Ok.ensures.finds system opened first agrees right come have)),
      )
  | in_default w ↦ subst (λ (new : Rounds). KeepsRounds c.args.lookup.now.facts.now c.args.start.now
      c.args.self.now new
      (Ok tt)) (sym w.self-is) (
        w.set_phase-in_default.ensures.same,
        λ system opened read agrees right are. same_rounds system c.args.start.now c.args.self.now
            w.set_phase-in_default.new.self opened read w.set_phase-in_default.ensures.same
            w.set_phase-in_default.ensures.round
            (w.set_phase-in_default.ensures.phase ∙ c.replace.ensures.value) are,
      )
]
