use Rattle.std.proofs.Common.{◌∙◌, List, rules, subst, sym}
use Rattle.config_search.proofs.Handings.{more_opened, opened_as}
use Rattle.config_search.proofs.RoundSteps.{some_of}
use Rattle.config_search.specs.Folder.{start_by}
use Rattle.config_search.specs.Reading.{InRounds}
use Rattle.config_search.specs.Reads.{ReadEntry}
use Rattle.config_search.proofs.state.move_opens.Goals as goal

pub returns-in-Ok-clause-keeps : goal.returns-in-Ok-clause-keeps
returns-in-Ok-clause-keeps c = λ system folder asked read agrees fits knows goes (none, opening).
    rw c.to.ensures.same (
      none,
      more_opened system asked c.args.answer.now c.args.opening c.go_on.new.self c.if-not-opening.true
          (λ start files. c.in-Ok.ensures.opens system start files agrees) opening,
    )

pub returns-in-Err-clause-keeps : goal.returns-in-Err-clause-keeps
returns-in-Err-clause-keeps c = λ system folder asked read agrees fits knows goes (none, opening).
    rw c.stays.ensures.same (
      none,
      more_opened system asked c.args.answer.now c.args.opening c.go_on.new.self c.if-not-opening.true
          (λ start files. c.in-Err.ensures.opens system start files agrees) opening,
    )

pub returns-in-Ok-known_at-clause-keeps : goal.returns-in-Ok-known_at-clause-keeps
returns-in-Ok-known_at-clause-keeps c = λ system folder asked read agrees fits knows goes (none, opening).
    let (opened, are, dirs, ends) = opened_as system folder asked c.args.answer.now c.args.opening
    (search rules) knows goes opening in
    rw c.to-in-Ok-known_at.ensures.same (record {
      opened = opened;
      are_asked = rw c.new-rounds.ensures.texts are;
      are_right = (rw c.new-rounds.ensures.texts dirs, rw c.new-rounds.ensures.texts ends);
      is_known = λ includes. rw c.new-rounds.ensures.known (c.in-Ok-known_at.ensures system folder agrees knows goes
          (rw c.deref.ensures.value (some_of c.args.opening.texts.list.items
          ∙ (rw c.new-rounds.ensures.texts at includes))));
      in_rounds = subst (λ (r : List ReadEntry). InRounds system (start_by asked c.args.answer.now)
          c.new-rounds.result opened r) (sym none) (c.new-rounds.ensures.begins system
          (start_by asked c.args.answer.now) opened);
    })
