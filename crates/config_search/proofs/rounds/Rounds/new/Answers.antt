use Rattle.std.proofs.Common.{◌∙◌, [], refl, sym, true≢false}
use Rattle.std.proofs.lemmas.List.Elements.{All-nil}
use Rattle.config_search.proofs.RoundSteps.{round_begins}
use Rattle.config_search.proofs.rounds.Rounds.new.Goals.{then-may_ask, else-may_ask}
use Rattle.config_search.proofs.rounds.Rounds.new.Goals as goal

pub returns-clause-begins : goal.returns-clause-begins
returns-clause-begins c = λ system start opened.
    let none = round_begins system start c.args.known c.args.texts.list.items c.new.result c.new.ensures.0
    c.new.ensures.1 in
    elim c.if-may_ask.branch [
      | then-may_ask w ↦ rw w.phase-is (refl, ([], none, All-nil _))
      | else-may_ask w ↦ rw w.phase-is (
        λ asks. absurd (true≢false (sym asks ∙ sym (rw c.deref.ensures.value at c.may_ask.ensures)
            ∙ w.if-may_ask.false)),
        none,
      )
    ]
