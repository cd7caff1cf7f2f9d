use Rattle.std.proofs.Common.{refl, rules, true≢false, ◌∙◌, sym, option_copied}
use Rattle.config_answers.specs.Answers.{value_of, Becomes, IsLine}
use Rattle.config_answers.specs.Lines.{line}
use Rattle.config_answers.specs.Types.{Shows}
use Rattle.config_answers.proofs.LineLemmas.{has_line, puts_line}
use Rattle.config_answers.proofs.answer.Writer.put.Goals.{in-Missing, in_default}
use Rattle.config_answers.proofs.answer.Writer.put.Goals as goal

pub returns-clause-puts : goal.returns-clause-puts
returns-clause-puts g c = λ key is.
    let values = c.args.values.now in
    let shows = Shows (g.H.Host.dates values.host) (g.H.Host.is_there values.host) values.homes values.shown in
    let value = option_copied c.args.value in
    elim c.match-matches.branch [
      | in-Missing w ↦ absurd (true≢false (sym w.matches-is ∙ c.if-matches.false))
      | in_default w ↦
          let has = has_line c.in_ok-outcome.outcome w.in_default.not-Missing w.in_default.not-Refused in
          puts_line (Becomes shows value) (IsLine shows c.args.self.now.form value c.args.place.now key)
          c.args.self.now.form.all c.args.self.now.output.items c.push_line.new.text.items
          c.in_ok-outcome.outcome has
          (line c.args.self.now.form c.args.place.now key
          (value_of c.in_ok-outcome.outcome value c.show.new.text.items))
          (record {
            outcome = c.in_ok-outcome.outcome;
            typed = c.show.new.text.items;
            shows = c.in_ok-outcome.ensures;
            has_line = has;
            is_line = refl;
          })
          (search rules)
    ]
