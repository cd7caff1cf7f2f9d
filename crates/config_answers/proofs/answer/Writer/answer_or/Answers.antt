use Rattle.std.proofs.Common.{refl, inr}
use Rattle.config_answers.specs.Types.{Shows}
use Rattle.config_answers.proofs.LineLemmas.{IsAnswerOf, default_answer, other_answer}
use Rattle.config_answers.proofs.answer.Writer.answer_or.Goals.{in-Missing, in-Refused, in_default-2}
use Rattle.config_answers.proofs.answer.Writer.answer_or.Goals as goal

pub returns : goal.returns
returns g c = λ settings so_far.
    let values = c.args.values.now in
    let shows = Shows (g.H.Host.dates values.host) (g.H.Host.is_there values.host) values.homes values.shown in
    let answer = c.match-branch-2.result in
    let outcome = c.in_ok-put.field-0 in
    let absent = rw c.in-Absent-Some.is-0 at so_far in
    let is : IsAnswerOf outcome answer = elim c.match-branch-2.branch [
      | in-Missing w ↦ rw w.in-Missing.is w.result-is
      | in-Refused w ↦ rw w.in-Refused.is w.result-is
      | in_default-2 w ↦
          other_answer outcome answer w.in_default-2.not-Missing w.in_default-2.not-Refused w.result-is
    ] in
    rw c.in-Absent-Some.is-1 (inr (
      absent.0,
      default_answer shows c.args.self.now.form c.args.key.now
          c.in-Absent-Some.default.now c.args.self.now.output.items c.put.new.self.output.items _ answer outcome
          (refl, refl, refl, refl) absent.1 is (c.in_ok-put.ensures.puts c.args.key.now refl),
    ))
