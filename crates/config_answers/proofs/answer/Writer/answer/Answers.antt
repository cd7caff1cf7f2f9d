use Rattle.std.proofs.Common.{arith}
use Rattle.config_answers.specs.Types.{Shows}
use Rattle.config_answers.proofs.LineLemmas.{later, missing_next, written_next}
use Rattle.config_answers.proofs.answer.Writer.answer.Goals as goal

pub returns-in-Refused-clause-answers : goal.returns-in-Refused-clause-answers
returns-in-Refused-clause-answers g c = λ listed settings so_far.
    let values = c.args.values.now in
    let shows = Shows (g.H.Host.dates values.host) (g.H.Host.is_there values.host) values.homes values.shown in
    rw c.in-Refused.is (later shows c.args.self.now.unfiled c.args.self.now.form settings c.in-Refused.field-0
    c.args.setting c.args.self.now.output.items (rw c.in-Refused.is at so_far))

pub returns-in-Missing : goal.returns-in-Missing
returns-in-Missing g c = record {
  answers = λ listed settings so_far.
      let values = c.args.values.now in
      let shows = Shows (g.H.Host.dates values.host) (g.H.Host.is_there values.host) values.homes values.shown in
      let (key, is) = listed 0 c.args.setting (omega arith) in
      missing_next shows c.args.self.now.unfiled c.args.self.now.form settings c.args.setting c.args.self.now.output.items
      c.put_setting.new.self.output.items c.args.answer.now c.in_default.not-Refused so_far
      (rw c.in-Missing.is at (c.in_ok-put_setting.ensures.puts key is));
  form = c.put_setting.ensures.form;
  unfiled = c.put_setting.ensures.unfiled;
}

pub returns-in_default-2 : goal.returns-in_default-2
returns-in_default-2 g c = record {
  answers = λ listed settings so_far.
      let values = c.args.values.now in
      let shows = Shows (g.H.Host.dates values.host) (g.H.Host.is_there values.host) values.homes values.shown in
      let (key, is) = listed 0 c.args.setting (omega arith) in
      written_next shows c.args.self.now.unfiled c.args.self.now.form settings c.args.setting c.args.self.now.output.items
      c.put_setting.new.self.output.items c.args.answer.now c.in_ok-put_setting.field-0 c.in_default-2.not-Missing
      c.in_default-2.not-Refused c.in_default.not-Refused so_far (c.in_ok-put_setting.ensures.puts key is);
  form = c.put_setting.ensures.form;
  unfiled = c.put_setting.ensures.unfiled;
}
