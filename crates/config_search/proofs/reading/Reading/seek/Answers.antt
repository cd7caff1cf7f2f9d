use Rattle.std.proofs.Common.{rules}
use Rattle.config_search.proofs.Handings.{found_here}
use Rattle.config_search.proofs.reading.Reading.seek.Goals as goal

pub returns-in-Ok-clause-keeps : goal.returns-in-Ok-clause-keeps
returns-in-Ok-clause-keeps c = λ system asked read agrees is. rw c.next.ensures.same (found_here system asked
    c.args.self.now read c.in-Ok.answer (c.needs_answer.ensures.unopened (search rules)) is (c.in-Ok.ensures.answers system agrees))
