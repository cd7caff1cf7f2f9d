use Rattle.std.proofs.Common.{subst}
use Rattle.config_checks.specs.Kinds.{IsSame, begins}
use Rattle.config_checks.proofs.WordLemmas.{word_begins}
use Rattle.config_checks.proofs.kind.WordList.is_word.Goals as goal

pub returns-in-Some : goal.returns-in-Some
returns-in-Some c = (
  λ same. begins c.in-Some.front.now c.in-Some.ensures
      (subst (IsSame c.args.self.now.ignores_case c.in-Some.front.now) c.first_bytes.ensures
      (c.is_same.ensures.0 same)),
  λ word. c.is_same.ensures.1 (word_begins c.args.self.now c.args.text.now c.args.word.now c.in-Some.front.now _
      c.in-Some.ensures c.first_bytes.ensures word),
)
