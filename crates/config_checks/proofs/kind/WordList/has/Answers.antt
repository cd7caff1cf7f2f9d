use Rattle.config_checks.proofs.WordLemmas.{no_first}
use Rattle.config_checks.proofs.kind.WordList.has.Goals as goal

pub returns-in-None : goal.returns-in-None
returns-in-None c = (λ no. absurd (cc), λ word. absurd (no_first _ _ c.in-None.ensures word.0 word.1))
