use Rattle.std.proofs.Common.{subst, IsTrue, ◌↔◌, ◌∙◌}
use Rattle.config_text.specs.SameWord.{SameWord}
use Rattle.config_checks.proofs.fix.are_several.Goals as goal

pub returns : goal.returns
returns c =
    subst (λ t. IsTrue c.is_same_word.result ↔ SameWord t c.args.several.now) (c.deref.ensures.value
    ∙ c.in_ok-word.ensures)
    c.is_same_word.ensures
