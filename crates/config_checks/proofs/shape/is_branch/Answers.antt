use Rattle.std.proofs.Common.{subst, IsTrue, ◌↔◌, ◌∙◌}
use Rattle.config_checks.specs.Shapes.{IsName}
use Rattle.config_checks.proofs.shape.is_branch.Goals as goal

pub returns : goal.returns
returns c = subst (λ t. IsTrue c.is_name.result ↔ IsName t) (c.deref.ensures.value
    ∙ c.in_ok-name.ensures) c.is_name.ensures
