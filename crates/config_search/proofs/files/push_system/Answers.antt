use Rattle.std.proofs.Common.{inr, ap}
use Rattle.config_file.specs.declared.scope.Scope.TheVariants.{System as of_system}
use Rattle.config_search.specs.Files.{file}
use Rattle.config_search.proofs.files.push_system.Goals as goal

pub returns : goal.returns
returns c = λ system agrees. (
  file of_system c.in_ok-name.name.items,
  inr (rw c.if-branch.false at c.in_ok-is_on.ensures system agrees, ap (file of_system) (c.in_ok-name.ensures system agrees)),
  c.in_ok-push.ensures,
)
