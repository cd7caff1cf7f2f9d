use Rattle.std.proofs.Common.{refl, arith}
use Rattle.std.proofs.lemmas.Bool.Decides.{nat_tests}
use Rattle.config_color.specs.Laws.Space.{double_bytes, bytes_double}
use Rattle.config_color.proofs.space.is_double.Goals as goal

pub returns-in-133 : goal.returns-in-133
returns-in-133 c = (
  λ _. bytes_double c.args.first c.args.second (grind (arith, nat_tests)) (grind arith),
  λ _. refl,
)

pub returns-in_default : goal.returns-in_default
returns-in_default c = (λ h. cc, λ h. let k = double_bytes c.args.first c.args.second h in grind arith)

pub returns-else-first-eq194 : goal.returns-else-first-eq194
returns-else-first-eq194 c = (
  λ h. absurd (c.if-first-eq194.false (grind (arith, nat_tests))),
  λ h. absurd (c.if-first-eq194.false (double_bytes c.args.first c.args.second h).0),
)
