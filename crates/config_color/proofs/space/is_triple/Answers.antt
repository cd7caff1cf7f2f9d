use Rattle.std.proofs.Common.{arith}
use Rattle.std.proofs.lemmas.Bool.Decides.{nat_tests}
use Rattle.config_color.specs.Laws.Space.{triple_bytes, bytes_triple}
use Rattle.config_color.proofs.space.is_triple.Goals as goal

pub returns-in-225-eq154 : goal.returns-in-225-eq154
returns-in-225-eq154 c = (
  λ h. bytes_triple c.args.first c.args.second c.args.third (grind (arith, nat_tests)),
  λ h. let k = triple_bytes c.args.first c.args.second c.args.third h in grind (arith, nat_tests),
)

pub returns-in-226-eq129 : goal.returns-in-226-eq129
returns-in-226-eq129 c = (
  λ h. bytes_triple c.args.first c.args.second c.args.third (grind (arith, nat_tests)),
  λ h. let k = triple_bytes c.args.first c.args.second c.args.third h in grind (arith, nat_tests),
)

pub returns-in-227-eq128 : goal.returns-in-227-eq128
returns-in-227-eq128 c = (
  λ h. bytes_triple c.args.first c.args.second c.args.third (grind (arith, nat_tests)),
  λ h. let k = triple_bytes c.args.first c.args.second c.args.third h in grind (arith, nat_tests),
)

pub returns-in_default : goal.returns-in_default
returns-in_default c = (λ h. cc, λ h. let k = triple_bytes _ _ _ h in grind arith)

pub returns-in_default-2 : goal.returns-in_default-2
returns-in_default-2 c = (λ h. cc, λ h. let k = triple_bytes _ _ _ h in grind arith)

pub returns-in_default-3 : goal.returns-in_default-3
returns-in_default-3 c = (λ h. cc, λ h. let k = triple_bytes _ _ _ h in grind arith)

pub returns-in_default-4 : goal.returns-in_default-4
returns-in_default-4 c = (λ h. cc, λ h. let k = triple_bytes _ _ _ h in grind arith)
