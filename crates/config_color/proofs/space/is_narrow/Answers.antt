use Rattle.std.proofs.Common.{refl, arith}
use Rattle.config_color.specs.Laws.Space.{narrow_bytes, bytes_narrow}
use Rattle.config_color.proofs.space.is_narrow.Goals as goal

pub returns-in_default : goal.returns-in_default
returns-in_default c = (λ h. cc, λ h. let k = narrow_bytes c.args.first h in grind arith)

pub returns-in_default-2 : goal.returns-in_default-2
returns-in_default-2 c = (λ h. cc, λ h. let k = narrow_bytes c.args.first h in grind arith)

pub returns-in-9-to-13 : goal.returns-in-9-to-13
returns-in-9-to-13 c = (λ _. bytes_narrow c.args.first (grind arith), λ _. refl)

pub returns-in-9-to-13-2 : goal.returns-in-9-to-13-2
returns-in-9-to-13-2 c = (λ _. bytes_narrow c.args.first (grind arith), λ _. refl)
