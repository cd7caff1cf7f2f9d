use Rattle.std.proofs.Common.{refl, arith}
use Rattle.config_color.specs.Laws.Space.{triple_bytes, bytes_general}
use Rattle.config_color.proofs.space.ends_general.Goals as goal

pub returns-in_default : goal.returns-in_default
returns-in_default c = (λ h. cc, λ h. let k = triple_bytes 226 128 c.args.third h in grind arith)

pub returns-in_default-2 : goal.returns-in_default-2
returns-in_default-2 c = (λ h. cc, λ h. let k = triple_bytes 226 128 c.args.third h in grind arith)

pub returns-in_default-3 : goal.returns-in_default-3
returns-in_default-3 c = (λ h. cc, λ h. let k = triple_bytes 226 128 c.args.third h in grind arith)

pub returns-in-128-to-138 : goal.returns-in-128-to-138
returns-in-128-to-138 c = (λ _. bytes_general c.args.third (grind arith), λ _. refl)

pub returns-in-128-to-138-2 : goal.returns-in-128-to-138-2
returns-in-128-to-138-2 c = (λ _. bytes_general c.args.third (grind arith), λ _. refl)

pub returns-in-128-to-138-3 : goal.returns-in-128-to-138-3
returns-in-128-to-138-3 c = (λ _. bytes_general c.args.third (grind arith), λ _. refl)
