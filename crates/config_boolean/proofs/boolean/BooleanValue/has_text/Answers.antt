use Rattle.std.proofs.Common.{refl}
use Rattle.config_boolean.specs.Laws.Boolean.{boolean_has_text}
use Rattle.config_boolean.proofs.boolean.BooleanValue.has_text.Goals as goal

pub returns : goal.returns
returns c = (λ _. boolean_has_text c.args.self.now, λ _. refl)
