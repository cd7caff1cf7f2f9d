use Rattle.std.proofs.Common.{refl}
use Rattle.uses.specs.Laws.PushDefault.{push_default_has_text}
use Rattle.uses.proofs.push_default.PushDefaultValue.has_text.Goals as goal

pub returns : goal.returns
returns c = (λ _. push_default_has_text c.args.self.now, λ _. refl)
