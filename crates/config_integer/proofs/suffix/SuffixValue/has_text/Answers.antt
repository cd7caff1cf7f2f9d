use Rattle.std.proofs.Common.{refl}
use Rattle.config_integer.specs.Laws.Suffix.{suffix_has_text}
use Rattle.config_integer.proofs.suffix.SuffixValue.has_text.Goals as goal

pub returns : goal.returns
returns c = (λ _. suffix_has_text c.args.self.now, λ _. refl)
