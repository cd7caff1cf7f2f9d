use Rattle.std.proofs.Common.{refl}
use Rattle.config_color.specs.Escape.{attribute_codes}
use Rattle.config_color.proofs.escape.code_table.Goals as goal

pub returns : goal.returns
unfolding attribute_codes
returns c = refl
