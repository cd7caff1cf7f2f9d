use Rattle.std.proofs.Common.{ap}
use Rattle.config_color.specs.Escape.{escape_sequence}
use Rattle.config_color.specs.Laws.Color.{color_one_value}
use Rattle.config_color.proofs.laws.colors.one_sequence.Goals as goal

pub returns : goal.returns
returns c = λ one other text p q. ap escape_sequence (color_one_value text one other p.reads_to q.reads_to)
