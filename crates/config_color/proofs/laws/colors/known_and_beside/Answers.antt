use Rattle.config_color.specs.Laws.ColorShown.{color_has_text}
use Rattle.config_color.proofs.laws.colors.known_and_beside.Goals as goal

pub returns : goal.returns
returns c = color_has_text
