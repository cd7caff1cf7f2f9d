use Rattle.config_color.specs.Laws.Moving.{moved_words}
use Rattle.config_color.proofs.laws.colors.moved_words.Goals as goal

pub returns : goal.returns
returns c = moved_words
