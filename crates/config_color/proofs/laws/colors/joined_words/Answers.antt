use Rattle.config_color.specs.Laws.Split.{joined_words}
use Rattle.config_color.proofs.laws.colors.joined_words.Goals as goal

pub returns : goal.returns
returns c = joined_words
