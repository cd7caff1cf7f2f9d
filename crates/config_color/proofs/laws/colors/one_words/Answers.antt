use Rattle.config_color.specs.Laws.Split.{one_words}
use Rattle.config_color.proofs.laws.colors.one_words.Goals as goal

pub returns : goal.returns
returns c = one_words
