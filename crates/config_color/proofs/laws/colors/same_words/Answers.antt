use Rattle.config_color.specs.Laws.Composition.{same_words}
use Rattle.config_color.proofs.laws.colors.same_words.Goals as goal

pub returns : goal.returns
returns c = same_words
