use Rattle.std.proofs.Common.{refl}
use Rattle.config_word.specs.Attribute.{attributes}
use Rattle.config_word.proofs.attribute.shown_words.Goals as goal

pub returns-clause-words : goal.returns-clause-words
unfolding attributes
returns-clause-words c = refl

pub returns-clause-opposites : goal.returns-clause-opposites
unfolding attributes
returns-clause-opposites c = refl
