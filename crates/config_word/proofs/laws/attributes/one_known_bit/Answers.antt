use Rattle.config_word.specs.Laws.Attribute.{attribute_has_text}
use Rattle.config_word.proofs.laws.attributes.one_known_bit.Goals as goal

pub returns : goal.returns
returns c = attribute_has_text
