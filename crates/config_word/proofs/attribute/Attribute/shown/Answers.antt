use Rattle.config_word.specs.Laws.Attribute.{attribute_shown_is_text}
use Rattle.config_word.proofs.attribute.Attribute.shown.Goals as goal

pub returns-clause-text : goal.returns-clause-text
returns-clause-text c = rw c.push_to.ensures (rw c.new-text.ensures (attribute_shown_is_text c.args.self))
