use Rattle.config_word.specs.Laws.Item.{known_reads}
use Rattle.config_word.proofs.attribute.attribute_of.Goals as goal

pub returns-in-Attribute : goal.returns-in-Attribute
returns-in-Attribute c = rw (c.in_ok-attribute.was, c.in-Attribute.is)
    at (known_reads _ c.known_word.result c.known_word.ensures)

pub returns-in-Name : goal.returns-in-Name
returns-in-Name c = rw (c.in_ok-attribute.was, c.in-Name.is)
    at (known_reads _ c.known_word.result c.known_word.ensures)

pub returns-in_err-attribute : goal.returns-in_err-attribute
returns-in_err-attribute c =
    rw c.from_residual.ensures (rw c.in_err-attribute.was
    at (known_reads _ c.known_word.result c.known_word.ensures))
