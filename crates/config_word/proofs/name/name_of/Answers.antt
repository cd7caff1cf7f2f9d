use Rattle.config_word.specs.Laws.Item.{reads_name}
use Rattle.config_word.proofs.name.name_of.Goals as goal

pub returns-in-Name : goal.returns-in-Name
returns-in-Name c = rw (c.in_ok-name.was, c.in-Name.is) at (reads_name _ c.word.result c.word.ensures)

pub returns-in-Attribute : goal.returns-in-Attribute
returns-in-Attribute c = rw (c.in_ok-name.was, c.in-Attribute.is)
    at (reads_name _ c.word.result c.word.ensures)

pub returns-in_err-name : goal.returns-in_err-name
returns-in_err-name c = rw c.from_residual.ensures
    (rw c.in_err-name.was at (reads_name _ c.word.result c.word.ensures))
