use Rattle.config_file.proofs.OneWalk.{texts_agree, wholes_same, whole_or_begins, begins_either}
use Rattle.config_file.proofs.laws.walks.one_walk.Goals as goal

pub returns-clause-whole : goal.returns-clause-whole
returns-clause-whole g c files known place text a b one first second =
    wholes_same (texts_agree {text = text} one first second)

pub returns-clause-cut : goal.returns-clause-cut
returns-clause-cut g c files known place text a b is_whole one first second =
    whole_or_begins (texts_agree {text = text} one first second)

pub returns-clause-both : goal.returns-clause-both
returns-clause-both g c files known place text a b v w one first second =
    begins_either (texts_agree {text = text} one first second)
