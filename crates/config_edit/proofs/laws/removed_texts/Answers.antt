use Rattle.config_edit.proofs.SectionTexts.{alone_removed, both_removed, between_removed, not_absent}
use Rattle.config_edit.proofs.laws.removed_texts.Goals as goal

pub returns-clause-alone : goal.returns-clause-alone
returns-clause-alone c = alone_removed

pub returns-clause-both : goal.returns-clause-both
returns-clause-both c = both_removed

pub returns-clause-between : goal.returns-clause-between
returns-clause-between c = between_removed

pub returns-clause-not_absent : goal.returns-clause-not_absent
returns-clause-not_absent c = not_absent
