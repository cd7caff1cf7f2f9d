use Rattle.config_edit.proofs.SectionTexts.{in_comment, both_renamed, with_subsection, not_absent}
use Rattle.config_edit.proofs.laws.renamed_texts.Goals as goal

pub returns-clause-comment : goal.returns-clause-comment
returns-clause-comment c = in_comment

pub returns-clause-both : goal.returns-clause-both
returns-clause-both c = both_renamed

pub returns-clause-subsection : goal.returns-clause-subsection
returns-clause-subsection c = with_subsection

pub returns-clause-not_absent : goal.returns-clause-not_absent
returns-clause-not_absent c = λ refused. not_absent refused.1
