use Rattle.config_edit.proofs.SectionLaws.{one_renamed, one_removed}
use Rattle.config_edit.proofs.laws.one_text_of_sections.Goals as goal

pub returns-clause-renamed : goal.returns-clause-renamed
returns-clause-renamed c = one_renamed

pub returns-clause-removed : goal.returns-clause-removed
returns-clause-removed c = one_removed
