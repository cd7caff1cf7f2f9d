use Rattle.config_edit.proofs.SectionLaws.{removed_is_gone}
use Rattle.config_edit.proofs.laws.sections_are_gone.Goals as goal

pub returns : goal.returns
returns c = removed_is_gone
