use Rattle.config_edit.specs.Edit.{of_front, of_text, of_none}
use Rattle.config_edit.proofs.setting.line_end_at.Goals as goal

pub returns-in-Some : goal.returns-in-Some
returns-in-Some c = of_front c.in-Some.ensures

pub returns-in-Some-last_line_end : goal.returns-in-Some-last_line_end
returns-in-Some-last_line_end c = of_text c.in-None.ensures c.in-Some-last_line_end.ensures

pub returns-in-None-last_line_end : goal.returns-in-None-last_line_end
returns-in-None-last_line_end c = of_none c.in-None-last_line_end.ensures
