use Rattle.config_file.proofs.OneText.{one_text}
use Rattle.config_file.proofs.laws.one_value.Goals as goal

pub returns : goal.returns
returns c raw s t e f first second = one_text first second
