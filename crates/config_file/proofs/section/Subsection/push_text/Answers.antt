use Rattle.config_file.proofs.Spelled.{writes_unescaped}
use Rattle.config_file.proofs.section.Subsection.push_text.Goals as goal

pub bytes-init : goal.bytes-init
bytes-init c = λ spelled s. writes_unescaped _ c.run.ensures c.in_ok-extend_from_slice.ensures.items s
