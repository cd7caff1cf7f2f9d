use Rattle.std.proofs.Common.{rules}
use Rattle.gix_config_value_c.specs.Buffers.AnswersText.{put}
use Rattle.gix_config_value_c.proofs.faults.gcv_raw_fault_text.Goals as goal

pub returns-in-Some : goal.returns-in-Some
returns-in-Some c = put c.as_bytes.result.now (search rules) c.put.ensures
