use Rattle.std.proofs.Common.{rules}
use Rattle.gix_config_value_c.specs.Buffers.AnswersText.{put}
use Rattle.gix_config_value_c.proofs.shown.gcv_raw_escape_color.Goals as goal

pub returns : goal.returns
returns c = put c.as_bytes.result.now (c.in-Some.color, c.in-Some.ensures, search rules) c.put.ensures
