use Rattle.std.proofs.Common.{rules}
use Rattle.gix_config_value_c.specs.Buffers.AnswersText.{put}
use Rattle.gix_config_value_c.proofs.shown.gcv_raw_show_boolean.Goals as goal

pub returns : goal.returns
returns c =
    put c.as_bytes.result.now ((record { 0 = c.in-Some.flag }), c.in-Some.ensures, search rules) c.put.ensures
