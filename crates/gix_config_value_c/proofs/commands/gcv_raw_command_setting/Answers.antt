use Rattle.gix_config_value_c.specs.Buffers.AnswersText.{put}
use Rattle.gix_config_value_c.proofs.AddedLines.{alone}
use Rattle.gix_config_value_c.proofs.commands.gcv_raw_command_setting.Goals as goal

pub returns-in-Ok : goal.returns-in-Ok
returns-in-Ok c =
    put c.deref.result.now (alone _ _ _ _ c.new-lines.ensures.items c.deref.ensures.value c.in-Ok.ensures) c.put.ensures
