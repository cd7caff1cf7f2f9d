use Rattle.std.proofs.Common.{refl}
use Rattle.config_word.specs.Name.{name_shown}
use Rattle.gix_config_value_c.specs.Buffers.AnswersText.{put}
use Rattle.gix_config_value_c.proofs.shown.gcv_raw_show_name.Goals as goal

pub returns : goal.returns
returns c = put (name_shown c.in-Some.name) (c.in-Some.name, c.in-Some.ensures, refl) c.put_name.ensures
