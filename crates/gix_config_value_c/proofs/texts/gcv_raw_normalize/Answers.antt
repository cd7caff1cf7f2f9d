use Rattle.std.proofs.Common.{◌≡◌, ◌∙◌}
use Rattle.gix_config_value_c.specs.Buffers.AnswersText.{put}
use Rattle.gix_config_value_c.proofs.texts.gcv_raw_normalize.Goals as goal

pub returns : goal.returns
returns c =
    let same : c.as_bytes.result.now ≡ c.normalize_into.new.text.bytes = c.as_bytes.ensures.value ∙ c.as_str.ensures.value in
    let found = rw c.new.ensures at c.if-not-normalize_into.ensures.text in
    put c.normalize_into.new.text.bytes (c.in-Some.kind, c.in-Some.ensures, found) (rw same at c.put.ensures)
