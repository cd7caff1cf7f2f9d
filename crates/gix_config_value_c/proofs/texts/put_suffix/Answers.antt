use Rattle.std.proofs.Common.{refl, sym, inl, ◌∙◌, ◌≡◌}
use Rattle.config_text.specs.Laws.Value.{means_shown}
use Rattle.config_integer.specs.contracts.suffix.SuffixValue.TheImpl.Laws as suffix
use Rattle.gix_config_value.specs.declared.kind.Kind.TheVariants as kinds
use Rattle.gix_config_value_c.specs.Buffers.AnswersText.{put, none}
use Rattle.gix_config_value_c.proofs.texts.put_suffix.Goals as goal

pub returns-in-Ok : goal.returns-in-Ok
returns-in-Ok c =
    let same : c.as_bytes.result.now ≡ c.text.result.bytes = c.as_bytes.ensures.value ∙ c.as_str.ensures.value in
    let means = means_shown suffix.one_value-law suffix.one_text-law suffix.shown_is_text-law c.args.text.now c.in-Ok.suffix (rw c.new.ensures at c.in-Ok.ensures) in
    put c.text.result.bytes (kinds.Suffix, refl, (c.in-Ok.suffix, rw (sym c.text.ensures.shown) at means)) (rw same at c.put.ensures)

pub returns-in-Err : goal.returns-in-Err
returns-in-Err c = none (inl (refl, (kinds.Suffix, refl, rw c.new.ensures at c.in-Err.ensures.1))) refl refl
