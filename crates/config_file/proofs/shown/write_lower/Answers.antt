use Rattle.std.proofs.Common.{[], ◌++◌, encode_utf8, encode_utf8_all, map, sym, ap, ◌∙◌, append_assoc, rules}
use Rattle.std.proofs.Output.{has_written_append, writes_in_calls_nil}
use Rattle.std.specs.Char.{to_ascii_lowercase}
use Rattle.config_file.proofs.shown.write_lower.Goals as goal

pub loop-character-init : goal.loop-character-init
loop-character-init g c =
    λ plain. (
      [],
      record { wrote = writes_in_calls_nil _ _; plain = plain },
      ap (λ l. encode_utf8_all (map to_ascii_lowercase l)) c.chars-rest.ensures.value,
    )

pub loop-character-preserved : goal.loop-character-preserved
loop-character-preserved g c =
    λ plain.
    let now = c.loop-character.invariant plain in
    let piece = encode_utf8 (to_ascii_lowercase c.in-Some.character) in (
      now.0 ++ piece,
      has_written_append _ _ _ _ _ _ now.1 (search rules),
      append_assoc now.0 piece _
          ∙ ap (λ l. now.0 ++ encode_utf8_all (map to_ascii_lowercase l)) (sym c.in-Some.ensures.steps) ∙ now.2,
    )
