use Rattle.std.proofs.Common.{◌++◌, flat_map, sym, ap, ◌∙◌, append_assoc, rules}
use Rattle.std.proofs.Output.{has_written_append}
use Rattle.config_file.specs.Shown.{hex}
use Rattle.config_file.proofs.shown.write_hex.Goals as goal

pub bytes-preserved : goal.bytes-preserved
bytes-preserved g c =
    λ plain.
    let now = c.bytes.invariant plain in
    let b = c.in-Some.byte in (
      now.0 ++ hex b,
      has_written_append _ _ _ _ _ _ now.1 (search rules),
      append_assoc now.0 (hex b) _ ∙ ap (λ l. now.0 ++ flat_map hex l) (sym c.in-Some.ensures) ∙ now.2,
    )
