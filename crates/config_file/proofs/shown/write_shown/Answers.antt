use Rattle.std.proofs.Common.{◌++◌, ◌∙◌, append_assoc, append-nil, ap, sym, rules, subst}
use Rattle.std.specs.Fmt.{HasWritten}
use Rattle.std.proofs.Output.{has_written_append}
use Rattle.config_file.specs.Shown.{piece_shown}
use Rattle.config_file.proofs.ShownTexts.{none_shown}
use Rattle.config_file.proofs.shown.write_shown.Goals as goal

pub pieces-preserved : goal.pieces-preserved
pieces-preserved g c =
    λ plain.
    let now = c.pieces.invariant plain in
    let piece = piece_shown c.in-Some.character c.in-Some.bytes.now in (
      now.0 ++ piece,
      has_written_append _ _ _ _ _ _ now.1 (search rules),
      append_assoc now.0 piece _ ∙ ap (λ l. now.0 ++ l) (sym c.in-Some.ensures.shown) ∙ now.2,
    )

pub returns : goal.returns
returns g c =
    λ plain ok.
    let now = c.pieces.invariant plain in
    subst (λ l. HasWritten g.W.Write.write_str_gives c.args.f.now l c.pieces.f)
    (sym (append-nil now.0) ∙ ap (λ l. now.0 ++ l) (sym (none_shown c.pieces.rest.now c.in_default.ensures.shown)) ∙ now.2)
    now.1
