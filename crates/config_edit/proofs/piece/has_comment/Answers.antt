use Rattle.std.proofs.Common.{◌≡◌, ◌∙◌, ◌++◌, [], ap, sym, true≢false}
use Rattle.config_file.specs.Bytes.{is_comment_sign}
use Rattle.config_file.proofs.LineEnds.{not_none}
use Rattle.config_edit.proofs.Pieces.{comment_behind}
use Rattle.config_edit.proofs.piece.has_comment.Goals as goal

pub returns-in-Some : goal.returns-in-Some
returns-in-Some c =
    let run = c.run.ensures in
    let at = c.in-Some.ensures in
    let is = c.is_comment_sign.ensures in (
      λ here. (
        c.run.result.0.now,
        c.in-Some.field-0-1.now,
        c.in-Some.sign,
        run.joined ∙ ap (λ t. c.run.result.0.now ++ t) at,
        run.pass,
        sym is ∙ here,
      ),
      λ has.
          let (sign, more, also, is_sign) = comment_behind run has in
          let same : c.in-Some.sign ≡ sign = cc in
          is ∙ ap is_comment_sign same ∙ is_sign,
    )

pub returns-in-None : goal.returns-in-None
returns-in-None c = (
  λ here. absurd (true≢false (sym here)),
  λ has.
      let (sign, more, also, is_sign) = comment_behind c.run.ensures has in
      absurd (not_none [] more sign (sym also ∙ c.in-None.ensures)),
)
