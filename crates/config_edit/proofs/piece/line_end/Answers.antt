use Rattle.std.proofs.Common.{◌∷◌, ◌∙◌, [], true, sym, subst, true≢false}
use Rattle.std.proofs.lemmas.Bool.Decides.{Decides-eqb}
use Rattle.std.proofs.lemmas.Slice.Eq.{ends_is}
use Rattle.config_edit.specs.Edit as spec
use Rattle.config_edit.specs.Edit.{IsEndOfLine}
use Rattle.config_edit.proofs.piece.line_end.Goals as goal

pub returns-then-ends_with : goal.returns-then-ends_with
returns-then-ends_with c =
    let is = ends_is Decides-eqb c.args.line.now (13 ∷ 10 ∷ []) c.ends_with.result c.ends_with.ensures.value in
    subst (λ l. IsEndOfLine l true (13 ∷ 10 ∷ [])) (sym (is.0 c.if-ends_with.true)) (spec.return_feed _)

pub returns-else-ends_with : goal.returns-else-ends_with
returns-else-ends_with c =
    let is = ends_is Decides-eqb c.args.line.now (13 ∷ 10 ∷ []) c.ends_with.result c.ends_with.ensures.value in
    spec.feed (λ front e. true≢false (sym (is.1 front e) ∙ c.if-ends_with.false))
