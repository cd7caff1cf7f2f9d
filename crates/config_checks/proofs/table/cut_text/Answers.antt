use Rattle.std.proofs.Common.{◌≡◌, ◌++◌, ◌∷◌, Some, None, ap, sym, ◌∙◌, map, refl}
use Rattle.std.proofs.lemmas.Bool.Decides.{Decides-eqb}
use Rattle.std.proofs.lemmas.Slice.Eq.{strip_prefix_is}
use Rattle.config_checks.proofs.table.cut_text.Goals as goal

pub returns-in-Some-strip_prefix : goal.returns-in-Some-strip_prefix
returns-in-Some-strip_prefix c =
    let begins = strip_prefix_is Decides-eqb c.in-Some.field.now.now c.args.front.now (Some c.in-Some-strip_prefix.text)
    c.in-Some-strip_prefix.ensures.cases in
    ap (map (λ field. field.now)) c.in-Some.ensures.cases.0
    ∙ ap (λ t. t ∷ map (λ field. field.now) c.in-Some.rest.now) begins

pub returns-in-None : goal.returns-in-None
returns-in-None c =
    let lacks = strip_prefix_is Decides-eqb c.in-Some.field.now.now c.args.front.now None c.in-None.ensures.cases in
    let parts = ap (map (λ field. field.now)) c.in-Some.ensures.cases.0 in (
      refl,
      λ text more same.
          let all = sym parts ∙ same in
          let first : c.in-Some.field.now.now ≡ c.args.front.now ++ text = cc in absurd (lacks text first),
    )
