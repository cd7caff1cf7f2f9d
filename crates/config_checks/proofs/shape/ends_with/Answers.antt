use Rattle.std.proofs.Common.{Some, None, refl}
use Rattle.std.proofs.lemmas.Bool.{false≢true}
use Rattle.std.proofs.lemmas.Bool.Decides.{Decides-eqb}
use Rattle.std.proofs.lemmas.Slice.Eq.{strip_suffix_is}
use Rattle.config_checks.proofs.shape.ends_with.Goals as goal

pub returns-in-Some : goal.returns-in-Some
returns-in-Some c =
    let ends = strip_suffix_is Decides-eqb c.args.text.now c.args.end.now (Some c.in-Some.field-0) c.in-Some.ensures.cases in
    (λ yes. (c.in-Some.field-0.now, ends), λ is. refl)

pub returns-in-None : goal.returns-in-None
returns-in-None c =
    let lacks = strip_suffix_is Decides-eqb c.args.text.now c.args.end.now None c.in-None.ensures.cases in
    (λ yes. absurd (false≢true yes), λ is. absurd (lacks is.0 is.1))
