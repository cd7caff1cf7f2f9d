use Rattle.std.proofs.Common.{Some, None, subst, sym, ◌∙◌}
use Rattle.std.proofs.lemmas.Bool.{false≢true}
use Rattle.std.proofs.lemmas.Bool.Decides.{Decides-eqb}
use Rattle.std.proofs.lemmas.List.{append_cancel_left}
use Rattle.std.proofs.lemmas.Slice.Eq.{strip_prefix_is}
use Rattle.config_checks.specs.Kinds.{EndsName}
use Rattle.config_checks.proofs.kind.names.Goals as goal

pub returns-in-Some : goal.returns-in-Some
returns-in-Some c =
    let begins = strip_prefix_is Decides-eqb c.args.text.now c.args.name.now (Some c.in-Some.rest) c.in-Some.ensures.cases in (
      λ ends. (c.in-Some.rest.now, begins, c.ends_name.ensures.0 ends),
      λ name. c.ends_name.ensures.1 (subst EndsName
          (append_cancel_left c.args.name.now name.0 c.in-Some.rest.now (sym name.1 ∙ begins)) name.2),
    )

pub returns-in-None : goal.returns-in-None
returns-in-None c =
    let lacks = strip_prefix_is Decides-eqb c.args.text.now c.args.name.now None c.in-None.ensures.cases in (
      λ yes. absurd (false≢true yes),
      λ name. absurd (lacks name.0 name.1),
    )
