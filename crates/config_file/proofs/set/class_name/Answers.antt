use Rattle.std.proofs.Common.{None, Some, codes}
use Rattle.std.proofs.lemmas.Slice.Eq.{strip_prefix_is, strip_suffix_is}
use Rattle.std.proofs.lemmas.Bool.Decides.{Decides-eqb}
use Rattle.config_file.proofs.Sets.{inner_before, is_class, no_colon}
use Rattle.config_file.proofs.set.class_name.Goals as goal

pub before-inside-requires : goal.before-inside-requires
before-inside-requires c =
    let opens =
    strip_prefix_is Decides-eqb c.args.text.now (codes "[:") (Some c.in_ok-inner.inner) c.in_ok-inner.ensures.cases in
    inner_before c.requires opens

pub returns-in_err-name : goal.returns-in_err-name
returns-in_err-name c =
    let opens =
    strip_prefix_is Decides-eqb c.args.text.now (codes "[:") (Some c.in_ok-inner.inner) c.in_ok-inner.ensures.cases in
    let open_end =
    strip_suffix_is Decides-eqb c.before-inside.result.now (codes ":") None c.in_err-name.ensures.cases in
    rw c.from_residual-in_err-name.ensures (no_colon c.requires opens c.before-inside.ensures open_end)

pub returns : goal.returns
returns c =
    let opens =
    strip_prefix_is Decides-eqb c.args.text.now (codes "[:") (Some c.in_ok-inner.inner) c.in_ok-inner.ensures.cases in
    let ends =
    strip_suffix_is Decides-eqb c.before-inside.result.now (codes ":") (Some c.in_ok-name.name) c.in_ok-name.ensures.cases in
    is_class c.requires opens c.before-inside.ensures ends c.in_ok-rest.ensures
