use Rattle.std.proofs.Common.{◌≡◌, sym, ap, ◌∙◌, arith, true, ◌&&◌}
use Rattle.std.proofs.lemmas.Bool.Decides.{nat_tests}
use Rattle.std.proofs.lemmas.Option.{none-some, same_Some}
use Rattle.std.specs.Prelude.{◌==◌}
use Rattle.gix_config_value_c.specs.declared.structs.GcvName.{GcvName}
use Rattle.gix_config_value_c.specs.Structs.{name_struct}
use Rattle.gix_config_value_c.proofs.NameTags.{tagged_as}
use Rattle.gix_config_value_c.proofs.structs.name_of.Goals as goal

equal : (a b : GcvName) → a ≡ b
    → (a.tag == b.tag && (a.palette == b.palette && (a.red == b.red && (a.green == b.green && a.blue == b.blue))))
    ≡ true
equal a b e = rw e (grind (arith, nat_tests))

pub returns-in_err-found : goal.returns-in_err-found
returns-in_err-found c =
    rw c.from_residual.ensures
    (λ v e. none-some v (sym c.in_err-found.was ∙ tagged_as _ v _ c.tagged_name.ensures e))

pub returns-else-eq : goal.returns-else-eq
returns-else-eq c = λ v e.
    let found = same_Some _ v (sym c.in_ok-found.was ∙ tagged_as _ v _ c.tagged_name.ensures e) in
    let same = equal _ _ (c.name_struct.ensures ∙ ap name_struct found ∙ sym e) in
    let other = c.if-eq.ensures ∙ same in
    cc (other)
