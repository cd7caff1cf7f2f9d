use Rattle.std.proofs.Common.{◌≡◌, sym, ◌∙◌, arith, ℕ, ◌-◌, ◌<◌, ◌≤◌, false, None, Result}
use Rattle.std.proofs.lemmas.Bool.Decides.{nat_tests}
use Rattle.std.proofs.lemmas.Option.{slice_get_past}
use Rattle.std.specs.Prelude.{◌==◌}
use Rattle.std.specs.Result.{OkIff, result_ok}
use Rattle.config_word.specs.Name.{word_names}
use Rattle.gix_config_value_c.specs.declared.structs.GcvName.{GcvName}
use Rattle.gix_config_value_c.specs.Reading.Structs.{tagged_name}
use Rattle.gix_config_value_c.proofs.structs.tagged_name.Goals as goal

no_number : {E P : Type 0} (r : Result ℕ E) (k : ℕ) → OkIff r P k → None ≡ result_ok r → ¬ P
no_number r k h e = grind arith

past_words : (c : GcvName) → ¬ (c.tag - 1 < 256) → tagged_name c ≡ None
unfolding word_names
past_words c large =
    let past : 256 ≤ c.tag - 1 = grind (arith, large) in
    let none : (c.tag == 0) ≡ false = grind (arith, nat_tests) in
    let ansi : (c.tag == 19) ≡ false = grind (arith, nat_tests) in
    let rgb : (c.tag == 20) ≡ false = grind (arith, nat_tests) in
    rw (none, ansi, rgb) (slice_get_past word_names (c.tag - 1) (omega arith))

pub returns-in_err-ok-in_default : goal.returns-in_err-ok-in_default
returns-in_err-ok-in_default c =
    c.from_residual.ensures
    ∙ sym (past_words c.args.name (no_number _ _ c.try_from.ensures c.in_err-ok-in_default.ensures.value))
