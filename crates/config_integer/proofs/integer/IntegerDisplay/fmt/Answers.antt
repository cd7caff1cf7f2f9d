use Rattle.std.proofs.Common.{rules, w64, FitsSigned}
use Rattle.config_text.specs.Laws.Numerals.{in_range_from_fits}
use Rattle.config_integer.specs.Laws.IntegerShown.{integer_has_text}
use Rattle.config_integer.proofs.integer.IntegerDisplay.fmt.Goals as goal

pub text-requires : goal.text-requires
text-requires g c =
    let f : FitsSigned w64 c.args.self.now.value = search rules in
    integer_has_text c.args.self.now (in_range_from_fits c.args.self.now.value f)
