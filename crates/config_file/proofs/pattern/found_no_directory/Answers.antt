use Rattle.std.proofs.Common.{refl}
use Rattle.config_file.proofs.Places.{deep_map, slash_only, slash_from}
use Rattle.config_file.proofs.pattern.found_no_directory.Goals as goal

pub returns-in-Some-clause-is : goal.returns-in-Some-clause-is
returns-in-Some-clause-is c =
    deep_map c.args.ignores_case c.found_deep.result (λ m. (c.in-Some.after.now, refl, c.in-Some.ensures, m))
    (λ e. slash_only c.args.pattern.now c.in-Some.ensures) (slash_from c.args.pattern.now c.in-Some.ensures) c.found_deep.ensures.is
