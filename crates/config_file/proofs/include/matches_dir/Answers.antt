use Rattle.std.proofs.Common.{Some, codes, rules}
use Rattle.std.proofs.lemmas.Slice.Eq.{strip_prefix_is}
use Rattle.std.proofs.lemmas.Bool.Decides.{Decides-eqb}
use Rattle.config_file.proofs.Conditions.{is_near}
use Rattle.config_file.proofs.include.matches_dir.Goals as goal

pub returns-in_ok-push_below-in-Some : goal.returns-in_ok-push_below-in-Some
returns-in_ok-push_below-in-Some c =
    let near =
    strip_prefix_is Decides-eqb c.args.pattern.now (codes "./") (Some c.in-Some.rest) c.in-Some.ensures.cases in
    let real = c.matches_below.ensures.0 (search rules) in
    let whole = c.in_ok-whole-in-Some.ensures in
    let matched = rw c.deref.ensures.value at c.matches_below-in-Some.ensures in
    is_near c.args.pattern.now near real whole c.in_ok-push_below-in-Some.ensures matched
