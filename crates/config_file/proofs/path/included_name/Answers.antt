use Rattle.std.proofs.Common.{Some, codes}
use Rattle.std.proofs.lemmas.Slice.Eq.{strip_prefix_is}
use Rattle.std.proofs.lemmas.Bool.Decides.{Decides-eqb}
use Rattle.config_file.proofs.Paths.{absolute_name}
use Rattle.config_file.proofs.path.included_name.Goals as goal

pub returns-in_ok-joined-in-Some : goal.returns-in_ok-joined-in-Some
returns-in_ok-joined-in-Some c =
    absolute_name _ _ _ _ (strip_prefix_is Decides-eqb c.args.path.now (codes "/") (Some c.in-Some._rest) c.in-Some.ensures.cases)
    c.in_ok-joined-in-Some.ensures
