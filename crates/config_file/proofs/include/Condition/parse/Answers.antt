use Rattle.std.proofs.Common.{Some, codes}
use Rattle.std.proofs.lemmas.Slice.Eq.{strip_prefix_is}
use Rattle.std.proofs.lemmas.Bool.Decides.{Decides-eqb}
use Rattle.config_file.proofs.include.Condition.parse.Goals as goal

pub returns-in-Some-strip_prefix-3 : goal.returns-in-Some-strip_prefix-3
returns-in-Some-strip_prefix-3 c =
    strip_prefix_is Decides-eqb c.args.text.now (codes "hasconfig:remote.*.url:") (Some c.in-Some-strip_prefix-3.pattern)
    c.in-Some-strip_prefix-3.ensures.cases
