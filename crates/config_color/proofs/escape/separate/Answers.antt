use Rattle.std.proofs.Common.{◌≢◌, [], ◌++◌, ap, ◌∙◌, arith}
use Rattle.std.proofs.lemmas.Bool.Decides.{nat_tests}
use Rattle.config_color.proofs.EscapeLemmas.{opened_more}
use Rattle.config_color.proofs.escape.separate.Goals as goal

pub returns-clause-next : goal.returns-clause-next
returns-clause-next c =
    λ done code e.
    let some : c.args.text.now.bytes ≢ [] = λ n. grind (arith, nat_tests) in
    ap (λ t. t ++ code) c.push_str-2.ensures.bytes ∙ opened_more done code c.args.text.now.bytes e some
