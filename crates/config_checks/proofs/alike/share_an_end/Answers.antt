use Rattle.std.proofs.Common.{◌<◌, ◌∙◌, length, rules, sym, inl, inr}
use Rattle.std.proofs.lemmas.Bool.{false≢true}
use Rattle.config_checks.proofs.AlikeLemmas.{alike_share, same_share}
use Rattle.config_checks.proofs.alike.share_an_end.Goals as goal

pub returns-else-is_same_byte-clause-alike : goal.returns-else-is_same_byte-clause-alike
returns-else-is_same_byte-clause-alike c = λ alike.
    let ends = alike_share c.args.row.now c.args.name.now alike in
    elim ends.2 [
      | inl first ↦ absurd (false≢true (sym c.if-is_same_byte.false ∙ c.is_same_byte.ensures ∙ first))
      | inr last ↦ c.is_same_byte-else-is_same_byte.ensures ∙ last
    ]

pub returns-else-is_same_byte-clause-same : goal.returns-else-is_same_byte-clause-same
returns-else-is_same_byte-clause-same c = λ same.
    let some : 0 < length c.args.row.now = search rules in
    let first = same_share c.args.row.now c.args.name.now same some in
    absurd (false≢true (sym c.if-is_same_byte.false ∙ c.is_same_byte.ensures ∙ first))
