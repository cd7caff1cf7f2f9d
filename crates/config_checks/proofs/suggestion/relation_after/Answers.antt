use Rattle.std.proofs.Common.{refl}
use Rattle.config_checks.proofs.SuggestionLemmas.{same_relation}
use Rattle.config_checks.proofs.suggestion.relation_after.Goals as goal

pub returns-in-Some : goal.returns-in-Some
returns-in-Some c =
    same_relation c.args.row.now c.in-Some.other.now c.args.section.now c.in-Some.relation
    (c.if-is_same_word.ensures.0 refl)
    (rw c.in-Some.is at c.requires)
