use Rattle.std.proofs.Common.{take, IfSome}
use Rattle.config_checks.specs.Reading.Steps.{AreRelations, IsRelation}
use Rattle.config_checks.proofs.suggestion.relations_of.Given as goal

abbrev pub invariant-loop-run : goal.invariant-loop-run
invariant-loop-run l =
    AreRelations (take l.run-index l.runs) l.section l.relations.items
    × IfSome l.last (λ known. IsRelation known.0.now l.section known.1)
