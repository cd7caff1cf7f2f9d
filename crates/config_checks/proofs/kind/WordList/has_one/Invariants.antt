use Rattle.std.proofs.Common.{map, All}
use Rattle.config_checks.specs.Kinds.{HasWord}
use Rattle.config_checks.proofs.kind.WordList.has_one.Given as goal

abbrev pub invariant-loop-piece : goal.invariant-loop-piece
invariant-loop-piece l = All (λ piece. ¬ (HasWord l.fn.self piece)) (map (λ piece. piece.now) l.yielded)
