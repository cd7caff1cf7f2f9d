use Rattle.std.proofs.Common.{map, All}
use Rattle.config_checks.specs.Kinds.{IsPiece}
use Rattle.config_checks.proofs.kind.WordList.has_each.Given as goal

abbrev pub invariant-loop-piece : goal.invariant-loop-piece
invariant-loop-piece l = All (IsPiece l.fn.self) (map (λ piece. piece.now) l.yielded)
