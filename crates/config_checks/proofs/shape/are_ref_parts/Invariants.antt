use Rattle.std.proofs.Common.{map, All}
use Rattle.config_checks.specs.Shapes.{IsRefPart}
use Rattle.config_checks.proofs.shape.are_ref_parts.Given as goal

abbrev pub invariant-loop-part : goal.invariant-loop-part
invariant-loop-part l = All IsRefPart (map (λ piece. piece.now) l.yielded)
