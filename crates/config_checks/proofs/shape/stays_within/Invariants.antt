use Rattle.std.proofs.Common.{◌≢◌, codes, map, All}
use Rattle.config_checks.proofs.shape.stays_within.Given as goal

abbrev pub invariant-loop-part : goal.invariant-loop-part
invariant-loop-part l = All (λ part. part ≢ codes "..") (map (λ piece. piece.now) l.yielded)
