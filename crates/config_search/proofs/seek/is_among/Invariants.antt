use Rattle.std.proofs.Common.{Contains, map, take}
use Rattle.config_search.proofs.seek.is_among.Given as goal

abbrev pub invariant-loop-other : goal.invariant-loop-other
invariant-loop-other l = ¬ (Contains (map (λ c. c.now) (take l.other-index l.folders)) l.folder)
