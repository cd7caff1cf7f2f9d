use Rattle.std.proofs.Common.{Contains, map, take}
use Rattle.config_file.proofs.settings.is_among.Given as goal

abbrev pub invariant-loop-other : goal.invariant-loop-other
invariant-loop-other l = ¬ (Contains (map (λ text. text.items) (take l.other-index l.fn.texts)) l.fn.text)
