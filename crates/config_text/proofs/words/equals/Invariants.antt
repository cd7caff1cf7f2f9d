use Rattle.std.proofs.Common.{◌≡◌, bytes_eq, drop, length}
use Rattle.config_text.proofs.words.equals.Given as goal

-- the bytes that are left of both decide
abbrev pub invariant-loop-at : goal.invariant-loop-at
invariant-loop-at g l = (length l.text ≡ length l.word)
    × (bytes_eq (drop l.at l.text) (drop l.at l.word) ≡ bytes_eq l.text l.word)
