use Rattle.std.proofs.Common.{◌≡◌, bytes_eq, drop, length, map}
use Rattle.std.specs.Char.{to_ascii_lowercase}
use Rattle.config_text.proofs.words.equals_ignoring_case.Given as goal

-- the bytes that are left of both decide
abbrev pub invariant-loop-at : goal.invariant-loop-at
invariant-loop-at g l =
    (length l.text ≡ length l.word)
    × (bytes_eq (map to_ascii_lowercase (drop l.at l.text)) (map to_ascii_lowercase (drop l.at l.word))
    ≡ bytes_eq (map to_ascii_lowercase l.text) (map to_ascii_lowercase l.word))
