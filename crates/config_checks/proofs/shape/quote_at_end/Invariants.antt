use Rattle.std.proofs.Common.{◌≡◌, take}
use Rattle.std.specs.List.{fold}
use Rattle.config_checks.specs.Shapes.{quote_after}
use Rattle.config_checks.specs.declared.shape.Quote.TheVariants.{Outside}
use Rattle.config_checks.proofs.shape.quote_at_end.Given as goal

abbrev pub invariant-loop-byte : goal.invariant-loop-byte
invariant-loop-byte l = l.quote ≡ fold quote_after Outside (take l.byte-index l.text)
