use Rattle.std.proofs.Common.{IsTrue}
use Rattle.config_color.specs.Reading.Color.{ArePlain}
use Rattle.config_color.proofs.color.is_plain_run.Given as goal

abbrev pub invariant-loop-place : goal.invariant-loop-place
invariant-loop-place l = IsTrue l.is_plain → ArePlain l.text l.at l.place
