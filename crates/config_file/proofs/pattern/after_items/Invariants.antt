use Rattle.std.proofs.Common.{length, ◌≤◌}
use Rattle.config_file.specs.Reading.Places.{Follows}
use Rattle.config_file.proofs.pattern.after_items.Given as goal

abbrev pub invariant-items : goal.invariant-items
invariant-items l = record {
  follows : Follows l.fn.ignores_case l.fn.starts l.fn.pattern l.fn.text l.at.starts l.at.pattern.now l.at.text.now;
  within : length l.at.pattern.now ≤ length l.fn.pattern;
}

abbrev pub decreases-items : goal.decreases-items
decreases-items l = length l.at.pattern.now
