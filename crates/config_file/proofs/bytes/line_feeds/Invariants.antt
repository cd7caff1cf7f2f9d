use Rattle.std.proofs.Common.{◌≡◌, ◌+◌, ◌≤◌, length}
use Rattle.config_file.specs.Value.{line_feeds}
use Rattle.config_file.proofs.bytes.line_feeds.Given as goal

abbrev pub invariant-lines : goal.invariant-lines
invariant-lines l = (l.count + line_feeds l.rest ≡ line_feeds l.text) × (l.count + length l.rest ≤ length l.text)

abbrev pub decreases-lines : goal.decreases-lines
decreases-lines l = length l.rest
