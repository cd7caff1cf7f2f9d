use Rattle.std.proofs.Common.{◌≡◌, length}
use Rattle.config_text.specs.Bytes.{line_feed}
use Rattle.config_path.specs.Passwd.{pieces, home_in_lines}
use Rattle.config_path.proofs.interpolate.home_in_passwd.Given as goal

abbrev pub invariant-loop-line : goal.invariant-loop-line
invariant-loop-line l =
    home_in_lines l.name (pieces line_feed l.fn.passwd) ≡ home_in_lines l.name (pieces line_feed l.rest)

abbrev pub decreases-loop-line : goal.decreases-loop-line
decreases-loop-line l = length l.rest
