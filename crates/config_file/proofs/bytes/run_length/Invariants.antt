use Rattle.std.proofs.Common.{◌≡◌, ◌+◌, ◌-◌, ◌≤◌, drop, length}
use Rattle.std.specs.List.{prefix_len}
use Rattle.config_file.specs.Reading.Scans.{passes}
use Rattle.config_file.proofs.bytes.run_length.Given as goal

abbrev pub invariant-strides : goal.invariant-strides
invariant-strides l =
    (l.passed + prefix_len (passes l.class) (drop l.passed l.text) ≡ prefix_len (passes l.class) l.text)
    × (l.passed ≤ length l.text)

abbrev pub decreases-strides : goal.decreases-strides
decreases-strides l = length l.text - l.passed

abbrev pub invariant-bytes : goal.invariant-bytes
invariant-bytes l =
    (l.passed + prefix_len (passes l.class) (drop l.passed l.text) ≡ prefix_len (passes l.class) l.text)
    × (l.passed ≤ length l.text)

abbrev pub decreases-bytes : goal.decreases-bytes
decreases-bytes l = length l.text - l.passed
