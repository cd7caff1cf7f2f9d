use Rattle.std.proofs.Common.{rules}
use Rattle.config_file.proofs.Keys.{left_elsewhere}
use Rattle.config_file.proofs.key.left_after.Goals as goal

pub returns-else-byte-eq46 : goal.returns-else-byte-eq46
returns-else-byte-eq46 c left =
    rw c.in_ok-subsection.was
    (left_elsewhere c.args.bytes.now c.in-Some.front.now c.in_ok-subsection.field-0.now c.in_ok-rest.rest.now
    c.in-Some-split.left.now c.in-Some-split.byte
    (cc (c.in-Some.ensures)) c.in_ok-rest.ensures c.in-Some-split.ensures (search rules) left)
