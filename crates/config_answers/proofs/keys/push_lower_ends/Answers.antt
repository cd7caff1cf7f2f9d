use Rattle.std.proofs.Common.{arith}
use Rattle.config_answers.proofs.KeyLemmas.{pushed_ends}
use Rattle.config_answers.proofs.keys.push_lower_ends.Goals as goal

pub returns : goal.returns
returns g c =
    pushed_ends c.extend_from_slice-2.result _ g.row.N c.len.result c.args.text.now.items c.args.name.now
    c.extend_from_slice.new.self.items c.truncate.new.self.items c.extend_from_slice-2.new.self.items
    (omega arith) c.requires.0 c.requires.1
    (rw c.lower_block.ensures at c.in_ok-extend_from_slice.ensures.items) c.truncate.ensures.items
    (rw c.lower_block-2.ensures at c.extend_from_slice-2.ensures.items)
