use Rattle.std.proofs.Common.{rules}
use Rattle.config_file.proofs.Patterns.{no_byte_item}
use Rattle.config_file.proofs.pattern.after_item.Goals as goal

pub returns-else-stands_for : goal.returns-else-stands_for
returns-else-stands_for c =
    λ rest. no_byte_item c.args.pattern.now rest c.in_ok-first.ensures c.if-first-eq92.false c.if-first-eq91.false (search rules)
