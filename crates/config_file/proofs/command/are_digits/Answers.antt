use Rattle.std.proofs.Common.{◌<◌, length, rules}
use Rattle.config_file.proofs.Commands.{numeral_tested}
use Rattle.config_file.proofs.command.are_digits.Goals as goal

pub returns-then-not-is_empty : goal.returns-then-not-is_empty
returns-then-not-is_empty c =
    let some : 0 < length c.args.text.now = search rules in
    numeral_tested c.args.text.now c.has_only_digits.result c.has_only_digits.ensures some
