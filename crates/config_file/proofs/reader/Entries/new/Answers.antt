use Rattle.std.proofs.Common.{rules, sym}
use Rattle.config_file.specs.File.{marked, part_of_mark, unmarked}
use Rattle.config_file.proofs.reader.Entries.new.Goals as goal

pub returns-in-Some-clause-begins : goal.returns-in-Some-clause-begins
returns-in-Some-clause-begins c = rw (c.at.ensures.1, c.at.ensures.2) (marked (sym c.in-Some.ensures))

pub returns-then-is_part_of_mark-clause-begins : goal.returns-then-is_part_of_mark-clause-begins
returns-then-is_part_of_mark-clause-begins c =
    rw (c.at-then-is_part_of_mark.ensures.1, c.at-then-is_part_of_mark.ensures.2) (part_of_mark {text = c.args.text.now} (search rules))

pub returns-clause-begins : goal.returns-clause-begins
returns-clause-begins c = rw (c.at-2.ensures.1, c.at-2.ensures.2) (unmarked {text = c.args.text.now} (sym c.in_default.ensures) (search rules))
