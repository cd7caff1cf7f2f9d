use Rattle.std.proofs.Common.{length}
use Rattle.config_file.specs.KeyView.{key_of}
use Rattle.config_edit.specs.Reading.{Clearing}
use Rattle.config_edit.proofs.sections.without_section.Given as goal

abbrev pub invariant-pieces : goal.invariant-pieces
invariant-pieces l = Clearing (key_of l.fn.key) l.fn.text l.rest l.new.items l.is_found l.lost l.in_line l.starts_line

abbrev pub decreases-pieces : goal.decreases-pieces
decreases-pieces l = length l.rest
