use Rattle.std.proofs.Common.{length, option_map}
use Rattle.config_file.specs.KeyView.{key_of}
use Rattle.config_file.specs.Views.{section_of}
use Rattle.config_edit.specs.Reading.{Replacing}
use Rattle.config_edit.proofs.setting.replace.Given as goal

abbrev pub invariant-pieces : goal.invariant-pieces
invariant-pieces l =
    Replacing (key_of l.fn.key) l.fn.text l.rest l.start l.new.items
    (option_map section_of l.section) l.found l.several l.in_line

abbrev pub decreases-pieces : goal.decreases-pieces
decreases-pieces l = length l.rest
