use Rattle.std.proofs.Common.{length, option_copied, option_map, ◌+◌, ◌≤◌}
use Rattle.config_file.specs.KeyView.{key_of}
use Rattle.config_file.specs.Views.{section_of}
use Rattle.config_edit.specs.Reading.{AreLeft, Losing, TakesParts}
use Rattle.config_edit.proofs.removal.without.Given as goal

abbrev pub invariant-pieces : goal.invariant-pieces
invariant-pieces l =
    Losing (key_of l.fn.key) (option_copied l.fn.places) l.fn.text l.rest l.new.items
    (option_map section_of l.section) l.group
    l.count l.index
    × TakesParts (key_of l.fn.key) (option_copied l.fn.places) l.fn.text l.rest l.new.items
    (option_map section_of l.section) l.group
    l.index l.below_comment
    × AreLeft (option_copied l.fn.places) (option_copied l.left) l.index
    × (l.index + length l.rest ≤ length l.fn.text)

abbrev pub decreases-pieces : goal.decreases-pieces
decreases-pieces l = length l.rest
