use Rattle.std.proofs.Common.{length}
use Rattle.config_file.specs.KeyView.{key_of}
use Rattle.config_edit.specs.Reading.{Placing}
use Rattle.config_edit.proofs.setting.find_places.Given as goal

abbrev pub invariant-pieces : goal.invariant-pieces
invariant-pieces l = Placing (key_of l.fn.key) l.fn.text l.rest l.is_inside l.after_header l.inside l.end

abbrev pub decreases-pieces : goal.decreases-pieces
decreases-pieces l = length l.rest
