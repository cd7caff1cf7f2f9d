use Rattle.std.proofs.Common.{◌≡◌, length}
use Rattle.config_file.specs.KeyView.{key_of}
use Rattle.config_edit.specs.Reading.{Renaming}
use Rattle.config_edit.specs.Sections.{git_header}
use Rattle.config_edit.proofs.sections.renamed.Given as goal

abbrev pub invariant-pieces : goal.invariant-pieces
invariant-pieces l =
    Renaming (key_of l.fn.from) (key_of l.fn.to) l.fn.text l.rest l.new.items l.is_found
    × (l.header.items ≡ git_header (key_of l.fn.to))

abbrev pub decreases-pieces : goal.decreases-pieces
decreases-pieces l = length l.rest
