use Rattle.std.proofs.Common.{◌≤◌, length, List, Option}
use Rattle.config_file.specs.declared.errors.FileError.{FileError}
use Rattle.config_file.specs.File.{Entry}
use Rattle.config_file.specs.Left.{HasLeft}
use Rattle.config_file.proofs.reader.Entries.advance.Given as goal

abbrev pub invariant-items : goal.invariant-items
invariant-items l =
    record {
      same : (left : List Entry) (error : Option FileError) → HasLeft l.self left error → HasLeft l.fn.self left error;
      shorter : length l.self.rest.now ≤ length l.fn.self.rest.now;
    }

abbrev pub decreases-items : goal.decreases-items
decreases-items l = length l.self.rest.now
