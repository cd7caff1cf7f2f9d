use Rattle.std.proofs.Common.{◌++◌, List, Option, map}
use Rattle.config_file.specs.declared.errors.FileError.{FileError}
use Rattle.config_file.specs.File.{Entry, IsFile}
use Rattle.config_file.specs.Left.{HasLeft}
use Rattle.config_file.specs.Settings.{AddsEach, AddsInScope}
use Rattle.config_file.proofs.settings.Settings.add_file.Given as goal

abbrev pub invariant-loop-entry : goal.invariant-loop-entry
invariant-loop-entry l =
    ((entries : List Entry)
    × ((left : List Entry) (error : Option FileError) → HasLeft l.entry-iterator left error
    → IsFile l.text (entries ++ left) error)
    × AddsEach (map (λ entry. (l.file, entry)) entries) l.fn.self.entries.items l.self.entries.items)
    × AddsInScope l.scope l.fn.self.entries.items l.self.entries.items
