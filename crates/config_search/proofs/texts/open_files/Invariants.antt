use Rattle.std.proofs.Common.{◌≡◌, map, take, None}
use Rattle.std.specs.List.{All}
use Rattle.config_search.specs.System.{System, AreTrueIn}
use Rattle.config_search.specs.Reads.{AreTexts}
use Rattle.config_search.specs.Reading.{IsAtDir, text_of}
use Rattle.config_search.specs.Shown.{file_of}
use Rattle.config_search.proofs.texts.open_files.Given as goal

abbrev pub invariant-files : goal.invariant-files
invariant-files l = (l.texts.stop ≡ None) × ((system : System) → AreTrueIn system l.fn.lookup.facts.now
    → AreTexts system l.fn.start (map file_of (take l.file-index l.fn.files)) (map text_of l.texts.list.items)
    × All (IsAtDir system l.fn.start) l.texts.list.items)
