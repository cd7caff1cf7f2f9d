use Rattle.std.proofs.Common.{◌≡◌, ◌++◌, take}
use Rattle.std.specs.List.{flat_map}
use Rattle.config_file.specs.Spelling.{spelled_in_subsection}
use Rattle.config_file.proofs.spelling.push_subsection.Given as goal

abbrev pub invariant-bytes : goal.invariant-bytes
invariant-bytes l =
    l.spelling.items ≡ l.fn.spelling.items ++ flat_map spelled_in_subsection (take l.byte-index l.subsection)
