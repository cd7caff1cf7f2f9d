use Rattle.std.proofs.Common.{◌≡◌, [], take}
use Rattle.config_search.specs.System.{System}
use Rattle.config_search.specs.Folder.{Here}
use Rattle.config_search.specs.Handing.{IsAt}
use Rattle.config_search.specs.declared.known.Follows.TheVariants.{AsGit}
use Rattle.config_search.proofs.settings.settings_of.Given as goal

abbrev pub invariant-facts : goal.invariant-facts
invariant-facts l = (l.reading.search.folder ≡ l.fn.folder)
    × (l.reading.search.facts ≡ take l.fact-index l.fn.facts) × (l.reading.follows ≡ AsGit)
    × ((system : System) → IsAt system Here l.reading [])
