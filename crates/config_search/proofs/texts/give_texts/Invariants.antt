use Rattle.std.proofs.Common.{◌≡◌, map, take, None}
use Rattle.std.specs.List.{All}
use Rattle.config_search.specs.System.{System, AreTrueIn}
use Rattle.config_search.specs.Handing.{given_of}
use Rattle.config_search.specs.Reading.{IsAtDir, text_of}
use Rattle.config_search.proofs.texts.give_texts.Given as goal

abbrev pub invariant-given : goal.invariant-given
invariant-given l = (l.texts.stop ≡ None)
    × (map text_of l.texts.list.items ≡ map given_of (take l.text-index l.fn.given))
    × ((system : System) → AreTrueIn system l.fn.lookup.facts.now
    → All (IsAtDir system l.fn.start) l.texts.list.items)
