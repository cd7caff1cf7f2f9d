use Rattle.std.proofs.Common.{◌≡◌, map, take}
use Rattle.config_search.proofs.rounds.slices.Given as goal

abbrev pub invariant-texts : goal.invariant-texts
invariant-texts l = map (λ url. url.now) l.slices.items ≡ map (λ text. text.items)
    (take l.text-index l.fn.texts)
