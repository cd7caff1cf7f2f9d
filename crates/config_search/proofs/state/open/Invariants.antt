use Rattle.std.specs.Prelude.{option_copied}
use Rattle.config_search.specs.Handing.{KeepsState}
use Rattle.config_search.proofs.state.open.Given as goal

abbrev pub invariant-states : goal.invariant-states
invariant-states l = KeepsState l.lookup.facts.now l.follows (option_copied l.start) l.answer l.initial.state l.state
