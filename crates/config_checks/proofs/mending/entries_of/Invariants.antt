use Rattle.config_checks.proofs.MendLemmas.{AreRead}
use Rattle.config_checks.proofs.mending.entries_of.Given as goal

abbrev pub invariant-loop-entry : goal.invariant-loop-entry
invariant-loop-entry l = AreRead l.text l.entry-iterator l.entries.items
