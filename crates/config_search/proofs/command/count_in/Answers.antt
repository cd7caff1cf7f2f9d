use Rattle.std.proofs.Common.{List, Option, subst, ℕ}
use Rattle.config_search.specs.Command.{AreCounted}
use Rattle.config_search.proofs.command.count_in.Goals as goal

pub returns-in-Ok-clause-count : goal.returns-in-Ok-clause-count
returns-in-Ok-clause-count c = λ system agrees settings are. subst
    (λ (text : Option (List ℕ)). AreCounted system text settings)
    (rw c.in-Some.is at c.in_ok-text.ensures system agrees) (c.in-Ok.count, c.in-Ok.ensures, are)

pub returns-in_ok-of_command-in-Err-clause-count : goal.returns-in_ok-of_command-in-Err-clause-count
returns-in_ok-of_command-in-Err-clause-count c =
    c.in_ok-of_command-in-Err.ensures.asks c.args.lookup.now.folder.now c.args.lookup.now.facts.now
