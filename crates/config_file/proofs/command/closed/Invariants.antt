use Rattle.std.proofs.Common.{ℕ, List, ◌++◌, length}
use Rattle.config_file.specs.Command.{Quotes}
use Rattle.config_file.proofs.command.closed.Given as goal

abbrev pub invariant-pieces : goal.invariant-pieces
invariant-pieces l =
    record {
      makes : (quoted after : List ℕ) → Quotes l.at quoted after → Quotes l.inner (l.text.items ++ quoted) after;
      only : (quoted after : List ℕ) → Quotes l.inner quoted after → (more : List ℕ) × Quotes l.at more after;
    }

abbrev pub decreases-pieces : goal.decreases-pieces
decreases-pieces l = length l.at
