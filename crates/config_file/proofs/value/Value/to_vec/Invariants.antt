use Rattle.std.proofs.Common.{◌≡◌, ◌⊎◌, List, [], ℕ, length}
use Rattle.config_file.specs.Bytes.{is_blank}
use Rattle.config_file.specs.Runs.{StopsRun}
use Rattle.config_file.specs.Value.{Ending, Spells, SpellsValue, itself}
use Rattle.config_file.proofs.value.Value.to_vec.Given as goal

abbrev pub invariant-pieces : goal.invariant-pieces
invariant-pieces l =
    record {
      fresh : (l.held ≡ []) ⊎ StopsRun is_blank l.at;
      spells : (spelled : List ℕ) (ending : Ending) → SpellsValue l.self.raw.now spelled ending
          → (o : Ending) × Spells itself l.quoted l.text.items l.held l.at spelled o;
    }

abbrev pub decreases-pieces : goal.decreases-pieces
decreases-pieces l = length l.at
