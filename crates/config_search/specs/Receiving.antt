-- What becomes of a receiver that gets entries.
use Rattle.std.specs.Prelude.{List, [], ◌∷◌, ◌++◌}
use Rattle.config_search.specs.Reads.{ReadEntry}

-- each of these entries, in order, is received
pub data ReceivesEach {R : Type 0} (receives : R → ReadEntry → R → Type 0) (old : R) : List ReadEntry → R
    → Type 0 where
  nothing : ReceivesEach receives old [] old
  one_more : {read : List ReadEntry} {so_far new : R} (it : ReadEntry)
      → ReceivesEach receives old read so_far → receives so_far it new
      → ReceivesEach receives old (read ++ it ∷ []) new
