use Rattle.std.proofs.lemmas.List.{take_rest}
use Rattle.config_path.proofs.Pieces.{no_piece, first_piece}
use Rattle.config_path.proofs.interpolate.split_piece.Goals as goal

pub returns-in_err-at-clause-cut : goal.returns-in_err-at-clause-cut
returns-in_err-at-clause-cut c = rw c.from_residual.ensures (no_piece _ _ c.in_err-at.ensures)

pub returns-clause-cut : goal.returns-clause-cut
returns-clause-cut c =
    let first = c.in_ok-at.ensures in rw take_rest (first_piece _ _ _ first.0 first.1)
