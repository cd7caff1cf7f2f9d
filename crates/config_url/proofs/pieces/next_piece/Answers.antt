use Rattle.config_url.proofs.UrlPieces.{next_is, last_is}
use Rattle.config_url.proofs.pieces.next_piece.Goals as goal

pub returns-in-Some-clause-pieces : goal.returns-in-Some-clause-pieces
returns-in-Some-clause-pieces c some = next_is _ _ _ _ (rw c.in-Some.is at c.cut_piece.ensures)

pub returns-in-None-clause-pieces : goal.returns-in-None-clause-pieces
returns-in-None-clause-pieces c some = last_is _ _ _ (rw c.in-None.is at c.cut_piece.ensures) some
