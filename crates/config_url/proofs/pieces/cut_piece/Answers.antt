use Rattle.config_url.proofs.UrlPieces.{counted, piece_whole, piece_before}
use Rattle.config_url.proofs.pieces.cut_piece.Goals as goal

pub returns-in-Some : goal.returns-in-Some
returns-in-Some c =
    piece_before c.args.separator c.split_at.result.1.now
    (counted c.piece_length.ensures.count c.split_at.ensures.front c.split_at.ensures.back) c.in-Some.ensures

pub returns-in-None : goal.returns-in-None
returns-in-None c =
    piece_whole c.args.separator c.split_at.result.1.now
    (counted c.piece_length.ensures.count c.split_at.ensures.front c.split_at.ensures.back) c.in-None.ensures
