use Rattle.std.proofs.Common.{rules}
use Rattle.config_edit.proofs.Pieces.{no_feeds, last_feed}
use Rattle.config_edit.proofs.piece.last_line_end.Goals as goal

pub returns-in_err-last : goal.returns-in_err-last
returns-in_err-last c = rw c.from_residual.ensures (no_feeds c.args.text.now (search rules))

pub returns : goal.returns
returns c =
    last_feed c.args.text.now c.in_ok-last.last (search rules) (search rules) (search rules) c.line_end.ensures
