use Rattle.std.proofs.Common.{rules}
use Rattle.config_edit.proofs.Pieces.{comment_cut}
use Rattle.config_edit.proofs.piece.after_comment.Goals as goal

pub returns-in-Some-clause-cut : goal.returns-in-Some-clause-cut
returns-in-Some-clause-cut c = comment_cut {sign = c.in-Some.sign} (search rules) (search rules) c.run.ensures
