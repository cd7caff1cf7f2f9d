use Rattle.std.proofs.Common.{[], sym, subst}
use Rattle.config_edit.specs.Edit as spec
use Rattle.config_edit.specs.Edit.{IsEndOfLine}
use Rattle.config_edit.proofs.piece.Piece.line_end.Goals as goal

pub returns-then-not-self : goal.returns-then-not-self
returns-then-not-self c =
    subst (λ b. IsEndOfLine c.args.self.now.bytes.now b []) (sym c.if-not-self.true) spec.unended
