use Rattle.std.proofs.Common.{refl}
use Rattle.config_color.proofs.Reduction.{still_text}
use Rattle.config_color.proofs.color.Color.reduced.Goals as goal

pub returns-clause-text : goal.returns-clause-text
returns-clause-text c =
    still_text c.args.depth c.args.self _
    (record {
      foreground = c.reduced_part.ensures;
      background = c.reduced_part-2.ensures;
      attributes = refl;
    })
