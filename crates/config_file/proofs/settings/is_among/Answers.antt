use Rattle.std.proofs.Common.{rules}
use Rattle.config_file.proofs.Last.{at_index}
use Rattle.config_file.proofs.Picked.{among_here, among_no_more, among_none}
use Rattle.config_file.proofs.settings.is_among.Goals as goal

pub loop-other-preserved : goal.loop-other-preserved
loop-other-preserved c =
    among_no_more (λ text. text.items) c.args.texts.now c.loop-other.other-index c.other-item.result
    c.args.text.now (at_index c.args.texts.now c.loop-other.other-index c.other-item.result (search rules) (search rules))
    (search rules) (λ same. search rules) c.loop-other.invariant

pub returns : goal.returns
returns c =
    among_none (λ text. text.items) c.args.texts.now c.loop-other.other-index c.args.text.now (search rules)
    c.loop-other.invariant

pub returns-then-eq : goal.returns-then-eq
returns-then-eq c =
    among_here (λ text. text.items) c.args.texts.now c.loop-other.other-index c.other-item.result c.args.text.now
    (at_index c.args.texts.now c.loop-other.other-index c.other-item.result (search rules) (search rules))
    (search rules) (search rules)
