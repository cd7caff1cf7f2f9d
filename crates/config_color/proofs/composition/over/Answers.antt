use Rattle.std.proofs.Common.{arith}
use Rattle.config_color.proofs.OverLemmas.{attributes_over, over_has_text}
use Rattle.config_color.proofs.composition.over.Goals as goal

pub returns-clause-over : goal.returns-clause-over
returns-clause-over c =
    record {
      front = c.or.ensures;
      back = c.or-2.ensures;
      bits = attributes_over c.args.base.attributes.0 c.args.top.attributes.0 c.opposites.result
          c.difference-stays.result.0 c.union.result.0 (omega arith) (omega arith) c.opposites.ensures
          (c.difference-stays.ensures tt) (c.union.ensures tt);
    }

pub returns-clause-text : goal.returns-clause-text
returns-clause-text c = over_has_text c.args.base c.args.top _ (returns-clause-over c)
