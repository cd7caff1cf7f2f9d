use Rattle.std.proofs.Common.{Some, ap, ◌∙◌}
use Rattle.config_color.specs.contracts.color.ColorHash.TheImpl.Laws.{respects_eq-law}
use Rattle.config_color.specs.contracts.color.ColorOrd.TheImpl.Laws.{matches_eq-law, matches_partial_cmp-law}
use Rattle.config_color.specs.contracts.color.ColorOrd.TheImpl.Laws.{total-law}
use Rattle.config_color.specs.contracts.color.ColorValue.TheImpl.Laws.{equal_is_same-law}
use Rattle.config_color.proofs.ColorOrder.{color_same}
use Rattle.config_color.proofs.laws.orders.color_order.Goals as goal

pub returns-clause-order : goal.returns-clause-order
returns-clause-order c =
    record {
      equal = equal_is_same-law;
      ordered = color_same _ c.name_order.ensures.order.ordered;
      partial = λ v w. matches_partial_cmp-law v w
          ∙ ap Some (color_same _ c.name_order.ensures.order.ordered v w);
      total = total-law;
      agrees = matches_eq-law;
      hashes = respects_eq-law;
    }
