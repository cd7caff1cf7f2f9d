use Rattle.std.proofs.Common.{Some, ap, ◌∙◌}
use Rattle.config_word.specs.contracts.name.NameHash.TheImpl.Laws.{respects_eq-law}
use Rattle.config_word.specs.contracts.name.NameOrd.TheImpl.Laws.{matches_eq-law, matches_partial_cmp-law}
use Rattle.config_word.specs.contracts.name.NameOrd.TheImpl.Laws.{total-law}
use Rattle.config_word.specs.contracts.name.NameValue.TheImpl.Laws.{equal_is_same-law}
use Rattle.config_word.proofs.NameOrder.{name_same}
use Rattle.config_word.proofs.laws.orders.name_order.Goals as goal

pub returns-clause-order : goal.returns-clause-order
returns-clause-order c = record {
  equal = equal_is_same-law;
  ordered = name_same;
  partial = λ m n. matches_partial_cmp-law m n ∙ ap Some (name_same m n);
  total = total-law;
  agrees = matches_eq-law;
  hashes = respects_eq-law;
}
