use Rattle.std.proofs.Common.{rules}
use Rattle.config_integer.specs.contracts.integer.IntegerOrd.TheImpl.Laws.{total-law}
use Rattle.config_integer.proofs.laws.orders.integer_order.Goals as goal

pub returns-clause-order : goal.returns-clause-order
returns-clause-order c = record {
  equal = search rules;
  ordered = search rules;
  partial = search rules;
  total = total-law;
  agrees = search rules;
  hashes = search rules;
}
