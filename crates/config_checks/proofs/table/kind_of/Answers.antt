use Rattle.std.proofs.Common.{rules, ap, map}
use Rattle.config_checks.proofs.table.kind_of.Goals as goal

pub returns-then-eq-clause-kind : goal.returns-then-eq-clause-kind
returns-then-eq-clause-kind c = (search rules, c.in_ok-low.ensures.bounds)

pub returns-in-Some-split_first-clause-refused : goal.returns-in-Some-split_first-clause-refused
returns-in-Some-split_first-clause-refused c = (
  (
    map (λ word. word.now) c.in-Some-split_first.field-0-1.now,
    ap (map (λ word. word.now)) c.in-Some-split_first.ensures.cases.0,
  ),
  (c.in-Some.kind, search rules),
)
