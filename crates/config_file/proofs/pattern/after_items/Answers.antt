use Rattle.std.proofs.Common.{arith}
use Rattle.config_file.proofs.Patterns.{item_shortens}
use Rattle.config_file.proofs.Places.{follows_more, stops_at_end}
use Rattle.config_file.proofs.pattern.after_items.Goals as goal

pub returns-in_default-clause-stops : goal.returns-in_default-clause-stops
returns-in_default-clause-stops c = stops_at_end c.items.at.text.now c.in_default.ensures

pub items-preserved : goal.items-preserved
items-preserved c = record {
  follows =
      follows_more c.items.at.text.now c.items.invariant.follows c.in-Some.ensures c.in-Some-after_item.ensures;
  within = let short = item_shortens c.in-Some-after_item.ensures in omega arith;
}
