use Rattle.std.proofs.Common.{rules, refl}
use Rattle.gix_config_value_c.specs.Values.Multiplies.{multiplied, overflow}
use Rattle.gix_config_value_c.proofs.products.gcv_raw_product.Goals as goal

pub returns-in-Some-to_decimal : goal.returns-in-Some-to_decimal
returns-in-Some-to_decimal c =
    multiplied c.in-Some.integer c.in-Some.ensures c.in-Some-to_decimal.ensures.0 (search rules) refl

pub returns-in-None : goal.returns-in-None
returns-in-None c = overflow c.in-Some.integer c.in-Some.ensures c.in-None.ensures (refl, refl)
