use Rattle.config_integer.specs.Integer.{product}
use Rattle.config_integer.specs.Laws.Integer.{product_of}
use Rattle.config_integer.proofs.integer.product_as.Goals as goal

pub returns-in_default-to_decimal-clause-refused : goal.returns-in_default-to_decimal-clause-refused
returns-in_default-to_decimal-clause-refused g c = (
  product c.in-Some.integer,
  product_of _ c.in-Some.integer c.in-Some.ensures,
  c.in_default-to_decimal.ensures,
)
