use Rattle.std.proofs.Common.{rules}
use Rattle.gix_config_value_c.proofs.walk.texts_of.Goals as goal

pub returns : goal.returns
returns c = (
  c.in_ok-bytes.field-0,
  c.in_ok-bytes.ensures,
  search rules,
  search rules,
  search rules,
  search rules,
  search rules,
)
