use Rattle.gix_config_value_c.proofs.StructsApart.{integers_apart, names_apart, parts_apart, colors_apart}
use Rattle.gix_config_value_c.proofs.laws.structs.structs.Goals as goal

pub returns : goal.returns
returns c = record {
  integers = integers_apart;
  names = names_apart;
  parts = parts_apart;
  colors = colors_apart;
}
