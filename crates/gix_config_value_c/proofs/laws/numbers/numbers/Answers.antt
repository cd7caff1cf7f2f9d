use Rattle.gix_config_value_c.proofs.NumbersApart.{statuses_apart, roles_apart, kinds_apart, suffixes_apart, depths_apart, flags_apart}
use Rattle.gix_config_value_c.proofs.NumbersApart.{reasons_apart}
use Rattle.gix_config_value_c.proofs.laws.numbers.numbers.Goals as goal

pub returns : goal.returns
returns c = record {
  statuses = statuses_apart;
  roles = roles_apart;
  kinds = kinds_apart;
  suffixes = suffixes_apart;
  flags = flags_apart;
  depths = depths_apart;
  reasons = reasons_apart;
}
