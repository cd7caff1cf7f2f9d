use Rattle.std.proofs.Common.{refl}
use Rattle.gix_config_value_c.specs.Readers.ReadsInto.{read}
use Rattle.gix_config_value_c.proofs.readers.gcv_raw_read_suffix.Goals as goal

pub returns-in-Ok : goal.returns-in-Ok
returns-in-Ok c = read c.in-Ok.suffix (rw c.new.ensures at c.in-Ok.ensures) c.suffix_number.ensures refl refl
