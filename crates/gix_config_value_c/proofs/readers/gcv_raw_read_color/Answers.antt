use Rattle.std.proofs.Common.{refl}
use Rattle.gix_config_value_c.specs.Readers.ReadsInto.{read, refused}
use Rattle.gix_config_value_c.proofs.readers.gcv_raw_read_color.Goals as goal

pub returns-in-Ok : goal.returns-in-Ok
returns-in-Ok c = read c.in-Ok.color c.in-Ok.ensures c.color_struct.ensures refl refl

pub returns-in-Err : goal.returns-in-Err
returns-in-Err c = refused c.in-Err.ensures.1 (c.in-Err.reason, c.in-Err.ensures.0, c.fault_number.ensures) refl refl
