use Rattle.std.proofs.Common.{rules, refl}
use Rattle.gix_config_value_c.specs.Readers.ReadsInto.{read, refused}
use Rattle.gix_config_value_c.proofs.readers.gcv_raw_read_amount.Goals as goal

pub returns-in-Ok : goal.returns-in-Ok
returns-in-Ok c = read c.in-Ok.amount c.in-Ok.ensures (search rules) refl refl

pub returns-in-Err : goal.returns-in-Err
returns-in-Err c = refused c.in-Err.ensures.1 (c.in-Err.reason, c.in-Err.ensures.0, c.fault_number.ensures) refl refl
