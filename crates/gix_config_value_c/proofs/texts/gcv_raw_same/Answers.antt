use Rattle.std.proofs.Common.{refl}
use Rattle.gix_config_value_c.specs.Texts.ComparesInto.{compared, refused}
use Rattle.gix_config_value_c.proofs.texts.gcv_raw_same.Goals as goal

pub returns-in-Some-same : goal.returns-in-Some-same
returns-in-Some-same c =
    compared c.in-Some.kind c.in-Some-same.answer c.in-Some.ensures (rw (c.new.ensures, c.new-2.ensures) at c.in-Some-same.ensures.answer) c.flag_number.ensures refl

pub returns-in-None : goal.returns-in-None
returns-in-None c =
    refused c.in-Some.kind c.in-Some.ensures (rw (c.new.ensures, c.new-2.ensures) at c.in-None.ensures.answer) refl refl
