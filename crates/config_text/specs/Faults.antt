-- The texts that faults are printed as: those of the Rust crate, except that `OutOfRange` names no type here.
use Rattle.std.specs.Prelude.{ℕ, List, codes}
use Rattle.config_text.specs.declared.errors.Fault.{Fault}
use Rattle.config_text.specs.declared.errors.Fault.TheVariants as faults

abbrev pub fault_text : Fault → List ℕ
fault_text faults.Boolean =
    codes "Booleans need to be 'no', 'off', 'false', '' or 'yes', 'on', 'true' or any number"
fault_text faults.Integer =
    codes "Integers needs to be positive or negative numbers which may have a suffix like 1k, 42, or 50G"
fault_text faults.Overflow = codes "integer suffix multiplication overflows `i64`"
fault_text faults.OutOfRange = codes "integer is out of range"
fault_text faults.Color =
    codes "Colors are specific color values and their attributes, like 'brightred', or 'blue'"
