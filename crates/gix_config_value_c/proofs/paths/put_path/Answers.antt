use Rattle.std.proofs.Common.{arith, refl}
use Rattle.config_path.specs.declared.interpolate.Error.{Error}
use Rattle.config_path.specs.Interpolation.{refusal}
use Rattle.gix_config_value_c.specs.Faults.{path_fault_number}
use Rattle.gix_config_value_c.specs.Paths.{IsPathFault}
use Rattle.gix_config_value_c.specs.Paths.PutsPath.{refused}
use Rattle.gix_config_value_c.proofs.paths.put_path.Goals as goal

numbered : (e : Error) → IsPathFault (refusal e) (path_fault_number e)
numbered e = grind arith

pub returns-in-Ok : goal.returns-in-Ok
returns-in-Ok c = rw c.in-Ok.is (c.put_joint.ensures _)

pub returns-in-Err : goal.returns-in-Err
returns-in-Err c =
    rw (c.in-Err.is, c.path_fault_number.ensures) (refused (numbered c.in-Err.error) (refl, refl, refl))
