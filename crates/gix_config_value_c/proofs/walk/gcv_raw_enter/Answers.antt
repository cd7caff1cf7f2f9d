use Rattle.std.proofs.Common.{arith, refl, []}
use Rattle.config_file.proofs.Steps.{enters}
use Rattle.gix_config_value_c.specs.Walks.EntersInto.{entered}
use Rattle.gix_config_value_c.proofs.walk.gcv_raw_enter.Goals as goal

pub returns : goal.returns
returns c =
    entered (record { name = c.args.name; real_dir = c.args.real_dir }) _ (omega (arith, c.if-count-ge-MOST_FRAMES.false)) refl refl
    (enters [] _ (record { name = c.args.name; real_dir = c.args.real_dir }) c.args.text.now c.new-entries.result
    c.new-entries.ensures.section c.new-entries.ensures.begins refl) c.held.ensures refl refl
