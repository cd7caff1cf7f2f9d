use Rattle.std.proofs.Common.{ℕ, refl}
use Rattle.std.proofs.lemmas.Simd.{zip2_splat, length-chunk}
use Rattle.config_file.specs.Reading.Scans.{block, passes}
use Rattle.config_file.specs.declared.bytes.Class.TheVariants.{InQuotes}
use Rattle.config_file.proofs.Blocks.{both, run_is}
use Rattle.config_file.proofs.bytes.in_quotes_run.Goals as goal

pub returns : goal.returns
returns c =
    let v = block c.args.at c.args.text.now in
    let long = length-chunk c.args.at 16 c.args.text.now c.requires in
    run_is (passes InQuotes) c.args.text.now c.args.at _ c.requires c.type_inv.text c.first_set.ensures
    (both _ _ _ v (both _ _ _ v (both _ _ _ v (zip2_splat {Y = ℕ} _ v 16 0 long) (zip2_splat {Y = ℕ} _ v 16 10 long)) (zip2_splat {Y = ℕ} _ v 16 34 long)) (zip2_splat {Y = ℕ} _ v 16 92 long)) refl
