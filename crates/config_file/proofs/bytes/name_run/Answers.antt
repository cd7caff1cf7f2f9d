use Rattle.std.proofs.Common.{ℕ, leb, cond, bit_and, refl}
use Rattle.std.proofs.lemmas.Simd.{zip2_splat, length-chunk}
use Rattle.config_file.specs.Reading.Scans.{block, passes}
use Rattle.config_file.specs.declared.bytes.Class.TheVariants.{Name}
use Rattle.config_file.proofs.Blocks.{both, constant, run_is}
use Rattle.config_file.proofs.bytes.name_run.Goals as goal

pub returns : goal.returns
returns c =
    let v = block c.args.at c.args.text.now in
    let long = length-chunk c.args.at 16 c.args.text.now c.requires in
    run_is (passes Name) c.args.text.now c.args.at _ c.requires c.type_inv.text c.first_set.ensures
    (both bit_and _ _ v (both bit_and _ _ v (both bit_and _ _ v (both (λ a b. cond (leb a b) 255 0) _ _ v (constant v 16 26 long) (both _ _ _ v (zip2_splat {Y = ℕ} _ v 16 32 long) (constant v 16 97 long)))
    (both (λ a b. cond (leb a b) 255 0) _ _ v (constant v 16 10 long) (zip2_splat {Y = ℕ} _ v 16 48 long))) (zip2_splat {Y = ℕ} _ v 16 45 long)) (zip2_splat {Y = ℕ} _ v 16 46 long)) refl
