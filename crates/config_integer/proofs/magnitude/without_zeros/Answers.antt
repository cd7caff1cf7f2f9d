use Rattle.std.proofs.Common.{◌∙◌, refl, rules, slice_index, ◌≡◌}
use Rattle.config_integer.proofs.Counting.{without_run, without_zero}
use Rattle.config_integer.proofs.magnitude.without_zeros.Goals as goal

pub loop-rest-preserved-then-begins_with_run : goal.loop-rest-preserved-then-begins_with_run
loop-rest-preserved-then-begins_with_run c =
    let run = c.begins_with_run.ensures.0 c.if-begins_with_run.true in
    let first : slice_index c.loop-rest.rest.now 0 ≡ 48 = search rules in
    let second : slice_index c.loop-rest.rest.now 1 ≡ 48 = search rules in
    λ base limit low high.
    without_run base limit c.loop-rest.rest.now _ c.in-48.len_at_least first second _ refl run low high
    ∙ c.loop-rest.invariant base limit low high

pub loop-rest-preserved : goal.loop-rest-preserved
loop-rest-preserved c =
    let first : slice_index c.loop-rest.rest.now 0 ≡ 48 = search rules in
    let second : slice_index c.loop-rest.rest.now 1 ≡ 48 = search rules in
    λ base limit low high.
    without_zero base limit c.loop-rest.rest.now c.in-48.len_at_least first second low high
    ∙ c.loop-rest.invariant base limit low high
