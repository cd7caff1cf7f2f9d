use Rattle.std.proofs.Common.{◌<◌, ◌∙◌, refl, arith, length, get_or, set, true}
use Rattle.std.specs.Char.{to_ascii_lowercase, to_ascii_uppercase}
use Rattle.std.proofs.lemmas.List.{length-set, take_all}
use Rattle.config_checks.proofs.AlikeLemmas.{bytes_more}
use Rattle.config_checks.proofs.alike.marked_bytes.Goals as goal

pub loop-byte-init : goal.loop-byte-init
loop-byte-init c = (refl, λ k d inside. absurd (omega (arith, inside)))

pub loop-byte-preserved : goal.loop-byte-preserved
loop-byte-preserved c =
    let name = c.args.name.now in
    let i = c.loop-byte.byte-index in
    let is = c.from.ensures ∙ c.to_ascii_lowercase.ensures.value in
    let also = c.from-in-loop-byte.ensures ∙ c.to_ascii_uppercase.ensures.value in
    let long = c.loop-byte.invariant.0 in
    let inside : to_ascii_lowercase (get_or name i 0) < length c.loop-byte.bytes =
    omega (arith, c.to_ascii_lowercase.type_inv, c.to_ascii_lowercase.ensures.value, long) in
    let below : to_ascii_uppercase (get_or name i 0) < length c.loop-byte.bytes =
    omega (arith, c.to_ascii_uppercase.type_inv, c.to_ascii_uppercase.ensures.value, long) in
    rw (is, also) (
      length-set (set c.loop-byte.bytes (to_ascii_lowercase (get_or name i 0)) true) _ true
          ∙ length-set c.loop-byte.bytes (to_ascii_lowercase (get_or name i 0)) true ∙ long,
      bytes_more name i c.loop-byte.bytes c.loop-byte-test.true inside below c.loop-byte.invariant.1,
    )

pub returns : goal.returns
returns c =
    rw (take_all c.loop-byte.byte-index c.args.name.now
    (omega (arith, c.loop-byte-test.false))) at c.loop-byte.invariant.1
