use Rattle.std.proofs.Common.{◌≡◌, true, length, ap, arith, rules, refl}
use Rattle.config_file.specs.Reading.Scans.{goes_on}
use Rattle.config_file.proofs.Bounds.{run_shortens}
use Rattle.config_file.proofs.Values.{passed_quote, passed_escape, passed_byte, passed_run, lines_over}
use Rattle.config_file.proofs.Values.{lines_over_escape, lines_within, escape_shortens, goes_on_along}
use Rattle.config_file.proofs.value.read_marked.Goals as goal

pub pieces-preserved-then-byte-eq34 : goal.pieces-preserved-then-byte-eq34
pieces-preserved-then-byte-eq34 c =
    record {
      passed = passed_run _ _ _ (passed_quote _ c.pieces.invariant.passed c.in-Some.ensures c.if-byte-eq34.true)
          c.run.ensures.joined c.run.ensures.pass;
      counted = lines_over c.pieces.invariant.passed c.in-Some.ensures (rw c.if-byte-eq34.true refl) c.run.ensures
          c.pieces.invariant.counted;
    }

pub overflow_add-lines : goal.overflow_add-lines
overflow_add-lines c =
    let within = lines_within c.pieces.invariant.passed c.pieces.invariant.counted in
    let few = c.in-Some-after_escape.ensures.few in
    search rules

pub pieces-preserved-in-Some-after_escape : goal.pieces-preserved-in-Some-after_escape
pieces-preserved-in-Some-after_escape c =
    let escapes = c.in-Some-after_escape.ensures.escapes in
    let passed = passed_escape _ c.pieces.invariant.passed c.in-Some.ensures c.if-byte-eq92.true escapes.0 in
    let run = c.run-in-Some-after_escape.ensures in
    record {
      passed = passed_run _ _ _ passed run.joined run.pass;
      counted = lines_over_escape c.pieces.invariant.passed c.in-Some.ensures c.if-byte-eq92.true escapes run
          c.pieces.invariant.counted;
    }

pub pieces-smaller-in-Some-after_escape : goal.pieces-smaller-in-Some-after_escape
pieces-smaller-in-Some-after_escape c =
    omega (
      arith,
      ap length c.in-Some.ensures,
      escape_shortens c.in-Some-after_escape.ensures.escapes.0,
      run_shortens c.run-in-Some-after_escape.ensures,
    )

pub pieces-preserved : goal.pieces-preserved
pieces-preserved c =
    let on : goes_on c.pieces.quoted c.in-Some.byte ≡ true = search rules in
    let passed = passed_byte c.pieces.quoted _ c.pieces.invariant.passed c.in-Some.ensures on c.if-byte-eq34.false
    c.if-byte-eq92.false in
    let run = c.run-then-goes_on.ensures in
    record {
      passed = passed_run c.pieces.quoted _ _ passed run.joined run.pass;
      counted = lines_over c.pieces.invariant.passed c.in-Some.ensures (goes_on_along _ _ on) run
          c.pieces.invariant.counted;
    }
