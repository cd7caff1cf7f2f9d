use Rattle.std.proofs.Common.{◌≡◌, ◌+◌, ◌≤◌, drop, length, ap, sym, ◌∙◌, subst, arith}
use Rattle.std.specs.List.{prefix_len}
use Rattle.config_file.specs.Reading.Scans.{passes}
use Rattle.config_file.proofs.Blocks.{in_block, whole_block, short_block}
use Rattle.config_file.proofs.bytes.run_length.Goals as goal

pub overflow_add-passed : goal.overflow_add-passed
overflow_add-passed c =
    let room : c.strides.passed + 16 ≤ length c.args.text.now = omega arith in
    let within = in_block _ _ _ _ room c.block_run-run.ensures in
    omega (arith, room, within)

pub returns-then-run-lt-LANES-clause-length : goal.returns-then-run-lt-LANES-clause-length
returns-then-run-lt-LANES-clause-length c =
    let room : c.strides.passed + 16 ≤ length c.args.text.now = omega arith in
    ap (λ n. c.strides.passed + n) (sym (short_block _ _ _ _ room c.block_run-run.ensures c.if-run-lt-LANES.true))
    ∙ c.strides.invariant.0

pub strides-preserved : goal.strides-preserved
strides-preserved c =
    let room : c.strides.passed + 16 ≤ length c.args.text.now = omega arith in
    let within = in_block _ _ _ _ room c.block_run-run.ensures in
    let whole : c.block_run-run.result ≡ 16 = omega (arith, within, c.if-run-lt-LANES.false) in
    let more = whole_block _ _ _ _ room c.block_run-run.ensures whole in (
      subst (λ k. c.strides.passed + k + prefix_len (passes c.args.class) (drop (c.strides.passed + k) c.args.text.now)
          ≡ prefix_len (passes c.args.class) c.args.text.now) (sym whole) (omega (arith, more, c.strides.invariant.0)),
      omega (arith, room, whole),
    )
