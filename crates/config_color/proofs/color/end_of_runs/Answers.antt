use Rattle.std.proofs.Common.{◌+◌, arith}
use Rattle.config_color.specs.Laws.Space.{plain_run}
use Rattle.config_color.proofs.color.end_of_runs.Goals as goal

pub loop-at-preserved : goal.loop-at-preserved
loop-at-preserved c =
    let plain = c.is_plain_run.ensures c.if-is_plain_run.true in
    (omega arith, plain_run c.args.text.now c.loop-at.at (c.loop-at.at + 16) c.loop-at.invariant.1 plain)
