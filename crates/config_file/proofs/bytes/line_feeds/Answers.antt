use Rattle.std.proofs.Common.{◌∙◌, length, ap, arith}
use Rattle.std.proofs.lemmas.List.{length-append}
use Rattle.config_file.specs.Value.{line_feeds}
use Rattle.config_file.proofs.LineEnds.{line_feeds_after, line_feeds_next}
use Rattle.config_file.proofs.bytes.line_feeds.Goals as goal

pub lines-preserved : goal.lines-preserved
lines-preserved c =
    let next = line_feeds_next c.in-Some.field-0-0 c.run.ensures c.in-Some.ensures in
    let long = ap length c.run.ensures.joined ∙ length-append c.run.result.0.now c.run.result.1.now in
    let left = ap length c.in-Some.ensures in (
      omega (arith, next, c.lines.invariant.0),
      omega (arith, long, left, c.lines.invariant.1),
    )

pub returns-clause-count : goal.returns-clause-count
returns-clause-count c =
    let none = line_feeds_after c.run.result.0.now c.run.result.1.now c.run.ensures.joined c.run.ensures.pass
    ∙ ap line_feeds c.in_default.ensures in
    omega (arith, none, c.lines.invariant.0)
