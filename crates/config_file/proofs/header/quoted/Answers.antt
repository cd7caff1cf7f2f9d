use Rattle.std.proofs.Common.{rules}
use Rattle.config_file.proofs.Subsections.{passed_none, passed_run, passed_escaped, takes, stops_here}
use Rattle.config_file.proofs.Subsections.{stops_after_backslash, ends_here}
use Rattle.config_file.proofs.header.quoted.Goals as goal

pub pieces-init : goal.pieces-init
pieces-init c =
    (passed_run _ c.run.result.0.now (passed_none _) c.run.ensures.joined c.run.ensures.pass, c.run.ensures.longest)

pub returns-then-byte-eq34 : goal.returns-then-byte-eq34
returns-then-byte-eq34 c =
    takes c.pieces.at.now _ c.pieces.invariant.0 c.in-Some.ensures c.if-byte-eq34.true c.before-then-byte-eq34.ensures

pub returns-then-byte-ne92 : goal.returns-then-byte-ne92
returns-then-byte-ne92 c = stops_here c.pieces.at.now c.pieces.invariant.0
    (ends_here c.in-Some.ensures c.pieces.invariant.1 c.if-byte-eq34.false c.if-byte-ne92.true)

pub pieces-preserved : goal.pieces-preserved
pieces-preserved c =
    let (e, is, text) = c.in-Some-after_escaped.ensures in
    let passed = passed_escaped c.pieces.at.now c.pieces.invariant.0 c.in-Some.ensures is (search rules) text in (
      passed_run _ c.run-in-Some-after_escaped.result.0.now passed c.run-in-Some-after_escaped.ensures.joined c.run-in-Some-after_escaped.ensures.pass,
      c.run-in-Some-after_escaped.ensures.longest,
    )

pub returns-in-None : goal.returns-in-None
returns-in-None c =
    stops_after_backslash c.pieces.at.now c.pieces.invariant.0 c.in-Some.ensures (search rules) c.in-None.ensures

pub returns : goal.returns
returns c = stops_here c.pieces.at.now c.pieces.invariant.0 (rw c.in_default.ensures tt)
