use Rattle.std.proofs.Common.{arith}
use Rattle.std.proofs.lemmas.Int.{clamps}
use Rattle.config_checks.proofs.NearestLemmas.{lengths_near}
use Rattle.config_checks.proofs.LackLemmas.{lacking_edits}
use Rattle.config_checks.proofs.alike.is_beyond.Goals as goal

pub returns-then-abs_diff-most : goal.returns-then-abs_diff-most
returns-then-abs_diff-most c = λ yes n few.
    let near = lengths_near c.args.row.now c.args.name.now n few.0 in
    let most = few.1 in
    omega (
      arith,
      clamps,
      near.0,
      near.1,
      c.if-abs_diff-most.true,
      most,
      c.abs_diff.ensures,
      c.most_edits-most.ensures,
    )

pub returns-else-abs_diff-most : goal.returns-else-abs_diff-most
returns-else-abs_diff-most c = λ yes n few.
    let lacking = lacking_edits c.args.row.now c.args.name.now n few.0 in
    let more = c.has_more.ensures yes in
    let most = few.1 in
    omega (arith, lacking, more, most, c.most_edits-most.ensures)
