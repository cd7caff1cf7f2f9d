use Rattle.std.proofs.Common.{arith}
use Rattle.std.proofs.lemmas.Int.{clamps}
use Rattle.config_checks.proofs.NearestLemmas.{lengths_near}
use Rattle.config_checks.proofs.LackLemmas.{lacking_edits}
use Rattle.config_checks.proofs.edits.few_edits.Goals.{then-abs_diff-most-via-then-abs_diff-most}
use Rattle.config_checks.proofs.edits.few_edits.Goals.{then-abs_diff-most-via-else-abs_diff-most+then-lacks_more}
use Rattle.config_checks.proofs.edits.few_edits.Goals as goal

pub returns-then-abs_diff-most : goal.returns-then-abs_diff-most
returns-then-abs_diff-most c n few =
    let near = lengths_near c.args.from.now c.args.to.now n few.0 in
    let lacking = lacking_edits c.args.from.now c.args.to.now n few.0 in
    let most = few.1 in
    elim c.then-abs_diff-most.branch [
      | then-abs_diff-most-via-then-abs_diff-most w ↦
          absurd (omega (
            arith,
            clamps,
            near.0,
            near.1,
            w.if-abs_diff-most.true,
            most,
            c.abs_diff.ensures,
            c.most_edits-most.ensures,
          ))
      | then-abs_diff-most-via-else-abs_diff-most+then-lacks_more w ↦
          absurd (omega (
            arith,
            lacking,
            w.lacks_more.ensures w.if-lacks_more.true,
            most,
            c.most_edits-most.ensures,
          ))
    ]
