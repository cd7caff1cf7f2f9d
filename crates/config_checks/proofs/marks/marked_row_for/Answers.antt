use Rattle.std.proofs.Common.{inr}
use Rattle.config_file.specs.KeyView.{key_of}
use Rattle.config_checks.specs.Rows.{rows_of}
use Rattle.config_checks.proofs.MarkLemmas.{none_covers}
use Rattle.config_checks.proofs.marks.marked_row_for.Goals as goal

pub returns-then-lacks_marks-clause-row : goal.returns-then-lacks_marks-clause-row
returns-then-lacks_marks-clause-row c =
    let key = key_of c.in_ok-key.key in
    inr (
      key,
      c.in_ok-key.ensures,
      none_covers (rows_of c.args.runs.now) c.args.marks.now key c.requires.marked
          (c.lacks_marks.ensures c.if-lacks_marks.true),
    )
