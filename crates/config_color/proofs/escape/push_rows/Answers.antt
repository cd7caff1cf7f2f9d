use Rattle.std.proofs.Common.{◌+◌, length, arith}
use Rattle.config_color.proofs.EscapeLemmas.{continues_still, row_room, rows_more}
use Rattle.config_color.proofs.escape.push_rows.Goals as goal

pub loop-row-init : goal.loop-row-init
loop-row-init c = continues_still 0 c.args.text.now.bytes

pub push_row-requires : goal.push_row-requires
push_row-requires c =
    let short = c.loop-row.invariant.short (length c.args.text.now.bytes + 1) (omega arith) (omega arith) in
    row_room c.args.rows.now c.loop-row.row-index _ (length c.args.text.now.bytes) (length c.loop-row.text.bytes)
    c.loop-row-test.true c.requires short

pub loop-row-preserved : goal.loop-row-preserved
loop-row-preserved c =
    rows_more c.args.set.0 c.loop-row.row-index c.args.rows.now _ _ _ _ c.loop-row-test.true c.loop-row.invariant
    c.push_row.ensures
