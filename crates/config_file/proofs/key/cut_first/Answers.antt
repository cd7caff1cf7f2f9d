use Rattle.config_file.proofs.Keys.{first_run, not_cut, cut_here}
use Rattle.config_file.proofs.key.cut_first.Goals as goal

pub returns-in_err-after : goal.returns-in_err-after
returns-in_err-after c =
    let cut = c.split_at.ensures in
    let run = first_run c.first_dot.result c.first_dot.ensures.count cut.front cut.back in
    rw c.from_residual.ensures (not_cut c.split_at.result.1.now run c.in_err-after.ensures)

pub returns : goal.returns
returns c =
    let cut = c.split_at.ensures in
    let run = first_run c.first_dot.result c.first_dot.ensures.count cut.front cut.back in
    cut_here c.split_at.result.1.now run c.in_ok-after.ensures
