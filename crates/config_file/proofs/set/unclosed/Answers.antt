use Rattle.config_file.specs.Set.{is_unclosed}
use Rattle.config_file.proofs.Runs.{run_split}
use Rattle.config_file.proofs.set.unclosed.Goals as goal

pub returns : goal.returns
returns c =
    let run = run_split is_unclosed c.args.text.now in
    let front = c.split_at.ensures.front in
    let back = c.split_at.ensures.back in
    rw (front, back, c.unclosed_count.ensures.count) run
