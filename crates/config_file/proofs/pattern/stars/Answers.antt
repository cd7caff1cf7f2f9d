use Rattle.config_file.specs.Pattern.{is_star}
use Rattle.config_file.proofs.Runs.{run_split}
use Rattle.config_file.proofs.pattern.stars.Goals as goal

pub returns : goal.returns
returns c =
    let run = run_split is_star c.args.pattern.now in
    let front = c.split_at.ensures.front in
    let back = c.split_at.ensures.back in
    rw (front, back, c.star_count.ensures.count) run
