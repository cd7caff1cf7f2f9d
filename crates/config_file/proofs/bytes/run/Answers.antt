use Rattle.config_file.proofs.Runs.{run_split}
use Rattle.config_file.specs.Reading.Scans.{passes}
use Rattle.config_file.proofs.bytes.run.Goals as goal

pub returns : goal.returns
returns c =
    let run = run_split (passes c.args.class) c.args.text.now in
    let front = c.split_at.ensures.front in
    let back = c.split_at.ensures.back in
    rw (front, back, c.run_length.ensures.length) run
