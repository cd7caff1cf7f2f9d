use Rattle.config_path.specs.Passwd.{colon, pieces}
use Rattle.config_path.specs.Reading.Fields.{FollowsFields}
use Rattle.config_path.proofs.interpolate.past_fields.Given as goal

abbrev pub invariant-loop-field : goal.invariant-loop-field
invariant-loop-field l =
    FollowsFields l._field (pieces colon l.fn.line) (pieces colon l.rest)
