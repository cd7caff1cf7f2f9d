use Rattle.std.proofs.Common.{sym}
use Rattle.config_path.proofs.Pieces.{home_is_utf8}
use Rattle.config_path.proofs.interpolate.home_for_user.Goals as goal

pub returns-in-Err : goal.returns-in-Err
returns-in-Err c =
    absurd (c.in-Err.ensures.cases.0
    (home_is_utf8 c.as_bytes.result.now c.as_bytes-2.result.now c.in_ok-home.home.now c.as_bytes.ensures.utf8
    (sym c.in_ok-home.ensures)))
