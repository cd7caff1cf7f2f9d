use Rattle.std.proofs.Common.{refl}
use Rattle.config_path.specs.Interpolation.WhereUtf8.{utf8}
use Rattle.config_path.proofs.parts.below_user.Goals as goal

pub returns : goal.returns
returns g c =
    let name = c.in_ok-name.ensures in
    rw c.in-Some.is (utf8 name.1
    (_, (c.home_of.result, (rw name.0 at c.home_of.ensures), refl), c.below_dir.ensures))
