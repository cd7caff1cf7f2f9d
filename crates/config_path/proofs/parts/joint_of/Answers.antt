use Rattle.config_path.specs.Interpolation.Form.{below_prefix, below_home}
use Rattle.config_path.proofs.parts.joint_of.Goals as goal

pub returns-in-BelowPrefix : goal.returns-in-BelowPrefix
returns-in-BelowPrefix g c =
    record {
      form = below_prefix c.in-BelowPrefix.rest.now;
      has_form = c.in-BelowPrefix.ensures;
      gives = c.below_dir.ensures;
    }

pub returns-in-BelowHome : goal.returns-in-BelowHome
returns-in-BelowHome g c = record {
  form = below_home _;
  has_form = c.in-BelowHome.ensures;
  gives = c.below_dir-in-BelowHome.ensures;
}
