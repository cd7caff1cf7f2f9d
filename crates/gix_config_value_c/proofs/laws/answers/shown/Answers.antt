use Rattle.gix_config_value_c.specs.declared.status.Status.TheVariants as statuses
use Rattle.gix_config_value_c.proofs.OneAnswer.{puts_once, shows_once}
use Rattle.gix_config_value_c.proofs.NumbersApart.{units_apart, truths_apart}
use Rattle.gix_config_value_c.proofs.StructsApart.{integers_apart, names_apart, colors_apart}
use Rattle.gix_config_value_c.proofs.laws.answers.shown.Goals as goal

pub returns : goal.returns
returns c = record {
  texts = puts_once;
  suffixes = shows_once _ _ statuses.BadSuffix units_apart;
  integers = shows_once _ _ statuses.BadSuffix integers_apart;
  booleans = shows_once _ _ statuses.BadFlag truths_apart;
  names = shows_once _ _ statuses.BadName names_apart;
  colors = shows_once _ _ statuses.BadName colors_apart;
  sequences = shows_once _ _ statuses.BadName colors_apart;
}
