use Rattle.gix_config_value.proofs.OneAnswer.{any_output, input_output, agree_after}
use Rattle.gix_config_value.proofs.laws.answers.one_output.Goals as goal

pub returns : goal.returns
returns c = record {
  some = any_output;
  one = input_output c.one_outcome.ensures.one;
  failed = agree_after c.one_outcome.ensures.one;
}
