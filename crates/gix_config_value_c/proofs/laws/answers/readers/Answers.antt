use Rattle.std.proofs.Common.{sym, ◌∙◌}
use Rattle.config_integer.specs.Laws.Suffix.{suffix_one_value}
use Rattle.config_integer.specs.Laws.Integer.{integer_one_value}
use Rattle.config_integer.specs.Laws.Amount.{amount_one_value}
use Rattle.config_boolean.specs.Laws.Boolean.{boolean_one_value}
use Rattle.config_word.specs.Laws.Name.{name_one_value}
use Rattle.config_word.specs.Laws.Attribute.{attribute_one_value}
use Rattle.config_color.specs.Laws.Color.{color_one_value}
use Rattle.gix_config_value_c.proofs.OneAnswer.{reads_once, one_fault, always_one, one_amount_fault}
use Rattle.gix_config_value_c.proofs.laws.answers.readers.Goals as goal

pub returns : goal.returns
returns c = record {
  suffixes = reads_once _ _ _ suffix_one_value (λ t m n p q. p ∙ sym q);
  integers = reads_once _ _ _ integer_one_value (one_fault _ (always_one _));
  amounts = reads_once _ _ _ amount_one_value (one_fault _ one_amount_fault);
  booleans = reads_once _ _ _ boolean_one_value (one_fault _ (always_one _));
  names = reads_once _ _ _ name_one_value (one_fault _ (always_one _));
  attributes = reads_once _ _ _ attribute_one_value (one_fault _ (always_one _));
  colors = reads_once _ _ _ color_one_value (one_fault _ (always_one _));
}
