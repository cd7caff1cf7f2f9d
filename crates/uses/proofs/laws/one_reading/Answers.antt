use Rattle.std.proofs.Common.{sym, ◌∙◌}
use Rattle.config_boolean.specs.Laws.Boolean.{boolean_one_value}
use Rattle.config_color.specs.Laws.Color.{color_one_value}
use Rattle.config_integer.specs.Laws.Amount.{amount_one_value}
use Rattle.config_integer.specs.Laws.Integer.{integer_one_value, one_refusal}
use Rattle.config_word.specs.Laws.Attribute.{attribute_one_value}
use Rattle.config_word.specs.Laws.Name.{name_one_value}
use Rattle.uses.proofs.laws.one_reading.Goals as goal

pub returns-clause-integers : goal.returns-clause-integers
returns-clause-integers c = record { one_value = integer_one_value; one_fault = λ t e f none p q. p ∙ sym q }

pub returns-clause-amounts : goal.returns-clause-amounts
returns-clause-amounts c =
    record { one_value = amount_one_value; one_fault = λ t e f none p q. one_refusal _ t e f p q }

pub returns-clause-booleans : goal.returns-clause-booleans
returns-clause-booleans c = record { one_value = boolean_one_value; one_fault = λ t e f none p q. p ∙ sym q }

pub returns-clause-names : goal.returns-clause-names
returns-clause-names c = record { one_value = name_one_value; one_fault = λ t e f none p q. p ∙ sym q }

pub returns-clause-attributes : goal.returns-clause-attributes
returns-clause-attributes c = record { one_value = attribute_one_value; one_fault = λ t e f none p q. p ∙ sym q }

pub returns-clause-colors : goal.returns-clause-colors
returns-clause-colors c = record { one_value = color_one_value; one_fault = λ t e f none p q. p ∙ sym q }
