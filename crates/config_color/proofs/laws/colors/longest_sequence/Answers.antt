use Rattle.std.proofs.Common.{refl, Some}
use Rattle.std.specs.Fmt.{digits}
use Rattle.config_word.specs.declared.name.Name.TheVariants.{Rgb}
use Rattle.config_word.specs.Attribute.{attributes}
use Rattle.config_word.specs.Laws.Attribute.{bits_of}
use Rattle.config_color.specs.Escape.{attribute_codes}
use Rattle.config_color.proofs.laws.colors.longest_sequence.Goals as goal

-- all attributes, and white on white by its numbers
pub returns-clause-color : goal.returns-clause-color
unfolding attribute_codes attributes digits
returns-clause-color c = (
  record {
    foreground = Some (Rgb 255 255 255);
    background = Some (Rgb 255 255 255);
    attributes = record { 0 = bits_of attributes };
  },
  refl,
)
