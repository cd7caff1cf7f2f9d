use Rattle.std.proofs.Common.{refl}
use Rattle.config_word.specs.declared.name.Name.TheVariants.{BrightMagenta}
use Rattle.config_word.specs.Attribute.{attributes}
use Rattle.config_word.specs.Laws.Attribute.{attribute_short, bits_of}
use Rattle.config_word.specs.Laws.Name.{name_short}
use Rattle.config_word.proofs.laws.texts.longest.Goals as goal

pub returns-clause-names : goal.returns-clause-names
returns-clause-names c = name_short

pub returns-clause-name : goal.returns-clause-name
returns-clause-name c = (BrightMagenta, tt, refl)

pub returns-clause-sets : goal.returns-clause-sets
returns-clause-sets c = attribute_short

-- the set of all attributes
pub returns-clause-set : goal.returns-clause-set
unfolding attributes
returns-clause-set c = (bits_of attributes, refl)
