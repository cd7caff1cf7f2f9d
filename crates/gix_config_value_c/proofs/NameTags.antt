-- The name is found again from its struct.
use Rattle.std.proofs.Common.{◌≡◌, refl, ap, ◌∙◌, Option, Some}
use Rattle.config_word.specs.declared.name.Name.{Name}
use Rattle.config_word.specs.declared.name.Name.TheVariants.{Ansi, Rgb}
use Rattle.config_word.specs.Name.{word_names}
use Rattle.gix_config_value_c.specs.declared.structs.GcvName.{GcvName}
use Rattle.gix_config_value_c.specs.Reading.Structs.{tagged_name}
use Rattle.gix_config_value_c.specs.Structs.{name_struct}

pub name_tagged : (v : Name) → tagged_name (name_struct v) ≡ Some v
unfolding word_names
name_tagged (Ansi n) = refl
name_tagged (Rgb r g b) = refl
name_tagged v = refl

pub tagged_as : (c : GcvName) (v : Name) (o : Option Name) → o ≡ tagged_name c → c ≡ name_struct v
    → o ≡ Some v
tagged_as c v o is e = is ∙ ap tagged_name e ∙ name_tagged v
