-- No two values have the same struct.
use Rattle.std.proofs.Common.{arith, ◌≡◌, Option, None, Some, refl, ap}
use Rattle.config_color.specs.Laws.Color.{same_color}
use Rattle.config_word.specs.declared.name.Name.{Name}
use Rattle.gix_config_value_c.specs.Answers.{TellsApart}
use Rattle.gix_config_value_c.specs.Reading.Structs.{tagged_name}
use Rattle.gix_config_value_c.specs.Structs.{integer_struct, name_struct, part_struct, color_struct}
use Rattle.gix_config_value_c.proofs.NameTags.{name_tagged}
use Rattle.gix_config_value_c.proofs.NumbersApart.{told_apart, suffixes_apart}

pub integers_apart : TellsApart integer_struct
integers_apart v w same = grind (arith, suffixes_apart)

pub names_apart : TellsApart name_struct
names_apart = told_apart name_struct tagged_name name_tagged

pub parts_apart : TellsApart part_struct
parts_apart = told_apart part_struct (λ c. Some (tagged_name c)) again where
  again : (part : Option Name) → Some (tagged_name (part_struct part)) ≡ Some part
  again None = refl
  again (Some n) = ap Some (name_tagged n)

pub colors_apart : TellsApart color_struct
colors_apart v w same =
    same_color v w (parts_apart v.foreground w.foreground (ap (λ c. c.foreground) same))
    (parts_apart v.background w.background (ap (λ c. c.background) same)) (ap (λ c. c.attributes) same)
