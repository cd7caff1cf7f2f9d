-- The name that a struct's tag says, with the numbers that it uses.
use Rattle.std.specs.Prelude.{◌==◌, ◌-◌, Option, None, Some, if◌then◌else◌}
use Rattle.std.specs.List.{slice_get}
use Rattle.config_word.specs.declared.name.Name.{Name}
use Rattle.config_word.specs.declared.name.Name.TheVariants.{Ansi, Rgb}
use Rattle.config_word.specs.Name.{word_names}
use Rattle.gix_config_value_c.specs.declared.structs.GcvName.{GcvName}

abbrev pub tagged_name : GcvName → Option Name
tagged_name c =
    if c.tag == 0 then None
    else if c.tag == 19 then Some (Ansi c.palette)
    else if c.tag == 20 then Some (Rgb c.red c.green c.blue)
    else slice_get word_names (c.tag - 1)
