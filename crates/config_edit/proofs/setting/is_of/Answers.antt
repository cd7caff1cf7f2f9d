use Rattle.std.proofs.Common.{option_map}
use Rattle.config_file.specs.KeyView.{key_of}
use Rattle.config_file.specs.Views.{section_of, value_of}
use Rattle.config_file.specs.File.{entry_at}
use Rattle.config_edit.proofs.Replaced.{is_listed, has_key, of_key}
use Rattle.config_edit.proofs.setting.is_of.Goals as goal

pub returns : goal.returns
returns c = λ listable.
    let section = option_map section_of c.args.section.now in
    let parts = c.args.parts.now in
    let key = key_of c.args.key.now in
    let entry = entry_at section parts.key.now (value_of parts.value) 0 in
    let (text, listed) = is_listed section parts.key.now listable in
    let (there, back) = c.is_of.ensures text listed in
    (λ is. of_key entry key (there is), λ is. back (has_key entry key is))
