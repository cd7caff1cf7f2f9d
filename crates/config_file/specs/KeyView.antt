-- What the struct of a key holds, as bytes.
use Rattle.std.specs.Prelude.{option_copied}
use Rattle.config_file.specs.declared.key.Key as code
use Rattle.config_file.specs.Key.{Key, key}

-- the parts of a key
abbrev pub key_of : code.Key → Key
key_of k = key k.section.now (option_copied k.subsection) k.name.now
