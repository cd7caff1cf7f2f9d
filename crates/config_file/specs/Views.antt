-- What the structs of the reader hold, as bytes.
use Rattle.std.specs.Prelude.{ℕ, List, Option, option_map}
use Rattle.config_file.specs.declared.entry.Entry as code
use Rattle.config_file.specs.declared.section.Section as section
use Rattle.config_file.specs.declared.value.Value as value
use Rattle.config_file.specs.Header.{Section}
use Rattle.config_file.specs.File.{Entry, entry_at}

-- the bytes of a section: its name, and its subsection
abbrev pub section_of : section.Section → Section
section_of s = (s.name.now, option_map (λ subsection. subsection.raw.now) s.subsection)

-- the bytes of a value
abbrev pub value_of : Option value.Value → Option (List ℕ)
value_of v = option_map (λ value. value.raw.now) v

-- the bytes of an entry, and its line
abbrev pub entry_of : code.Entry → Entry
entry_of e = entry_at (option_map section_of e.section) e.key.now (value_of e.value) e.line
