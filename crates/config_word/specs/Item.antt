-- A word of a color text: a name text or an attribute text.
use Rattle.std.specs.Prelude.{ℕ, List}
use Rattle.config_word.specs.declared.item.Item.{Item}
use Rattle.config_word.specs.declared.item.Item.TheVariants as items
use Rattle.config_word.specs.Attribute.{AttributeText}
use Rattle.config_word.specs.Name.{NameText}

-- item text: a name text if the item is a name, and an attribute text if it is an attribute
abbrev pub ItemText : List ℕ → Item → Type 0
ItemText t (items.Name n) = NameText t n
ItemText t (items.Attribute a) = AttributeText t a
