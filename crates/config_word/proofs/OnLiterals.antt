-- The words of colors of literal texts: functions that compute them, and that these compute the grammars.
use Rattle.std.proofs.Common.{◌≡◌, ℕ, List, Option, Some, None}
use Rattle.std.specs.Prelude.{⊤}
use Rattle.config_word.specs.declared.attribute.Attribute.{Attribute}
use Rattle.config_word.specs.declared.item.Item.{Item}
use Rattle.config_word.specs.declared.name.Name.{Name}
use Rattle.config_word.specs.Attribute.{AttributeText, attributes}
use Rattle.config_word.specs.Item.{ItemText}
use Rattle.config_word.specs.Name.{NameText, word_names}
use Rattle.config_word.specs.Reading.Item.{item_of}
use Rattle.config_word.specs.Laws.Item.{item_name, item_attribute, item-law, name-law, attribute-law}
use Rattle.config_text.specs.Value.{IsRefused}
use Rattle.config_text.proofs.OnLiterals.{refused_by}

-- what a proof unfolds to compute `item_of`, `name_of` and `attribute_of` of a literal
unfoldable pub item_on_literals : ⊤
unfolding attributes word_names
item_on_literals = tt

-- functions that read name texts and attribute texts
abbrev pub name_of : List ℕ → Option Name
name_of t = item_name (item_of t)

abbrev pub attribute_of : List ℕ → Option Attribute
attribute_of t = item_attribute (item_of t)

-- a text has the item, name or attribute that these return for it, and is refused if they return `None`
pub item_text : (t : List ℕ) (v : Item) → item_of t ≡ Some v → ItemText t v
item_text = item-law.derived

pub item_refused : (t : List ℕ) → item_of t ≡ None → IsRefused ItemText t
item_refused = refused_by item-law

pub name_text : (t : List ℕ) (v : Name) → name_of t ≡ Some v → NameText t v
name_text = name-law.derived

pub name_refused : (t : List ℕ) → name_of t ≡ None → IsRefused NameText t
name_refused = refused_by name-law

pub attribute_text : (t : List ℕ) (v : Attribute) → attribute_of t ≡ Some v → AttributeText t v
attribute_text = attribute-law.derived

pub attribute_refused : (t : List ℕ) → attribute_of t ≡ None → IsRefused AttributeText t
attribute_refused = refused_by attribute-law
