use Rattle.std.proofs.Common.{◌≡◌, ◌↔◌, IsTrue, ap}
use Rattle.config_word.specs.declared.item.Item.{Item}
use Rattle.config_word.specs.declared.item.Item.TheVariants as items
use Rattle.config_word.specs.contracts.attribute.AttributeValue.TheImpl.Laws.{equal_is_same-law as attribute_equal}
use Rattle.config_word.specs.contracts.item.ItemPartialEq.TheImpl.{ghosts}
use Rattle.config_word.specs.contracts.name.NameValue.TheImpl.Laws.{equal_is_same-law as name_equal}
use Rattle.config_word.proofs.laws.equality.items.Goals as goal

item_equal : (i j : Item) → (IsTrue (ghosts.eq i j)) ↔ (i ≡ j)
item_equal (items.Name m) (items.Name n) =
    (λ h. ap items.Name ((name_equal m n).0 h), λ e. (name_equal m n).1 (cc))
item_equal (items.Attribute a) (items.Attribute b) =
    (λ h. ap items.Attribute ((attribute_equal a b).0 h), λ e. (attribute_equal a b).1 (cc))
item_equal (items.Name m) (items.Attribute b) = (λ h. cc, λ e. cc)
item_equal (items.Attribute a) (items.Name n) = (λ h. cc, λ e. cc)

pub returns-clause-equality : goal.returns-clause-equality
returns-clause-equality c = item_equal
