-- The orders of the value types, which their crates define.
pub use Rattle.config_text.specs.Orders.{HasOrder, Equates, IsCopied}
pub use Rattle.config_integer.specs.Orders.{suffix_order, integer_order, amount_order}
pub use Rattle.config_boolean.specs.Orders.{boolean_order}
pub use Rattle.config_word.specs.Orders.{attribute_order, name_order}
pub use Rattle.config_color.specs.Orders.{color_order}
