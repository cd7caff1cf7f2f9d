-- What a caller's proof cites for a literal text. A proof that unfolds a name such as `integer_on_literals`
-- can compute the function of the kind, such as `amount_of`. The result shows that the text has its value
-- (`amount_text`), or is refused (`amount_refused`). Then `read_ok`, `read_err`, `read_some` and `read_none`
-- say what a reader returned.
pub use Rattle.config_text.proofs.OnLiterals.{OneValue, read_some, read_none, read_ok, read_err}
unfoldable pub use Rattle.config_integer.proofs.OnLiterals.{integer_on_literals}
pub use Rattle.config_integer.proofs.OnLiterals.{integer_text, integer_refused, amount_of, amount_text}
pub use Rattle.config_integer.proofs.OnLiterals.{amount_refused, product_overflows, converts}
pub use Rattle.config_integer.specs.Reading.Integer.{integer_of}
unfoldable pub use Rattle.config_boolean.proofs.OnLiterals.{boolean_on_literals}
pub use Rattle.config_boolean.proofs.OnLiterals.{boolean_of, boolean_text, boolean_refused}
unfoldable pub use Rattle.config_word.proofs.OnLiterals.{item_on_literals}
pub use Rattle.config_word.proofs.OnLiterals.{item_text, item_refused, name_of, name_text, name_refused}
pub use Rattle.config_word.proofs.OnLiterals.{attribute_of, attribute_text, attribute_refused}
pub use Rattle.config_word.specs.Reading.Item.{item_of}
unfoldable pub use Rattle.config_color.proofs.OnLiterals.{color_on_literals}
pub use Rattle.config_color.proofs.OnLiterals.{color_text, color_refused}
pub use Rattle.config_color.specs.Reading.Color.{color_of}
