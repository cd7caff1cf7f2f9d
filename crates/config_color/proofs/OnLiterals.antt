-- Colors of literal texts: a function that computes them, and that it computes the grammar.
use Rattle.std.proofs.Common.{◌≡◌, ℕ, List, Some, None}
use Rattle.std.specs.Prelude.{⊤}
use Rattle.config_color.specs.declared.color.Color.{Color}
use Rattle.config_color.specs.Color.{ColorText}
use Rattle.config_color.specs.Space.{spellings}
use Rattle.config_color.specs.Reading.Split.{after_space, words}
use Rattle.config_color.specs.Reading.Color.{word_item, color_of}
use Rattle.config_color.specs.Laws.Color.{color_of-value}
use Rattle.config_word.proofs.OnLiterals.{item_on_literals}
use Rattle.config_text.specs.Value.{IsRefused}
use Rattle.config_text.proofs.OnLiterals.{refused_by}

-- what a proof unfolds to compute `color_of` of a literal
unfoldable pub color_on_literals : ⊤
unfolding item_on_literals spellings after_space words word_item
color_on_literals = tt

-- a text has the value that `color_of` returns for it, and is refused if `color_of` returns `None`
pub color_text : (t : List ℕ) (v : Color) → color_of t ≡ Some v → ColorText t v
color_text = color_of-value.derived

pub color_refused : (t : List ℕ) → color_of t ≡ None → IsRefused ColorText t
color_refused = refused_by color_of-value
