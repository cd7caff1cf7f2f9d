use Rattle.std.proofs.Common.{◌≡◌, ◌==◌, false, sym, ap, ◌∙◌, arith}
use Rattle.std.proofs.lemmas.Bool.{true≢false}
use Rattle.std.proofs.lemmas.Grind.{common_steps}
use Rattle.std.specs.List.{list_all, list_any}
use Rattle.config_word.specs.Laws.Attribute.{constant_told, is_shown, row-shown, rows-shown}
use Rattle.config_word.specs.Reading.Attribute.{shown_rows}
use Rattle.config_word.proofs.attribute.Attribute.word.Goals as goal

pub loop-shown-init : goal.loop-shown-init
loop-shown-init c = (
  ap (list_all is_shown) c.shown_words-shown-items.ensures.words ∙ rows-shown,
  sym (ap (list_any (λ row. row.0 == c.args.self.0)) c.shown_words-shown-items.ensures.words),
)

pub returns-then-eq : goal.returns-then-eq
returns-then-eq c =
    row-shown c.shown_words-shown-items.result.now c.loop-shown.shown-index _ c.args.self.0 (omega arith)
    c.loop-shown.invariant.0 (grind (arith, common_steps))

pub returns : goal.returns
returns c =
    let none : false ≡ list_any (λ row. row.0 == c.args.self.0) shown_rows = grind (arith, common_steps) in
    λ has. true≢false (sym ((rw (← none) at (constant_told c.args.self)).1 has))
