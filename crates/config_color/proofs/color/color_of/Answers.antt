use Rattle.std.proofs.Common.{drop, sym, ap, ◌∙◌, arith}
use Rattle.std.proofs.lemmas.List.{take_rest, drop-drop, nil_from_length}
use Rattle.std.proofs.lemmas.Bool.Decides.{nat_tests}
use Rattle.config_color.specs.Laws.Color.{reads_word, walk, walk_refused, walk_done, walk_too_long}
use Rattle.config_color.specs.Laws.ColorShown.{none_told}
use Rattle.config_color.specs.Reading.Color.{read_from}
use Rattle.config_color.specs.Reading.Split.{words}
use Rattle.config_color.proofs.color.color_of.Goals as goal

pub returns-then-is_none : goal.returns-then-is_none
returns-then-is_none c =
    let none = none_told c.word_between.result c.is_none.result c.is_none.ensures c.if-is_none.true in
    reads_word c.args.input.now _ (rw none at c.word_between.ensures) (rw c.default.ensures at c.with_word.ensures)

pub returns-in_err-color : goal.returns-in_err-color
returns-in_err-color c =
    let piece_read = rw c.split_at.ensures.front at c.with_word-in-loop-rest.ensures in
    rw c.from_residual-in_err-color.ensures
    (walk_refused _ _ _ _ _ c.loop-rest.invariant c.in_ok-first.ensures (sym piece_read ∙ c.in_err-color.was))

pub loop-rest-preserved : goal.loop-rest-preserved
loop-rest-preserved c =
    let first = c.in_ok-first.first in
    let piece_read = rw c.split_at.ensures.front at c.with_word-in-loop-rest.ensures in
    walk _ _ _ _ _ _ c.loop-rest.invariant c.in_ok-first.ensures (sym piece_read ∙ c.in_ok-color.was)
    ∙ ap (read_from c.in_ok-color.color) (sym (c.past_spaces-rest-in-loop-rest.ensures.same
    ∙ ap words (take_rest c.split_at.result.1.now first.space
    ∙ (ap (drop first.space) c.split_at.ensures.back
    ∙ drop-drop first.space first.length c.loop-rest.rest.now))))

pub returns : goal.returns
returns c =
    let no_more = nil_from_length c.loop-rest.rest.now (grind (arith, nat_tests)) in
    walk_done c.args.input.now c.loop-rest.color
    (c.loop-rest.invariant ∙ ap (λ t. read_from c.loop-rest.color (words t)) no_more)

pub returns-in_err-first : goal.returns-in_err-first
returns-in_err-first c =
    rw c.from_residual.ensures (walk_too_long _ _ _ c.loop-rest.invariant c.in_err-first.ensures)
