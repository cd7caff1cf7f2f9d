use Rattle.std.proofs.Common.{◌++◌, [], length, map, true, sym, ap, ◌∙◌, arith}
use Rattle.std.proofs.lemmas.List.{append-nil, length-append, length-map}
use Rattle.config_word.specs.declared.attribute.TheConstants.{HALF}
use Rattle.config_word.specs.Attribute.{attributes}
use Rattle.config_word.specs.Laws.Attribute.{attribute_short, both_parts, remaining-none, remaining-prefix}
use Rattle.config_word.specs.Reading.Attribute.{remaining, shown_row, words_in}
use Rattle.config_word.proofs.attribute.Attribute.push_to.Goals as goal

pub split_at-requires : goal.split_at-requires
unfolding attributes
split_at-requires c =
    let size = sym (length-map c.shown_words.result.now shown_row) ∙ ap length c.shown_words.ensures.words in
    omega arith

pub push_words-is_first-requires : goal.push_words-is_first-requires
push_words-is_first-requires c =
    let short = attribute_short c.args.self.0 in
    let whole = ap length (both_parts c.args.self.0 HALF c.shown_words.result.now _ _
    c.shown_words.ensures.words c.split_at.ensures.front c.split_at.ensures.back) in
    let part = remaining-prefix true (words_in c.args.self.0 (map shown_row c.split_at.result.0.now))
    (words_in c.args.self.0 (map shown_row c.split_at.result.1.now)) in
    omega arith

pub push_words-requires : goal.push_words-requires
push_words-requires c =
    let short = attribute_short c.args.self.0 in
    let whole = ap length (both_parts c.args.self.0 HALF c.shown_words.result.now _ _
    c.shown_words.ensures.words c.split_at.ensures.front c.split_at.ensures.back) in
    let written = sym (length-append c.push_words-is_first.new.text.bytes _)
    ∙ ap length (c.push_words-is_first.ensures (words_in c.args.self.0 (map shown_row c.split_at.result.1.now)))
    ∙ length-append c.args.text.now.bytes _ in
    omega arith

pub returns : goal.returns
returns c =
    let later = words_in c.args.self.0 (map shown_row c.split_at.result.1.now) in
    sym (append-nil c.push_words.new.text.bytes)
    ∙ ap (λ rest. c.push_words.new.text.bytes ++ rest) (sym (remaining-none c.push_words.result))
    ∙ c.push_words.ensures []
    ∙ ap (λ words. c.push_words-is_first.new.text.bytes ++ remaining c.push_words-is_first.result words)
    (append-nil later)
    ∙ c.push_words-is_first.ensures later
    ∙ ap (λ rest. c.args.text.now.bytes ++ rest)
    (both_parts c.args.self.0 HALF c.shown_words.result.now _ _
    c.shown_words.ensures.words c.split_at.ensures.front c.split_at.ensures.back)
