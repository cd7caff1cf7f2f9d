use Rattle.std.proofs.Common.{◌≢◌, Some, None, [], sym, ◌∙◌, arith}
use Rattle.std.proofs.lemmas.Bool.Decides.{nat_tests}
use Rattle.config_color.specs.Laws.Color.{read_word}
use Rattle.config_color.proofs.color.Color.with_word.Goals as goal

pub returns-in_err-word : goal.returns-in_err-word
returns-in_err-word c =
    let some : c.args.text.now ≢ [] = λ e. grind (arith, nat_tests) in
    c.from_residual.ensures ∙ sym (read_word c.args.self c.args.text.now None some c.in_err-word.ensures)

pub returns : goal.returns
returns c =
    let some : c.args.text.now ≢ [] = λ e. grind (arith, nat_tests) in
    c.with_item.ensures ∙ sym (read_word c.args.self c.args.text.now (Some c.in_ok-word.field-0) some
    c.in_ok-word.ensures)
