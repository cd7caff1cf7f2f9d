use Rattle.std.proofs.Common.{◌++◌, ◌∷◌, ◌/◌, ◌%◌, ◌+◌, sym, ap, ◌∙◌, append_assoc, arith, ◌<◌, ◌≤◌}
use Rattle.std.proofs.lemmas.Bool.Decides.{nat_tests}
use Rattle.std.proofs.lemmas.Fmt.{decimal_digit}
use Rattle.config_color.proofs.EscapeLemmas.{two_digits, three_digits}
use Rattle.config_color.proofs.escape.push_decimal.Goals as goal

pub returns-then-number-lt10 : goal.returns-then-number-lt10
returns-then-number-lt10 c =
    c.push_str.ensures.bytes
    ∙ ap (λ ds. c.args.text.now.bytes ++ ds)
    (c.digit.ensures ∙ sym (decimal_digit c.args.number (grind (arith, nat_tests))))

pub returns-then-number-lt100 : goal.returns-then-number-lt100
returns-then-number-lt100 c =
    let least : 10 ≤ c.args.number = grind (arith, nat_tests) in
    let most : c.args.number < 100 = grind (arith, nat_tests) in
    c.push_str-then-number-lt100-2.ensures.bytes
    ∙ ap (λ t. t ++ c.digit-then-number-lt100-2.result.now) c.push_str-then-number-lt100.ensures.bytes
    ∙ append_assoc c.args.text.now.bytes c.digit-then-number-lt100.result.now _
    ∙ ap (λ ds. c.args.text.now.bytes ++ ds)
    (ap (λ ds. ds ++ c.digit-then-number-lt100-2.result.now) c.digit-then-number-lt100.ensures
    ∙ ap (λ ds. (48 + c.args.number / 10) ∷ ds) c.digit-then-number-lt100-2.ensures
    ∙ sym (two_digits c.args.number least most))

pub returns : goal.returns
returns c =
    let least : 100 ≤ c.args.number = grind (arith, nat_tests) in
    let most : c.args.number < 256 = grind (arith, nat_tests) in
    let start = c.args.text.now.bytes in
    let first = c.digit-2.result.now in
    let second = c.digit-3.result.now in
    let third = c.digit-4.result.now in
    c.push_str-4.ensures.bytes
    ∙ ap (λ t. t ++ third) (c.push_str-3.ensures.bytes ∙ ap (λ t. t ++ second) c.push_str-2.ensures.bytes)
    ∙ ap (λ t. t ++ third) (append_assoc start first second) ∙ append_assoc start (first ++ second) third
    ∙ ap (λ ds. start ++ ds)
    (ap (λ ds. (ds ++ second) ++ third) c.digit-2.ensures
    ∙ ap (λ ds. ((48 + c.args.number / 100) ∷ ds) ++ third) c.digit-3.ensures
    ∙ ap (λ ds. (48 + c.args.number / 100) ∷ (48 + c.args.number / 10 % 10) ∷ ds) c.digit-4.ensures
    ∙ sym (three_digits c.args.number least most))
