use Rattle.std.proofs.Common.{◌<◌, ◌^◌, ◌∙◌, sym, arith, rules}
use Rattle.std.proofs.lemmas.Bool.{true≢false}
use Rattle.config_file.proofs.Commands.{number_here, no_number, counted}
use Rattle.config_file.proofs.command.count_of.Goals as goal

pub returns-then-not-are_digits : goal.returns-then-not-are_digits
returns-then-not-are_digits c = (
  search rules,
  no_number c.after_spaces.ensures c.cut_sign-is_negative.ensures
      (λ n. true≢false (sym (c.are_digits.ensures.1 n) ∙ c.if-not-are_digits.true)),
)

pub returns-in-Some : goal.returns-in-Some
returns-in-Some c =
    let small : c.in-Some.number < 2 ^ 64 = omega arith in
    let numeral = c.are_digits.ensures.0 c.if-not-are_digits.false in
    let is = number_here c.after_spaces.ensures c.cut_sign-is_negative.ensures numeral in
    counted c.limited.result is c.in-Some.ensures small c.signed.ensures c.limited.ensures

pub returns-in-None : goal.returns-in-None
returns-in-None c =
    let numeral = c.are_digits.ensures.0 c.if-not-are_digits.false in
    let is = number_here c.after_spaces.ensures c.cut_sign-is_negative.ensures numeral in
    (c.cut_sign-is_negative.result.0, c.cut_sign-is_negative.result.1.now, is, λ small. absurd (omega (arith, c.in-None.ensures, small)))
