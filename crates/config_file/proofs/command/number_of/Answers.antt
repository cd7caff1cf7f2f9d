use Rattle.std.proofs.Common.{◌≡◌, ◌≤◌, ◌^◌, ◌+◌, ◌*◌, ◌-◌, get_or, take, arith}
use Rattle.std.specs.Str.Parse.{digits_value}
use Rattle.config_file.proofs.Commands.{digit_low, number_more, too_large}
use Rattle.config_file.proofs.command.number_of.Goals as goal

pub overflow_sub-digit : goal.overflow_sub-digit
overflow_sub-digit c = digit_low c.args.digits.now c.digits.digit-index c.requires c.digits-test.true

pub returns-in_err-checked_mul : goal.returns-in_err-checked_mul
returns-in_err-checked_mul c =
    let large : 2 ^ 64 ≤ c.digits.number * 10 + (get_or c.args.digits.now c.digits.digit-index 0 - 48) =
    omega (arith, c.in_err-checked_mul.ensures) in
    rw c.from_residual.ensures
    (too_large c.args.digits.now c.digits.digit-index c.digits.number c.requires c.digits-test.true c.digits.invariant large)

pub returns-in_err-number : goal.returns-in_err-number
returns-in_err-number c =
    let large : 2 ^ 64 ≤ c.digits.number * 10 + (get_or c.args.digits.now c.digits.digit-index 0 - 48) =
    omega (arith, c.in_err-number.ensures, c.in_ok-checked_mul.ensures, c.from.ensures) in
    rw c.from_residual-in_err-number.ensures
    (too_large c.args.digits.now c.digits.digit-index c.digits.number c.requires c.digits-test.true c.digits.invariant large)

pub digits-preserved : goal.digits-preserved
digits-preserved c =
    let e =
    number_more c.args.digits.now c.digits.digit-index c.digits.number c.requires c.digits-test.true c.digits.invariant in
    let is : c.in_ok-number.number ≡ digits_value 10 (take (c.digits.digit-index + 1) c.args.digits.now) =
    omega (arith, e, c.in_ok-number.ensures, c.in_ok-checked_mul.ensures, c.from.ensures) in is
