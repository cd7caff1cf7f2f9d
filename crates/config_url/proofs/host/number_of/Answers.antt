use Rattle.std.proofs.Common.{◌≤◌, ◌+◌, ◌*◌, ◌-◌, ◌∙◌, sym, subst, arith}
use Rattle.config_url.proofs.UrlHosts.{number_next, number_grows, number_done, digits_next}
use Rattle.config_url.proofs.host.number_of.Goals as goal

pub returns-then-number-gt65535 : goal.returns-then-number-gt65535
returns-then-number-gt65535 c =
    let next =
    number_next c.digits.number c.in-Some.digit c.digits.rest.now c.in-Some.after.now c.in-Some.ensures in
    let grows = number_grows (c.digits.number * 10 + (c.in-Some.digit - 48)) c.in-Some.after.now in
    subst (λ n. 65536 ≤ n) (sym next ∙ c.digits.invariant.same) (omega (arith, grows, c.if-number-gt65535.true))

pub digits-preserved : goal.digits-preserved
digits-preserved c = record {
  small = c.if-number-gt65535.false;
  all_digits = (digits_next c.in-Some.digit c.digits.rest.now c.in-Some.after.now c.in-Some.ensures
      c.digits.invariant.all_digits).1;
  same = sym (number_next c.digits.number c.in-Some.digit c.digits.rest.now c.in-Some.after.now c.in-Some.ensures)
      ∙ c.digits.invariant.same;
}

pub returns : goal.returns
returns c = sym c.digits.invariant.same ∙ number_done c.digits.number c.digits.rest.now c.in_default.ensures
