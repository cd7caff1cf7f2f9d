use Rattle.std.proofs.Common.{inl, inr}
use Rattle.config_answers.proofs.typed.Values.show.Goals as goal

pub returns-in_ok-put_escape-in-Escape : goal.returns-in_ok-put_escape-in-Escape
returns-in_ok-put_escape-in-Escape g c =
    rw c.in-Escape.is (rw c.read_text-in-Escape.ensures at c.in_ok-put_escape-in-Escape.ensures)

pub returns-in_ok-put_canonical-in-Canonical : goal.returns-in_ok-put_canonical-in-Canonical
returns-in_ok-put_canonical-in-Canonical g c =
    rw c.in-Canonical.is (rw c.read_text-in-Canonical.ensures at c.in_ok-put_canonical-in-Canonical.ensures)

pub returns-in_ok-put_typed-in-BooleanOrAmount : goal.returns-in_ok-put_typed-in-BooleanOrAmount
returns-in_ok-put_typed-in-BooleanOrAmount g c = elim c.in-BooleanOrAmount.is [
  | inl is ↦ rw is (rw (c.read_text-in-BooleanOrAmount.ensures, is) at c.in_ok-put_typed-in-BooleanOrAmount.ensures)
  | inr is ↦ rw is (rw (c.read_text-in-BooleanOrAmount.ensures, is) at c.in_ok-put_typed-in-BooleanOrAmount.ensures)
]
