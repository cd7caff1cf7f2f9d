use Rattle.std.proofs.Common.{IsTrue, rules}
use Rattle.config_checks.specs.Suggestions.IsSuggested.{near, moved}
use Rattle.config_checks.proofs.suggestion.unknown_in.Goals as goal

pub nearest-requires : goal.nearest-requires
nearest-requires c =
    rw c.deref.ensures.value (rw c.requires.same at c.requires.known.relations)

pub elsewhere-requires : goal.elsewhere-requires
elsewhere-requires c =
    record { known = rw c.requires.same at c.requires.known.known; marked = c.requires.marked }

pub is_own-requires : goal.is_own-requires
is_own-requires c = rw c.requires.same at c.requires.known.known

pub returns-in-Some : goal.returns-in-Some
returns-in-Some c = (c.in-Some.row.now, near (rw c.in-Some.is at c.in_ok-row.ensures), c.filled_key.ensures)

pub returns-in-Some-elsewhere : goal.returns-in-Some-elsewhere
returns-in-Some-elsewhere c = (
  c.in-Some-elsewhere.row.now,
  moved (rw c.in_default.is at c.in_ok-row.ensures) c.in-Some-elsewhere.ensures,
  c.filled_key-in-Some-elsewhere.ensures,
)

pub returns-in-None : goal.returns-in-None
returns-in-None c =
    (rw c.in_default.is at c.in_ok-row.ensures, (c.in-None.ensures, c.is_own.ensures.0 c.if-is_own.true))

pub returns-in-None-2 : goal.returns-in-None-2
returns-in-None-2 c =
    let wrong : ¬ (IsTrue c.is_own.result) = search rules in
    let far = rw c.in_default.is at c.in_ok-row.ensures in
    record { far = far; nowhere = c.in-None.ensures; not_own = λ own. wrong (c.is_own.ensures.1 own) }
