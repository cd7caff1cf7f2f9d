use Rattle.std.proofs.Common.{arith, length-drop}
use Rattle.std.proofs.lemmas.List.{take_rest}
use Rattle.config_search.proofs.IncludeSections.{next_bracket, no_bracket}
use Rattle.config_search.proofs.includes.at_bracket.Goals as goal

pub returns-in_err-at : goal.returns-in_err-at
returns-in_err-at c = rw c.from_residual.ensures (no_bracket c.args.text.now c.in_err-at.ensures)

pub returns : goal.returns
returns c = let first = c.in_ok-at.ensures in rw take_rest (
  next_bracket c.args.text.now c.in_ok-at.at first.0,
  omega (arith, length-drop c.in_ok-at.at c.args.text.now, first.0.high),
  omega (arith, length-drop c.in_ok-at.at c.args.text.now),
)
