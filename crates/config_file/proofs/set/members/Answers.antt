use Rattle.config_file.proofs.Sets.{goes_on_first, goes_on_found, goes_on_here, not_closed, closing_after}
use Rattle.config_file.proofs.set.members.Goals as goal

pub members-init : goal.members-init
members-init c = record {
  on = goes_on_first c.in_ok-found.ensures.is;
  ahead = closing_after c.unclosed.result.0.now c.unclosed.ensures c.in_ok-found.ensures.is;
}

pub members-preserved-then-found : goal.members-preserved-then-found
members-preserved-then-found c = record {
  on = goes_on_found c.members.found c.if-found.true c.members.invariant.on c.in_ok-is_here.ensures.is;
  ahead =
      let (inside, run) = c.next_closing-closing.ensures in
      closing_after inside run c.in_ok-is_here.ensures.is;
}

pub members-preserved : goal.members-preserved
members-preserved c = record {
  on = goes_on_here c.members.found c.if-found.false c.members.invariant.on c.in_ok-is_here.ensures.is;
  ahead =
      let (inside, run) = c.next_closing-closing.ensures in
      closing_after inside run c.in_ok-is_here.ensures.is;
}

pub returns-in_err-is_here : goal.returns-in_err-is_here
returns-in_err-is_here c =
    rw c.from_residual-in_err-is_here.ensures
    (not_closed c.members.found c.members.rest.now c.members.invariant.on c.in_default.ensures c.in_err-is_here.ensures.is)
