use Rattle.config_file.proofs.Patterns.{later_here, later_step, later_back, later_stops, later_ends}
use Rattle.config_file.proofs.Places.{star_map, from_back, stops_slash, passes_other}
use Rattle.config_file.proofs.pattern.found_later.Goals as goal

pub returns-in_default : goal.returns-in_default
returns-in_default c = record {
  is = star_map c.args.ignores_case c.found_here-found.result (λ m. c.places.invariant.there (later_here m))
      (λ e. absurd (c.in_default.not-Nothing e)) c.places.invariant.from c.found_here-found.ensures.is;
  shorter = c.found_here-found.ensures.shorter;
}

pub returns-in_default-split-clause-is : goal.returns-in_default-split-clause-is
returns-in_default-split-clause-is c = λ later.
    later_ends c.places.at.now c.in_default-split.ensures c.in-Nothing.ensures.is (c.places.invariant.back later)

pub returns-then-byte-eq47-clause-is : goal.returns-then-byte-eq47-clause-is
returns-then-byte-eq47-clause-is c = λ later.
    later_stops c.places.at.now c.in-Some.ensures c.in-Nothing.ensures.is (stops_slash c.in-Some.byte c.if-byte-eq47.true)
    (c.places.invariant.back later)

pub places-preserved : goal.places-preserved
places-preserved c = record {
  there = λ later. c.places.invariant.there
      (later_step c.places.at.now c.in-Some.ensures (passes_other c.in-Some.byte c.if-byte-eq47.false) later);
  back =
      λ later. later_back c.places.at.now c.in-Some.ensures c.in-Nothing.ensures.is (c.places.invariant.back later);
  from =
      λ d f. from_back c.places.at.now c.in-Some.ensures c.in-Nothing.ensures.is (c.places.invariant.from d f);
}
