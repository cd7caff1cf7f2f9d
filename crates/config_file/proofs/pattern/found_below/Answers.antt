use Rattle.std.proofs.Common.{refl}
use Rattle.config_file.proofs.Patterns.{later_here, later_step, later_back, later_ends}
use Rattle.config_file.proofs.Places.{deep_map, from_later}
use Rattle.config_file.proofs.pattern.found_below.Goals as goal

pub returns-in_default : goal.returns-in_default
returns-in_default c = record {
  is = deep_map c.args.ignores_case c.found_deep-found.result (λ m. c.places.invariant.there (later_here m))
      (λ e. absurd (c.in_default.not-Nothing e)) (λ later. from_later (c.places.invariant.back later)) c.found_deep-found.ensures.is;
  shorter = c.found_deep-found.ensures.shorter;
}

pub returns-in_default-split-clause-is : goal.returns-in_default-split-clause-is
returns-in_default-split-clause-is c = λ later.
    later_ends c.places.at.now c.in_default-split.ensures c.in-Nothing.ensures.is (c.places.invariant.back later)

pub places-preserved : goal.places-preserved
places-preserved c = record {
  there = λ later. c.places.invariant.there (later_step c.places.at.now c.in-Some.ensures refl later);
  back =
      λ later. later_back c.places.at.now c.in-Some.ensures c.in-Nothing.ensures.is (c.places.invariant.back later);
}
