use Rattle.std.proofs.Common.{arith, sym, ◌∙◌, inl}
use Rattle.config_file.proofs.Places.{deep_stars, star_next, smaller}
use Rattle.config_file.proofs.pattern.found_deep.Goals as goal

pub returns-then-crosses-clause-is : goal.returns-then-crosses-clause-is
returns-then-crosses-clause-is c =
    deep_stars _ c.in-Stars.at c.in-Stars.is c.steps.invariant.is c.stars.ensures (sym c.crosses.ensures ∙ c.if-crosses.true)

pub steps-smaller : goal.steps-smaller
steps-smaller c =
    smaller c.steps.found c.found_later-found.result c.in-Stars.at c.in-Stars.is c.stars.ensures c.found_later-found.ensures.shorter

pub steps-preserved : goal.steps-preserved
steps-preserved c = record {
  is = star_next _ _ c.in-Stars.at c.in-Stars.is c.steps.invariant.is c.stars.ensures
      (sym c.crosses.ensures ∙ c.if-crosses.false) inl c.found_later-found.result c.found_later-found.ensures.is;
  shorter =
      let less =
      smaller c.steps.found c.found_later-found.result c.in-Stars.at c.in-Stars.is c.stars.ensures c.found_later-found.ensures.shorter in
      omega (arith, less, c.steps.invariant.shorter);
}
