use Rattle.gix_config_value_c.proofs.OneAnswer.{multiplies_once, tells_once}
use Rattle.gix_config_value_c.proofs.OneColor.{lays_once, reduces_once, tells_depth_once}
use Rattle.gix_config_value_c.proofs.OneComposition.{composes_once}
use Rattle.gix_config_value_c.proofs.OneText.{normalizes_once, compares_once}
use Rattle.gix_config_value_c.proofs.OnePath.{interpolates_once}
use Rattle.gix_config_value_c.proofs.laws.answers.calls.Goals as goal

pub returns : goal.returns
returns c = record {
  normalizes = normalizes_once;
  compares = compares_once;
  composes = composes_once c.one_composition.ensures;
  lays = lays_once c.one_layering.ensures;
  reduces = reduces_once c.one_reduction.ensures.color;
  depths = tells_depth_once c.one_depth.ensures;
  multiplies = multiplies_once;
  faults = tells_once;
  interpolates = interpolates_once;
}
