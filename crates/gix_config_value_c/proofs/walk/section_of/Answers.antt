use Rattle.gix_config_value_c.specs.Walks.HoldsSection.{none, plain, within}
use Rattle.gix_config_value_c.proofs.walk.section_of.Goals as goal

pub returns-in-0 : goal.returns-in-0
returns-in-0 c = none c.in-0.is

pub returns-in-1 : goal.returns-in-1
returns-in-1 c = plain c.in-1.is

pub returns-in-2 : goal.returns-in-2
returns-in-2 c = within c.in-2.is
