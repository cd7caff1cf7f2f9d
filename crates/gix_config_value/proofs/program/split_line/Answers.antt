use Rattle.gix_config_value.proofs.LineLemmas.{position_nowhere, position_first, head_first, head_nowhere}
use Rattle.gix_config_value.proofs.LineLemmas.{value_first, value_nowhere}
use Rattle.config_text.specs.Bytes.{space}
use Rattle.gix_config_value.proofs.program.split_line.Goals as goal

pub returns-in-Some-clause-head : goal.returns-in-Some-clause-head
returns-in-Some-clause-head c =
    let first = c.in-Some.ensures in head_first _ _ (position_first space _ _ first.0 first.1)

pub returns-in-Some-clause-value : goal.returns-in-Some-clause-value
returns-in-Some-clause-value c =
    let first = c.in-Some.ensures in value_first _ _ (position_first space _ _ first.0 first.1)

pub returns-in-None-clause-head : goal.returns-in-None-clause-head
returns-in-None-clause-head c = head_nowhere _ (position_nowhere space _ c.in-None.ensures)

pub returns-in-None-clause-value : goal.returns-in-None-clause-value
returns-in-None-clause-value c = value_nowhere _ (position_nowhere space _ c.in-None.ensures)
