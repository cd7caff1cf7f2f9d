use Rattle.gix_config_value_c.proofs.NumbersApart.{fault_text_found, path_text_found}
use Rattle.gix_config_value_c.proofs.laws.numbers.fault_texts.Goals as goal

pub returns : goal.returns
returns c = record { texts = fault_text_found; paths = path_text_found }
