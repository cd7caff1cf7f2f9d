use Rattle.config_search.proofs.Stores.{if_read}
use Rattle.config_search.proofs.format.own_text.Goals as goal

pub returns : goal.returns
returns c = λ system agrees. if_read system _ _ (c.in_ok-answer_in.ensures system agrees)
