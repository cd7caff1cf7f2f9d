use Rattle.config_search.proofs.OneAnswer.{files-one}
use Rattle.config_search.proofs.place.lists_of.Goals as goal

pub returns : goal.returns
returns c = λ system agrees. (
  (
    c.in_ok-files.ensures system agrees,
    λ list are. files-one system _ list _ are (c.in_ok-files.ensures system agrees),
  ),
  c.in_ok-of_scopes.ensures system agrees,
)
