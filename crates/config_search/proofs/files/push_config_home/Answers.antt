use Rattle.config_search.proofs.files.push_config_home.Goals as goal

pub returns : goal.returns
returns c = rw c.in-Some.is c.push_shown.ensures
