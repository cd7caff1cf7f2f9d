use Rattle.config_url.proofs.user_of.Goals as goal

pub returns-in_default-2 : goal.returns-in_default-2
returns-in_default-2 c = rw c.in-Some.is (rw c.in_default-2.is at c.in_ok-name.ensures)
