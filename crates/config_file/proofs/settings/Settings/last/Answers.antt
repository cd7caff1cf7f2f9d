use Rattle.config_file.proofs.settings.Settings.last.Goals as goal

pub returns : goal.returns
returns c = λ listed. (rw c.deref.ensures.value at c.last_of.ensures) listed
