use Rattle.uses.proofs.paths.path_at_home.Goals as goal

pub returns : goal.returns
returns c = rw c.absent.ensures at c.interpolate.ensures
