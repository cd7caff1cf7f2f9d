use Rattle.gix_config_value_c.specs.Walks.AreIncludes.{skipped, as_git}
use Rattle.gix_config_value_c.proofs.GivenKnown.{repository_given}
use Rattle.gix_config_value_c.proofs.walk.known_of.Goals as goal

pub returns-then-not-branch : goal.returns-then-not-branch
returns-then-not-branch c = record {
  install_dir = c.in_ok-install_dir.ensures;
  home = c.in_ok-home.ensures;
  includes = skipped (rw c.if-not-branch.true at c.in_ok-flag_of.ensures);
}

pub returns : goal.returns
returns c = record {
  install_dir = c.in_ok-install_dir.ensures;
  home = c.in_ok-home.ensures;
  includes = as_git _ _ (rw c.if-not-branch.false at c.in_ok-flag_of.ensures)
      (repository_given c.args.known.now _ _ _ _ c.in_ok-git_dir.ensures c.in_ok-branch.ensures
      c.in_ok-real_home.ensures c.repository_of-repository.ensures) c.in_ok-urls.ensures;
}
