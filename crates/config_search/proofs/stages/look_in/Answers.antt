use Rattle.std.proofs.Common.{sym, refl}
use Rattle.config_search.specs.Search.{in_start}
use Rattle.config_search.specs.Shown.{git_dir_of}
use Rattle.config_search.proofs.stages.look_in.Goals as goal

pub returns-in-Some : goal.returns-in-Some
returns-in-Some c = λ system agrees. (
  c.requires.started system agrees,
  in_start (git_dir_of c.in-Some.git_dir) (c.requires.unset system agrees)
      (sym (rw c.in-Some.is at c.in_ok-git_dir.ensures system agrees)) refl,
)

pub returns : goal.returns
returns c = λ system agrees. record {
  begun = c.requires.started system agrees;
  unset = c.requires.unset system agrees;
  nothing = sym (rw c.in_default.is at c.in_ok-git_dir.ensures system agrees);
  are_limits = c.in_ok-limits.ensures system agrees;
}
