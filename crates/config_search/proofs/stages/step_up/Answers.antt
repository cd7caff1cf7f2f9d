use Rattle.std.proofs.Common.{sym, refl}
use Rattle.config_search.specs.Search.{at_root, at_end, is_there, is_further}
use Rattle.config_search.specs.Shown.{git_dir_of}
use Rattle.config_search.proofs.Places.{parent_place}
use Rattle.config_search.proofs.stages.step_up.Goals as goal

pub returns-in_default : goal.returns-in_default
returns-in_default c = λ system agrees limits whole. at_root (sym c.in_default.ensures.is) refl

pub returns-then-branch : goal.returns-then-branch
returns-then-branch c = λ system agrees limits whole. at_end c.in-Some.above.now (sym c.in-Some.ensures.is)
    (rw c.if-branch.true at c.in_ok-end_at.ensures system c.args.start.now agrees limits whole) refl

pub returns-in-Some-2 : goal.returns-in-Some-2
returns-in-Some-2 c = λ system agrees limits whole. is_there c.in-Some.above.now (git_dir_of c.in-Some-2.git_dir)
    (sym c.in-Some.ensures.is) (rw c.if-branch.false at c.in_ok-end_at.ensures system c.args.start.now agrees limits whole)
    (sym (rw c.in-Some-2.is at c.in_ok-git_dir.ensures system agrees)) refl

pub returns : goal.returns
returns c = λ system agrees limits whole. (
  parent_place system _ _ _ (c.requires.place system agrees) (sym c.in-Some.ensures.is),
  λ found above. is_further c.in-Some.above.now (sym c.in-Some.ensures.is)
      (rw c.if-branch.false at c.in_ok-end_at.ensures system c.args.start.now agrees limits whole)
      (sym (rw c.in_default-2.is at c.in_ok-git_dir.ensures system agrees)) above,
)

pub end_at-requires : goal.end_at-requires
end_at-requires c = λ system agrees. parent_place system _ _ _ (c.requires.place system agrees) (sym c.in-Some.ensures.is)

pub find_in-requires-clause-place : goal.find_in-requires-clause-place
find_in-requires-clause-place c = λ system agrees.
    parent_place system _ _ _ (c.requires.place system agrees) (sym c.in-Some.ensures.is)
