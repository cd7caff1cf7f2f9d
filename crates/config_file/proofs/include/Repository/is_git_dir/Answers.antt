use Rattle.std.proofs.Common.{◌∙◌}
use Rattle.config_file.proofs.Conditions.{either_first, either_second}
use Rattle.config_file.proofs.include.Repository.is_git_dir.Goals as goal

pub returns-then-branch : goal.returns-then-branch
returns-then-branch c =
    let same = c.deref.ensures.value ∙ c.in_ok-pattern.ensures in
    either_first _ c.if-branch.true (rw same at c.in_ok-matches_dir.ensures)

pub returns : goal.returns
returns c =
    let same = c.deref.ensures.value ∙ c.in_ok-pattern.ensures in
    let same2 = c.deref-2.ensures.value ∙ c.in_ok-pattern.ensures in
    either_second _ _ c.if-branch.false (rw same at c.in_ok-matches_dir.ensures) (rw same2 at c.in_ok-matches_dir-2.ensures)
