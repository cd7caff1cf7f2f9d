use Rattle.std.proofs.Common.{rules, Some}
use Rattle.config_file.specs.declared.include.Includes.TheVariants.{AsGit}
use Rattle.config_file.proofs.Conditions.{same_holds}
use Rattle.config_file.proofs.include.Includes.hold.Goals as goal

pub returns-in_ok-is_git_dir-in-GitDir : goal.returns-in_ok-is_git_dir-in-GitDir
returns-in_ok-is_git_dir-in-GitDir c =
    same_holds c.args.self (AsGit (Some c.in-Some.repository) c.in-AsGit.urls) c.args.real_dir.now
    c.args.condition _ _ (search rules) c.in-GitDir.is c.in_ok-is_git_dir-in-GitDir.ensures

pub returns-in_ok-is_git_dir-in-GitDirIgnoringCase : goal.returns-in_ok-is_git_dir-in-GitDirIgnoringCase
returns-in_ok-is_git_dir-in-GitDirIgnoringCase c =
    same_holds c.args.self (AsGit (Some c.in-Some.repository) c.in-AsGit.urls) c.args.real_dir.now
    c.args.condition _ _ (search rules) c.in-GitDirIgnoringCase.is
    c.in_ok-is_git_dir-in-GitDirIgnoringCase.ensures
