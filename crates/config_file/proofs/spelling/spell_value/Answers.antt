use Rattle.std.proofs.Common.{◌≡◌, ◌++◌, ◌∙◌, ap, rules}
use Rattle.config_file.specs.Spelling.{IsGitSpelling, git_spelled}
use Rattle.config_file.proofs.Spellings.{git_spelling, not_spelled}
use Rattle.config_file.proofs.spelling.spell_value.Goals as goal

pub returns-then-not-is_spellable : goal.returns-then-not-is_spellable
returns-then-not-is_spellable c = not_spelled c.args.value.now (search rules)

pub returns : goal.returns
returns c =
    let value = c.args.value.now in
    let written : c.push_as_git.new.spelling.items ≡ git_spelled value =
    c.in_ok-push_as_git.ensures ∙ ap (λ x. x ++ git_spelled value) c.new-spelling.ensures.items in
    let is : IsGitSpelling c.push_as_git.new.spelling.items value =
    (rw written (git_spelling value (search rules)), written) in
    is
