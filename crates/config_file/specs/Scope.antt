-- Scopes: where Git has a setting from.
--
-- Look for (here and in Shown): five words; what is not shown as it is: control characters up to U+009F,
-- invalid UTF-8, a quote and a backslash.
use Rattle.std.specs.Prelude.{ℕ, List, codes}
use Rattle.config_file.specs.declared.scope.Scope.{Scope}
use Rattle.config_file.specs.declared.scope.Scope.TheVariants.{System, Global, Local, Worktree, Command}

-- the word that `git config --show-scope` writes for a scope
abbrev pub scope_name : Scope → List ℕ
scope_name System = codes "system"
scope_name Global = codes "global"
scope_name Local = codes "local"
scope_name Worktree = codes "worktree"
scope_name Command = codes "command"
