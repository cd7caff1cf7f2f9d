use Rattle.std.proofs.Common.{◌≡◌, ◌++◌, take}
use Rattle.config_url.proofs.UrlPaths.{Joined}
use Rattle.config_url.proofs.path.push_names.Given as goal

abbrev pub invariant-loop-name : goal.invariant-loop-name
invariant-loop-name l = l.path.items ≡ l.fn.path.items ++ Joined (take l.name-index l.fn.names)
