use Rattle.std.proofs.Common.{rules}
use Rattle.config_file.specs.Set.{bare, after_backslash}
use Rattle.config_file.proofs.set.set_byte.Goals as goal
use Rattle.config_file.proofs.set.set_byte.Goals.{else-first-eq93-via-then-first-eq93+else-not-starts}
use Rattle.config_file.proofs.set.set_byte.Goals.{else-first-eq93-via-else-first-eq93}

pub returns-then-first-eq92 : goal.returns-then-first-eq92
returns-then-first-eq92 c =
    rw (c.in_ok-first.ensures, c.in_ok-escaped.ensures) (after_backslash c.if-first-eq92.true)

pub returns-else-first-eq93 : goal.returns-else-first-eq93
returns-else-first-eq93 c =
    rw c.in_ok-first.ensures (bare c.if-first-eq92.false (elim c.else-first-eq93.branch [
      | else-first-eq93-via-then-first-eq93+else-not-starts w ↦ λ e. search rules
      | else-first-eq93-via-else-first-eq93 w ↦ λ e. absurd (w.if-first-eq93.false e)
    ]))
