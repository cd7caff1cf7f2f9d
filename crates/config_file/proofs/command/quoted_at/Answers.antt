use Rattle.std.proofs.Common.{◌≡◌, ℕ, List, ◌∷◌, Result, Ok, Err, Option, Some, None, IfOk, MatchOption, refl}
use Rattle.std.specs.declared.alloc.AllocError.{AllocError}
use Rattle.config_file.specs.declared.command.Quoted.{Quoted}
use Rattle.config_file.specs.Command.{Quotes, TakesQuoted, opens}
use Rattle.config_file.specs.Reading.Commands.{Lacks}
use Rattle.config_file.proofs.Commands.{not_opened}
use Rattle.config_file.proofs.command.quoted_at.Goals as goal

opened : (text inner : List ℕ) → text ≡ 39 ∷ inner → (result : Result (Option Quoted) AllocError)
    → IfOk result (λ found. MatchOption found (Lacks Quotes inner) (λ quoted. Quotes inner quoted.text.items quoted.rest.now))
    → IfOk result (λ found. MatchOption found (Lacks TakesQuoted text) (λ quoted. TakesQuoted text quoted.text.items quoted.rest.now))
opened text inner e (Ok None) lacks = not_opened text inner e lacks
opened text inner e (Ok (Some quoted)) takes = rw e (opens refl takes)
opened text inner e (Err refused) h = h

pub returns-in-Some : goal.returns-in-Some
returns-in-Some c =
    opened c.args.text.now c.in-Some.inner.now c.in-Some.ensures c.closed.result c.closed.ensures
