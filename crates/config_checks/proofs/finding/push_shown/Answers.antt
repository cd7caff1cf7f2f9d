use Rattle.std.proofs.Common.{◌++◌, ◌∙◌, ap, sym, append-nil}
use Rattle.config_checks.proofs.ShownLemmas.{none_shown}
use Rattle.config_checks.proofs.finding.push_shown.Goals as goal

pub returns : goal.returns
returns c =
    let out = c.loop-character.out.items in
    sym (append-nil out)
    ∙ ap (λ l. out ++ l) (sym (none_shown c.loop-character.rest.now c.in_default.ensures.shown))
    ∙ c.loop-character.invariant
