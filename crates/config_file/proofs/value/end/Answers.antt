use Rattle.std.proofs.Common.{rules, ◌∙◌, ◌≡◌}
use Rattle.config_file.specs.Header.{why_at}
use Rattle.config_file.specs.declared.errors.Why.TheVariants.{Nul}
use Rattle.config_file.proofs.Values.{bad_unless_nul, ends_in_quotes, ends_at_nul, ends_closed}
use Rattle.config_file.proofs.value.end.Goals as goal

pub returns-then-quoted : goal.returns-then-quoted
returns-then-quoted c =
    rw (← c.requires.counted _ c.before-raw.ensures)
    (ends_in_quotes c.args.quoted _ c.requires.passed c.requires.ends c.if-quoted.true c.before-raw.ensures)

pub returns-in-Nul : goal.returns-in-Nul
returns-in-Nul c =
    let nul : why_at c.args.at.now ≡ Nul = search rules in
    rw (← c.requires.counted _ c.before-raw.ensures, nul)
    (ends_at_nul c.args.quoted _ _ c.requires.passed c.if-quoted.false nul c.before-raw.ensures)

pub returns-in_default : goal.returns-in_default
returns-in_default c = (
  rw (← c.requires.counted _ c.before-raw.ensures) (ends_closed c.args.quoted _ _ c.requires.passed c.requires.ends c.if-quoted.false
      (bad_unless_nul c.args.at.now (λ is. c.in_default.not-Nul (c.why_at.ensures ∙ is))) c.before-raw.ensures),
  tt,
)
