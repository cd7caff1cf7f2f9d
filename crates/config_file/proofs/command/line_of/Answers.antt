use Rattle.std.proofs.Common.{◌∙◌, sym, option_copied}
use Rattle.config_file.specs.Command.{key_value}
use Rattle.config_file.specs.KeyView.{key_of}
use Rattle.std.proofs.lemmas.Bool.{or_from}
use Rattle.config_file.proofs.Commands.{adds_one, never_refused, passed_on, memory_of_setting}
use Rattle.config_file.proofs.command.line_of.Goals as goal

pub returns-in_err-line : goal.returns-in_err-line
returns-in_err-line c =
    passed_on _ _ c.from_residual.result c.from_residual.ensures
    (λ e is. memory_of_setting (key_value c.args.key.now (option_copied c.args.value)) e _ is)

pub returns-in-Some : goal.returns-in-Some
returns-in-Some c =
    let adds = rw c.in-Some.is at c.in_ok-line.ensures.adds in
    let first = sym c.has_nul.ensures ∙ c.if-has_nul.false in
    let second = sym c.some_has_nul.ensures ∙ c.if-some_has_nul.false in (
      record { key = key_of c.in-Ok.parts; is_key = c.in-Ok.ensures; no_nul = or_from _ _ first second },
      adds_one (key_value c.args.key.now (option_copied c.args.value)) c.in-Some.line.items c.in-Ok.ensures
          c.section-section.ensures c.subsection-subsection.ensures c.name.ensures adds,
    )

pub returns-in-None : goal.returns-in-None
returns-in-None c =
    let lacks = rw c.in-None.is at c.in_ok-line.ensures.adds in
    absurd (never_refused (option_copied c.args.value) c.in-Ok.ensures c.section-section.ensures
    c.subsection-subsection.ensures c.name.ensures (sym c.has_nul.ensures ∙ c.if-has_nul.false)
    (sym c.some_has_nul.ensures ∙ c.if-some_has_nul.false) lacks)
