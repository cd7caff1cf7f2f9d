use Rattle.std.proofs.Common.{◌∙◌, sym}
use Rattle.std.proofs.lemmas.Bool.{true≢false}
use Rattle.config_file.specs.Command.{absent, present}
use Rattle.config_file.proofs.Commands.{no_value}
use Rattle.config_file.proofs.command.value_at.Goals as goal

pub returns-then-is_end : goal.returns-then-is_end
returns-then-is_end c = absent (c.is_end.ensures.0 c.if-is_end.true)

pub returns-then-not-is_end : goal.returns-then-not-is_end
returns-then-not-is_end c =
    let takes = rw c.in-Some.is at c.in_ok-value.ensures in
    no_value takes (λ ends. true≢false (sym (c.is_end.ensures.1 ends) ∙ c.if-is_end.false))
    (λ ends. true≢false (sym (c.is_end-2.ensures.1 ends) ∙ c.if-not-is_end.true))

pub returns : goal.returns
returns c =
    let takes = rw c.in-Some.is at c.in_ok-value.ensures in
    present takes (c.is_end-2.ensures.0 c.if-not-is_end.false)
