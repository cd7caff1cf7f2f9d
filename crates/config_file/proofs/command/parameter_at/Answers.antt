use Rattle.std.proofs.Common.{◌∙◌, sym, refl}
use Rattle.std.proofs.lemmas.Bool.{true≢false}
use Rattle.config_file.specs.Command.{text_alone, key_and_value}
use Rattle.config_file.proofs.Commands.{no_parameter, no_equals, no_value_after}
use Rattle.config_file.proofs.command.parameter_at.Goals as goal

pub returns-then-is_end : goal.returns-then-is_end
returns-then-is_end c =
    let takes = rw c.in-Some.is at c.in_ok-key.ensures in
    text_alone takes (c.is_end.ensures.0 c.if-is_end.true)

pub returns-in_default-after_byte : goal.returns-in_default-after_byte
returns-in_default-after_byte c =
    let takes = rw c.in-Some.is at c.in_ok-key.ensures in
    no_parameter takes (λ ends. true≢false (sym (c.is_end.ensures.1 ends) ∙ c.if-is_end.false))
    (no_equals c.in-Some.field-0.rest.now c.in_default-after_byte.ensures)

pub returns-in_default-2 : goal.returns-in_default-2
returns-in_default-2 c =
    let takes = rw c.in-Some.is at c.in_ok-key.ensures in
    let lacks = rw c.in_default-2.is at c.in_ok-value.ensures in
    no_parameter takes (λ ends. true≢false (sym (c.is_end.ensures.1 ends) ∙ c.if-is_end.false))
    (no_value_after c.in-Some.field-0.rest.now c.in-Some-after_byte.value.now c.in-Some-after_byte.ensures lacks)

pub returns : goal.returns
returns c =
    let takes = rw c.in-Some.is at c.in_ok-key.ensures in
    let here = rw c.in-Some-after_byte.ensures at takes in
    let follows = rw c.in-Some-2.is at c.in_ok-value.ensures in
    key_and_value here refl follows
