use Rattle.std.proofs.Common.{◌∙◌, sym}
use Rattle.config_boolean.specs.Boolean.{BooleanText}
use Rattle.config_text.specs.Refusals.{OnlyFault}
use Rattle.config_text.specs.declared.errors.Fault.TheVariants.{Boolean}
use Rattle.config_answers.proofs.TypeLemmas.{accepted_read, boolean_or_text}
use Rattle.config_answers.proofs.typed.put_typed.Goals as goal

pub returns-then-is_ok-2 : goal.returns-then-is_ok-2
returns-then-is_ok-2 c = rw c.in-BooleanOrText.is (boolean_or_text c.put_canonical-then-is_ok-2.result c.args.value.now _
    (accepted_read BooleanText (OnlyFault Boolean c.args.value.now) c.args.value.now c.try_read-in-BooleanOrText.result
    (sym c.is_ok-in-BooleanOrText.ensures.value ∙ c.if-is_ok-2.true) c.try_read-in-BooleanOrText.ensures)
    c.put_canonical-then-is_ok-2.ensures)
