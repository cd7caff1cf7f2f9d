use Rattle.config_text.specs.declared.errors.Fault.TheVariants as faults
use Rattle.config_integer.specs.Integer.{product}
use Rattle.config_integer.specs.Amount.{AmountFault}
use Rattle.config_integer.specs.Laws.Amount.{amount_refused}
use Rattle.config_integer.specs.Laws.Integer.{product_of}
use Rattle.config_integer.proofs.amount.AmountTryRead.try_read.Goals as goal

pub returns-in_default : goal.returns-in_default
returns-in_default c =
    (c.in_default.ensures, amount_refused c.args.text.now faults.Integer c.in_default.ensures)

pub returns-in-None : goal.returns-in-None
returns-in-None c =
    let r : AmountFault c.args.text.now faults.Overflow = (
      product c.in-Some.integer,
      product_of c.args.text.now c.in-Some.integer c.in-Some.ensures,
      c.in-None.ensures,
    ) in
    (r, amount_refused c.args.text.now faults.Overflow r)
