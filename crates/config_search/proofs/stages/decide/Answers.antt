use Rattle.std.proofs.Common.{inr}
use Rattle.std.proofs.lemmas.Bool.Decides.{not_from_Decides}
use Rattle.config_search.proofs.stages.decide.Goals as goal

pub refuse-requires-clause-right : goal.refuse-requires-clause-right
refuse-requires-clause-right c = λ system agrees. (c.requires.right system agrees).0

pub refuse-requires-clause-refuses : goal.refuse-requires-clause-refuses
refuse-requires-clause-refuses c = λ system agrees. let (site, is) = c.requires.right system agrees in (
  is.other.0,
  is.other.1,
  inr (
    c.args.naming.now.folder.now,
    c.args.naming.now.settings.entries.items,
    is.real,
    is.are_read,
    not_from_Decides c.args.is_safe (c.requires.decides system agrees) c.if-is_safe.false,
  ),
)

pub returns-then-is_safe : goal.returns-then-is_safe
returns-then-is_safe c = λ system agrees. let (site, is) = c.requires.right system agrees in
    inr (inr (
      c.args.naming.now.folder.now,
      c.args.naming.now.settings.entries.items,
      is.real,
      is.are_read,
      (c.requires.decides system agrees).0 c.if-is_safe.true,
    ))
