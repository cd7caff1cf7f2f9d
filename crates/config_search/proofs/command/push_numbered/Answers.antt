use Rattle.std.proofs.Common.{Some, refl, sym}
use Rattle.config_search.specs.Questions.{key, value}
use Rattle.config_search.proofs.command.push_numbered.Goals as goal

pub numbered-requires : goal.numbered-requires
numbered-requires c = λ system agrees. key c.args.number

pub numbered-requires-2 : goal.numbered-requires-2
numbered-requires-2 c = λ system agrees. value c.args.number

pub returns-in-Ok-clause-next : goal.returns-in-Ok-clause-next
returns-in-Ok-clause-next c = λ system agrees.
    let (accepts, (line, adds, is)) = c.in-Ok.ensures in (
      (c.in-Some.key.now, Some c.in-Some-2.value.now),
      line,
      (
        c.in-Some.key.now,
        c.in-Some-2.value.now,
        refl,
        sym (rw c.in-Some.is at c.in_ok-key.ensures system agrees),
        sym (rw c.in-Some-2.is at c.in_ok-value.ensures system agrees),
      ),
      adds,
      is,
    )

pub returns-in_default-clause-next : goal.returns-in_default-clause-next
returns-in_default-clause-next c = c.in_ok-of_command.ensures.asks c.args.lookup.now.folder.now
    c.args.lookup.now.facts.now

pub returns-in_default-2-clause-next : goal.returns-in_default-2-clause-next
returns-in_default-2-clause-next c =
    c.in_ok-of_command-2.ensures.asks c.args.lookup.now.folder.now c.args.lookup.now.facts.now

pub returns-in_ok-of_command-in-Err-clause-next : goal.returns-in_ok-of_command-in-Err-clause-next
returns-in_ok-of_command-in-Err-clause-next c =
    c.in_ok-of_command-in-Err.ensures.asks c.args.lookup.now.folder.now c.args.lookup.now.facts.now
