use Rattle.std.proofs.Common.{codes, false, rules}
use Rattle.config_search.proofs.Covers.{differ, names_by, names_none, no, path_here, path_none, path_root}
use Rattle.config_search.proofs.owner.names_folder.Goals as goal

pub returns-in_default : goal.returns-in_default
returns-in_default c = λ system agrees. no (names_none system c.args.start.now c.args.value.now c.args.folder.now
    (differ {x = c.args.value.now} {y = codes "*"} (search rules) c.if-eq.false)
    (rw c.in_default.is at c.in_ok-path.ensures system agrees))

pub returns-then-eq-2 : goal.returns-then-eq-2
returns-then-eq-2 c = λ system agrees. names_by system c.args.start.now c.args.value.now c.in-Some.path.items
    c.args.folder.now c.in_ok-covers.field-0
    (differ {x = c.args.value.now} {y = codes "*"} (search rules) c.if-eq.false)
    (rw c.in-Some.is at c.in_ok-path.ensures system agrees)
    (path_here system c.args.start.now c.in-Some.path.items c.args.folder.now c.in_ok-covers.field-0 (search rules)
    (rw (c.deref.ensures.value, c.in_ok-here.ensures) at c.in_ok-covers.ensures system agrees))

pub returns-then-starts_with : goal.returns-then-starts_with
returns-then-starts_with c = λ system agrees. names_by system c.args.start.now c.args.value.now c.in-Some.path.items
    c.args.folder.now c.in_ok-covers-2.field-0
    (differ {x = c.args.value.now} {y = codes "*"} (search rules) c.if-eq.false)
    (rw c.in-Some.is at c.in_ok-path.ensures system agrees)
    (path_root system c.args.start.now c.in-Some.path.items c.args.folder.now c.in_ok-covers-2.field-0
    (differ {x = c.in-Some.path.items} {y = codes "."} (search rules) c.if-eq-2.false)
    (search rules)
    (rw c.deref-then-starts_with.ensures.value at c.in_ok-covers-2.ensures system agrees))

pub returns : goal.returns
returns c = λ system agrees. names_by system c.args.start.now c.args.value.now c.in-Some.path.items
    c.args.folder.now false
    (differ {x = c.args.value.now} {y = codes "*"} (search rules) c.if-eq.false)
    (rw c.in-Some.is at c.in_ok-path.ensures system agrees)
    (no (path_none system c.args.start.now c.in-Some.path.items c.args.folder.now
    (differ {x = c.in-Some.path.items} {y = codes "."} (search rules) c.if-eq-2.false)
    (search rules)))
