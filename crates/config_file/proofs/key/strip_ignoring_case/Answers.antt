use Rattle.std.proofs.Common.{rules, length, sym}
use Rattle.std.proofs.lemmas.List.{take-append-drop}
use Rattle.config_file.proofs.Keys.{goes_on_lower, lacks_lower}
use Rattle.config_file.proofs.key.strip_ignoring_case.Goals as goal

pub returns-then-eq_ignore_ascii_case : goal.returns-then-eq_ignore_ascii_case
returns-then-eq_ignore_ascii_case c =
    let cut = c.in_ok-start.ensures.cases in
    goes_on_lower c.args.name.now c.in_ok-start.start.now c.in_ok-start.rest.now c.args.front.now
    (rw (cut.1, cut.2) (sym (take-append-drop (length c.args.front.now) c.args.name.now))) (search rules)

pub returns-else-eq_ignore_ascii_case : goal.returns-else-eq_ignore_ascii_case
returns-else-eq_ignore_ascii_case c =
    let cut = c.in_ok-start.ensures.cases in
    lacks_lower c.args.name.now c.in_ok-start.start.now c.in_ok-start.rest.now c.args.front.now
    (rw (cut.1, cut.2) (sym (take-append-drop (length c.args.front.now) c.args.name.now)))
    cut.3 (search rules)
