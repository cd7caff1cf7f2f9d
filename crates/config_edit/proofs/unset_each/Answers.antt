use Rattle.std.proofs.Common.{None}
use Rattle.config_edit.proofs.EditedKeys.{edit_file, refuses_file}
use Rattle.config_edit.proofs.Removed.{taken_made}
use Rattle.config_edit.proofs.unset_each.Goals as goal

pub returns-in-None : goal.returns-in-None
returns-in-None c =
    let key = c.in_ok-key.ensures in
    refuses_file None (key.0, key.2, λ lacks. lacks) c.split_mark.ensures c.in_ok-check_file.ensures
    (λ contents ends. (rw c.in-None.is at (c.in_ok-taken.ensures contents ends).counted).0)

pub returns-in_ok-marked-in-One : goal.returns-in_ok-marked-in-One
returns-in_ok-marked-in-One c =
    let split = c.split_mark.ensures in
    edit_file c.in_ok-key.ensures.0 split c.in_ok-check_file.ensures
    (λ contents ends.
    let r = c.in_ok-taken.ensures contents ends in
    taken_made split ends r r.without c.in_ok-marked-in-One.ensures)
