use Rattle.std.proofs.Common.{◌∙◌, sym}
use Rattle.config_checks.proofs.AlikeLemmas.{unmarked_differs}
use Rattle.config_checks.proofs.alike.is_same_byte.Goals as goal

pub returns-else-bytes-from : goal.returns-else-bytes-from
returns-else-bytes-from c =
    let unmarked = rw c.from.ensures at c.if-bytes-from.false in
    c.if-bytes-from.false ∙ sym (unmarked_differs c.args.bytes.now c.args.row c.args.name c.requires unmarked)
