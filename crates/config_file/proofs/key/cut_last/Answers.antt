use Rattle.std.proofs.Common.{rules, length, drop, take, ◌-◌, ◌+◌, arith, ◌≡◌}
use Rattle.std.proofs.lemmas.List.{take_all, length-drop}
use Rattle.config_file.proofs.Keys.{no_dots, last_cut}
use Rattle.config_file.proofs.key.cut_last.Goals as goal

pub returns-in_err-last : goal.returns-in_err-last
returns-in_err-last c = rw c.from_residual.ensures (no_dots c.args.text.now (search rules))

pub returns : goal.returns
returns c =
    let i = c.in_ok-last.last in
    let text = c.args.text.now in
    let rest = drop (i + 1) text in
    let whole : take (length text - (i + 1)) rest ≡ rest =
    take_all (length text - (i + 1)) rest (omega (arith, length-drop (i + 1) text)) in
    rw whole (last_cut text i (search rules) (search rules) (search rules))
