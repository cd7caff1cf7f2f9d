use Rattle.std.proofs.Common.{rules, length, drop, take, ◌-◌, ◌+◌, arith, ◌≡◌, refl}
use Rattle.std.proofs.lemmas.List.{take_all, length-drop}
use Rattle.config_checks.proofs.ShapeLemmas.{no_colons, last_colon}
use Rattle.config_checks.proofs.shape.sides_of.Goals as goal

pub returns-in_default : goal.returns-in_default
returns-in_default c = (refl, no_colons c.args.text.now (search rules))

pub returns : goal.returns
returns c =
    let i = c.in-Some.last in
    let text = c.args.text.now in
    let rest = drop (i + 1) text in
    let whole : take (length text - (i + 1)) rest ≡ rest =
    take_all (length text - (i + 1)) rest (omega (arith, length-drop (i + 1) text)) in
    rw whole (last_colon text i (search rules) (search rules) (search rules))
