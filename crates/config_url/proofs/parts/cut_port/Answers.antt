use Rattle.std.proofs.Common.{rules, refl, length, drop, take, ◌-◌, ◌+◌, arith, ◌≡◌, get_or}
use Rattle.std.proofs.lemmas.List.{take_all, length-drop}
use Rattle.config_url.proofs.UrlParts.{last_port, no_colon, last_bracket}
use Rattle.config_url.proofs.parts.cut_port.Goals as goal

pub returns-in_default : goal.returns-in_default
returns-in_default c = (refl, no_colon c.args.text.now (search rules))

pub returns-then-text-last-ne58 : goal.returns-then-text-last-ne58
returns-then-text-last-ne58 c =
    (refl, last_bracket c.args.text.now c.in-Some.last (search rules) (search rules) (search rules) (search rules))

pub returns : goal.returns
returns c =
    let i = c.in-Some.last in
    let text = c.args.text.now in
    let rest = drop (i + 1) text in
    let whole : take (length text - (i + 1)) rest ≡ rest =
    take_all (length text - (i + 1)) rest (omega (arith, length-drop (i + 1) text)) in
    let (none, joined) = last_port text i (search rules) (search rules) in
    let colon : get_or text i 0 ≡ 58 = search rules in
    rw whole (rw colon at joined, none)
