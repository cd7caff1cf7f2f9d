use Rattle.std.proofs.Common.{sym, ◌∙◌}
use Rattle.std.proofs.lemmas.Bool.{true≢false}
use Rattle.std.proofs.lemmas.Slice.Eq.{bytes_eq-Decides}
use Rattle.config_search.proofs.Names.{all_three, other_two, same_rest}
use Rattle.config_search.proofs.name.is_joined.Goals as goal

pub returns-in_default-after : goal.returns-in_default-after
returns-in_default-after c = λ is. c.in_default-after.ensures c.args.third.now
    (other_two c.args.whole.now c.args.first.now c.args.second.now c.args.third.now c.in-Some.rest.now
    c.in-Some.ensures is)

pub returns-then-eq : goal.returns-then-eq
returns-then-eq c = all_three c.args.whole.now c.args.first.now c.args.second.now c.args.third.now c.in-Some.rest.now
    c.in-Some.ensures (rw ((bytes_eq-Decides c.in-Some-after.rest.now c.args.third.now).0
    (sym c.eq.ensures ∙ c.if-eq.true)) at c.in-Some-after.ensures)

pub returns : goal.returns
returns c = λ is.
    let rest = other_two c.args.whole.now c.args.first.now c.args.second.now c.args.third.now c.in-Some.rest.now
    c.in-Some.ensures is in
    let same = same_rest c.args.second.now c.in-Some.rest.now c.in-Some-after.rest.now c.args.third.now
    c.in-Some-after.ensures rest in
    true≢false (sym ((bytes_eq-Decides c.in-Some-after.rest.now c.args.third.now).1 same)
    ∙ (sym c.eq.ensures ∙ c.if-eq.false))
