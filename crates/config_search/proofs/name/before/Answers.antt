use Rattle.std.proofs.Common.{◌≡◌, ◌∙◌, ◌-◌, ℕ, List, drop, false, length, rules, subst, sym}
use Rattle.std.proofs.lemmas.List.{take-append-drop}
use Rattle.std.proofs.lemmas.Slice.Eq.{bytes_eq-Decides}
use Rattle.std.specs.Str.{bytes_eq}
use Rattle.config_search.proofs.Names.{ends_not}
use Rattle.config_search.proofs.name.before.Goals as goal

pub returns-then-eq : goal.returns-then-eq
returns-then-eq c =
    let is : c.split_at.result.1.now ≡ c.args.end.now =
    (bytes_eq-Decides c.split_at.result.1.now c.args.end.now).0 (sym c.eq.ensures ∙ c.if-eq.true) in
    rw (sym is, c.split_at.ensures.front, c.split_at.ensures.back) (sym (take-append-drop _ c.args.text.now))

pub returns-else-eq : goal.returns-else-eq
returns-else-eq c = λ front is.
    let text = c.args.text.now in
    let end = c.args.end.now in
    let back : c.split_at.result.1.now ≡ drop (length text - length end) text = search rules in
    ends_not text end front (subst (λ (b : List ℕ). bytes_eq b end ≡ false) back
    (sym c.eq.ensures ∙ c.if-eq.false)) is
