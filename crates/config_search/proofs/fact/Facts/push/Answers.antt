use Rattle.std.proofs.Common.{◌≡◌, ◌∙◌, ◌++◌, ◌∷◌, [], true, Option, Some, None, ap, cond, sym, is_ok, rules}
use Rattle.config_search.specs.Shown.{first_of}
use Rattle.config_search.specs.declared.fact.Fact.{Fact}
use Rattle.config_search.proofs.FirstFacts.{answers, kept_recent, known_push, new_first, new_push}
use Rattle.config_search.proofs.fact.Facts.push.Goals as goal

pub invariant_of-self-in-Some : goal.invariant_of-self-in-Some
invariant_of-self-in-Some c =
    let inside : c.args.self.now ≡ c.self.inside.list.items = search rules in
    let known : Some c.in-Some.field-0 ≡ first_of c.self.inside.list.items c.args.fact.subject c.args.fact.name.now =
    rw (c.in-Some.is, c.in_ok-copied.ensures, inside) at c.get.ensures in
    rw c.push.ensures.items (
      λ q. c.self.invariant.0 q ∙ known_push c.self.inside.list.items c.args.fact c.in-Some.field-0
          known (is_ok c.push.result) q.0 q.1.items,
      kept_recent c.self.inside.list.items c.args.fact c.self.inside.recent (is_ok c.push.result) c.self.invariant.1,
    )

pub invariant_of-self-in-Ok : goal.invariant_of-self-in-Ok
invariant_of-self-in-Ok c =
    let inside : c.args.self.now ≡ c.self.inside.list.items = search rules in
    let unknown : None ≡ first_of c.self.inside.list.items c.args.fact.subject c.args.fact.name.now =
    rw (c.in_default.is, c.in_ok-copied.ensures, inside) at c.get.ensures in (
      λ q. c.in-Ok.ensures.updates.0 q ∙ rw (c.in_ok-push-2.ensures.items, c.in_ok-copied.ensures)
          (ap (λ (old : Option Fact). cond (answers c.args.fact q.0 q.1.items) (Some c.args.fact) old) (c.self.invariant.0 q)
          ∙ new_push c.self.inside.list.items c.args.fact (sym unknown) q.0 q.1.items),
      rw c.in_ok-push-2.ensures.items (c.after-self-inside.ensures (c.self.inside.list.items ++ c.args.fact ∷ [])
          (kept_recent c.self.inside.list.items c.args.fact c.self.inside.recent true c.self.invariant.1)
          (new_first c.self.inside.list.items c.args.fact (sym unknown))),
    )
