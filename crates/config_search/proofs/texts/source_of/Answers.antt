use Rattle.std.proofs.Common.{◌≡◌, ◌∙◌, ◌-◌, ℕ, List, drop, length, refl, subst, sym}
use Rattle.config_search.specs.Names.{inside}
use Rattle.config_search.specs.Reads.{IsDirOf}
use Rattle.config_search.proofs.Names.{end_of_inside}
use Rattle.config_search.proofs.texts.source_of.Goals as goal

pub returns-clause-opens : goal.returns-clause-opens
returns-clause-opens c = λ system agrees.
    let name = c.args.named.now.name.items in
    let whole : c.in_ok-fact.fact.name.now ≡ inside c.args.start.now name = rw c.deref.ensures.value at
    c.in_ok-fact.ensures.0 in
    let same = rw c.deref-2.ensures.value at c.end_of.ensures ∙ subst
    (λ (n : List ℕ). drop (length n - length name) n ≡ name)
    (sym whole) (end_of_inside c.args.start.now name) in (
      (
        refl,
        same,
        refl,
        rw c.deref.ensures.value at (c.in_ok-fact.ensures.1 system agrees) ∙ sym
            (rw c.in-Some.is at c.answer_of.ensures),
      ),
      subst (λ (n : List ℕ). IsDirOf system c.args.start.now n c.in-Some.text.now
          c.in_ok-dir_in.field-0.now) (sym same)
          (rw c.deref-3.ensures.value at (c.in_ok-dir_in.ensures system agrees)),
    )
