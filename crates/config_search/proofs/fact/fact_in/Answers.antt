use Rattle.std.proofs.Common.{ℕ, List, subst, sym}
use Rattle.config_search.specs.Questions.{Needs}
use Rattle.config_search.specs.System.{IsFactOf}
use Rattle.config_search.proofs.FirstFacts.{first_answers, none_open}
use Rattle.config_search.proofs.fact.fact_in.Goals as goal

pub returns-in-Some : goal.returns-in-Some
returns-in-Some c = subst (λ (name : List ℕ). IsFactOf c.args.lookup.now.facts.now c.args.subject name c.in-Some.fact)
    c.in_ok-inside.ensures (first_answers c.args.lookup.now.facts.now c.args.subject c.in_ok-inside.field-0.items
    c.in-Some.fact (sym (rw c.in-Some.is at c.get.ensures)))

pub returns : goal.returns
returns c = (
  none_open c.args.lookup.now.facts.now c.args.subject c.in_ok-inside.field-0.items
      (sym (rw c.in_default.is at c.get.ensures)),
  λ system agrees. subst (λ (name : List ℕ). Needs system c.args.lookup.now.folder.now c.args.subject name)
      (sym c.in_ok-inside.ensures) (c.requires system agrees),
)
