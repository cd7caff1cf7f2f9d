use Rattle.std.proofs.Common.{◌≡◌, ◌∙◌, ◌-◌, ℕ, List, drop, length, subst, sym}
use Rattle.config_search.proofs.Names.{end_of_inside}
use Rattle.config_search.proofs.reader.content_of.Goals as goal

pub returns-in-Some : goal.returns-in-Some
returns-in-Some c = λ system agrees. (
  c.end_of.ensures ∙ subst (λ (n : List ℕ). drop (length n - length c.args.name.now) n ≡ c.args.name.now)
      (sym c.in_ok-fact.ensures.0) (end_of_inside c.args.folder.now c.args.name.now),
  (
    c.in_ok-fact.ensures.1 system agrees ∙ sym (rw c.in-Some.is at c.answer_of.ensures),
    c.in_ok-dir_in.ensures system agrees,
  ),
)
