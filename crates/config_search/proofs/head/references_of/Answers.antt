use Rattle.config_search.specs.Questions.{in_named, in_place}
use Rattle.config_search.proofs.Places.{shared_place}
use Rattle.config_search.proofs.head.references_of.Goals as goal

pub returns-in-Some : goal.returns-in-Some
returns-in-Some c =
    let named = rw c.in-Some.is at c.requires.stored in
    (λ system agrees. in_named (named system agrees), λ system agrees. in_named (named system agrees))

pub returns : goal.returns
returns c = (
  λ system agrees. rw (c.in_ok-to_vec.ensures.items_if_clones_equal (λ y h same. same)) (in_place (c.requires.place system agrees)),
  λ system agrees. rw (c.in_ok-to_vec-2.ensures.items_if_clones_equal (λ y h same. same), c.or.ensures)
      (in_place (shared_place system _ c.in_ok-linked.linked _ (c.requires.place system agrees) (c.in_ok-linked.ensures system agrees))),
)
