use Rattle.config_search.proofs.place.shown_common.Goals as goal

pub returns-in_ok-given_or_resolved-in-Linked : goal.returns-in_ok-given_or_resolved-in-Linked
returns-in_ok-given_or_resolved-in-Linked c = λ system agrees. rw c.in-Linked.is
    (rw c.deref.ensures.value at c.in_ok-given_or_resolved-in-Linked.ensures system agrees)
