use Rattle.std.proofs.Common.{◌∙◌, ◌++◌, ℕ, List, ap, append_assoc, codes, inl, inr, sym}
use Rattle.config_search.proofs.Covers.{no, not_after, yes}
use Rattle.config_search.proofs.owner.is_below.Goals as goal

pub returns-in-Some-after : goal.returns-in-Some-after
returns-in-Some-after c = yes (
  c.without_slash.result.now,
  c.in-Some-after.field-0.now,
  elim c.without_slash.ensures [ inl cut ↦ inr cut | inr whole ↦ inl whole.1 ],
  c.in-Some.ensures ∙ ap (λ (rest : List ℕ). c.without_slash.result.now ++ rest) c.in-Some-after.ensures
      ∙ sym (append_assoc c.without_slash.result.now (codes "/") c.in-Some-after.field-0.now),
)

pub returns-in-None : goal.returns-in-None
returns-in-None c = no (not_after c.args.top.now c.without_slash.result.now c.args.folder.now c.in-Some.rest.now
    c.without_slash.ensures c.in-Some.ensures c.in-None.ensures)
