use Rattle.std.proofs.Common.{◌≡◌, ◌++◌, ◌∙◌, ap, inl, inr, append_assoc}
use Rattle.config_edit.specs.Reading as edit
use Rattle.config_edit.proofs.removal.Group.finish.Goals as goal

pub returns : goal.returns
returns c =
    let g = c.args.self.now in
    let new = c.args.new.now.items in
    let left = c.head_left.result.now in
    let first = c.in_ok-extend_from_slice.ensures.items in
    let whole : c.extend_from_slice-2.new.self.items ≡ new ++ (left ++ g.body.items) =
    simp (c.in_ok-extend_from_slice-2.ensures.items, c.as_slice.ensures.value, first, append_assoc) in
    elim c.head_left.ensures [
      | inl (same, stays) ↦
          (g.head.items ++ g.body.items, whole ∙ ap (λ l. new ++ (l ++ g.body.items)) same, edit.whole stays)
      | inr (same, not_kept, lost) ↦ (
        g.line_end.now ++ g.body.items,
        whole ∙ ap (λ l. new ++ (l ++ g.body.items)) same,
        edit.without_head not_kept lost,
      )
    ]
