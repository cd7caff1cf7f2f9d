use Rattle.std.proofs.Common.{◌≡◌, None, Some, ap, inl, inr, option_copied}
use Rattle.config_edit.specs.Edit.{name_after}
use Rattle.config_edit.proofs.EachEntry.{no_comment, changed_plain}
use Rattle.config_edit.proofs.Commented.{changed_commented, writable_comment}
use Rattle.config_edit.proofs.each.push_change.Goals as goal
use Rattle.config_edit.proofs.each.push_change.Goals.{in_default-via-in-Some+in_default}
use Rattle.config_edit.proofs.each.push_change.Goals.{in_default-via-in_default}

pub returns-in_default : goal.returns-in_default
returns-in_default c =
    let change = c.args.change.now in
    let (put, pushed, named) = c.in_ok-push_named.ensures in
    let none : option_copied change.comment ≡ None =
    no_comment (option_copied change.value) (option_copied change.comment) c.requires.writable.2
    (elim c.in_default.branch [
      | in_default-via-in-Some+in_default w ↦ inr (ap (λ o. option_copied o) w.in_default.is-1)
      | in_default-via-in_default w ↦ inl (ap (λ o. option_copied o) w.in_default.is-0)
    ]) in
    (put, pushed, changed_plain none named)

pub push_commented-requires-clause-shaped : goal.push_commented-requires-clause-shaped
push_commented-requires-clause-shaped c =
    let (line, pushed, named) = c.in_ok-push_named-2.ensures in
    let same : c.as_slice.result.now ≡ line =
    simp (c.as_slice.ensures.value, pushed, c.new-line.ensures.items) in
    (name_after (option_copied c.args.change.now.name) c.args.parts.now.key.now, rw same named.shaped)

pub returns : goal.returns
returns c =
    let change = c.args.change.now in
    let (line, pushed_line, named) = c.in_ok-push_named-2.ensures in
    let line_is : c.as_slice.result.now ≡ line =
    simp (c.as_slice.ensures.value, pushed_line, c.new-line.ensures.items) in
    let value = c.in-Some-Some.value.now in
    let comment = c.in-Some-Some.comment.now in
    let (put, pushed, commented) = c.in_ok-push_commented.ensures in
    let value_is : option_copied change.value ≡ Some value = ap (λ o. option_copied o) c.in-Some-Some.is-0 in
    let comment_is : option_copied change.comment ≡ Some comment = ap (λ o. option_copied o) c.in-Some-Some.is-1 in
    let all = writable_comment (option_copied change.value) (option_copied change.comment) value comment value_is comment_is c.requires.writable.2 in
    let there = rw (← line_is) at named in
    (put, pushed, changed_commented value comment value_is comment_is all c.requires.writable.0 c.requires.entry there commented)
