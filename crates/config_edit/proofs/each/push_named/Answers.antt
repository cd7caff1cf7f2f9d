use Rattle.std.proofs.Common.{◌≡◌, ◌++◌, ◌∙◌, sym, append_assoc}
use Rattle.config_edit.proofs.EachEntry.{named, named_old, named_new}
use Rattle.config_edit.proofs.each.push_named.Goals as goal

pub returns-in_default : goal.returns-in_default
returns-in_default c =
    let (put, pushed, valued) = c.in_ok-push_valued.ensures in
    (put, pushed, rw c.in_default.is (named_old valued))

pub behind-requires : goal.behind-requires
behind-requires c =
    let (line, pushed, valued) = c.in_ok-push_valued-2.ensures in
    let is = rw c.in-Some.is at c.requires.writable.0 in
    let (more, joined, entry) = named c.in-Some.name.now is valued.entry in
    let same : c.as_slice.result.now ≡ line =
    simp (c.as_slice.ensures.value, pushed, c.new-line.ensures.items) in
    (more, same ∙ joined)

pub returns : goal.returns
returns c =
    let (line, pushed, valued) = c.in_ok-push_valued-2.ensures in
    let name = c.in-Some.name.now in
    let blanks = c.args.piece.now.blanks.now in
    let more = c.behind.result.now in
    let new = c.args.new.now.items in
    let is = rw c.in-Some.is at c.requires.writable.0 in
    let same : c.as_slice.result.now ≡ line =
    simp (c.as_slice.ensures.value, pushed, c.new-line.ensures.items) in
    let first = c.in_ok-extend_from_slice.ensures.items in
    let second = c.in_ok-extend_from_slice-2.ensures.items in
    let whole : c.extend_from_slice-3.new.self.items ≡ new ++ (blanks ++ (name ++ more)) =
    simp (c.in_ok-extend_from_slice-3.ensures.items, second, first, append_assoc) in (
      blanks ++ (name ++ more),
      whole,
      rw c.in-Some.is (named_new name more is valued (sym same ∙ c.behind.ensures)),
    )
