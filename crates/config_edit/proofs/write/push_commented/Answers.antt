use Rattle.std.proofs.Common.{◌≡◌, ◌++◌, ◌∷◌, ◌∙◌, [], List, ℕ, refl, ap, sym, append_assoc, append-nil}
use Rattle.std.proofs.Common.{inl, inr, ◌⊎◌, true≢false}
use Rattle.std.proofs.lemmas.List.{append_cancel_right}
use Rattle.config_edit.specs.Edit.{HasValue}
use Rattle.config_edit.specs.Reading.{IsOpenEntry}
use Rattle.config_file.specs.Views.{value_of}
use Rattle.config_edit.proofs.Changed.{has_of, how_spelled, not_spelled}
use Rattle.config_edit.proofs.write.push_commented.Goals as goal
use Rattle.config_edit.proofs.write.push_commented.Goals.{then-is_open+in_ok-has_value+then-branch+in_ok-push}
use Rattle.config_edit.proofs.write.push_commented.Goals.{else-is_open}
use Rattle.config_edit.proofs.write.push_commented.Goals.{else-is_open-via-then-is_open+in_ok-has_value+else-branch}
use Rattle.config_edit.proofs.write.push_commented.Goals.{else-is_open-via-else-is_open}

pub before-requires : goal.before-requires
before-requires c =
    let (name, s) = c.requires.shaped in
    let tail = c.before-tail.result.now in
    let blanks = c.args.piece.now.blanks.now in
    let inner = name ++ (s.between ++ s.bytes) in
    let tail_is : s.tail ≡ tail = append_cancel_right s.tail tail c.args.piece.now.rest.now (sym s.left ∙ c.before-tail.ensures) in
    (blanks ++ inner, s.put_is ∙ ap (λ t. blanks ++ (inner ++ t)) tail_is ∙ simp append_assoc)

pub returns : goal.returns
returns c =
    let text = c.args.text.now.items in
    let parts = c.args.parts.now in
    let value = c.args.value.now in
    let was = value_of parts.value in
    let e = c.requires.entry in
    let core = c.trimmed.result.0.now in
    let blanks = c.trimmed.result.1.now in
    let tail = c.before-tail.result.now in
    let comment = c.args.comment.now in
    let front = c.comment_front.result.now in
    let end = c.line_end.result.now in
    let first = c.in_ok-extend_from_slice.ensures.items in
    let (feed, fed, feed_is) : (feed : List ℕ) × (c.if-is_open.text.items ≡ text ++ (core ++ feed))
    × ((IsOpenEntry parts × HasValue was value × (feed ≡ 10 ∷ []))
    ⊎ (¬ (IsOpenEntry parts × HasValue was value) × (feed ≡ []))) =
    elim c.if-is_open.branch [
      | then-is_open+in_ok-has_value+then-branch+in_ok-push w ↦
          let known = w.in_ok-has_value.ensures in
          let has = has_of parts (how_spelled was e.takes known.alone known.spelled w.if-branch.true) in (
            10 ∷ [],
            simp (w.text-is, w.in_ok-push.ensures.items, first, append_assoc),
            inl (c.is_open.ensures.0 w.if-is_open.true, has, refl),
          )
      | else-is_open w ↦
          let closed : ¬ (IsOpenEntry parts × HasValue was value) = λ (opened, has).
          elim w.else-is_open.branch [
            | else-is_open-via-then-is_open+in_ok-has_value+else-branch w' ↦
                not_spelled was w'.in_ok-has_value.ensures.spelled w'.if-branch.false has
            | else-is_open-via-else-is_open w' ↦
                true≢false (sym (c.is_open.ensures.1 opened) ∙ w'.if-is_open.false)
          ] in
          ([], simp (w.text-is, first, append-nil), inr (closed, refl))
    ] in
    let second = c.in_ok-extend_from_slice-2.ensures.items in
    let third = c.in_ok-extend_from_slice-3.ensures.items in
    let whole : c.extend_from_slice-4.new.self.items ≡ text ++ (core ++ (feed ++ ((front ++ comment) ++ end))) =
    simp (c.in_ok-extend_from_slice-4.ensures.items, third, second, fed, append_assoc) in (
      core ++ (feed ++ ((front ++ comment) ++ end)),
      whole,
      record {
        core = core;
        blanks = blanks;
        tail = tail;
        feed = feed;
        written = front ++ comment;
        end = end;
        left = c.before-tail.ensures;
        line_is = c.before-2.ensures ∙ ap (λ t. t ++ tail) c.trimmed.ensures.joined;
        are_blank = c.trimmed.ensures.blank;
        ends_core = c.trimmed.ensures.last;
        feed_is = feed_is;
        is_written = c.comment_front.ensures;
        is_end = c.line_end.ensures;
        put_is = refl;
      },
    )
