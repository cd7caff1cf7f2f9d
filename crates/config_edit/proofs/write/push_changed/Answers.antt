use Rattle.std.proofs.Common.{◌≡◌, ◌++◌, ◌∷◌, ◌∙◌, ◌↔◌, [], refl, sym, ap, Some, None, IsTrue, append_assoc}
use Rattle.std.proofs.Common.{append-nil}
use Rattle.std.proofs.Common.{length, ◌==◌}
use Rattle.config_file.specs.Spelling.{git_spelled}
use Rattle.config_file.specs.Views.{value_of}
use Rattle.config_edit.proofs.Changed.{can_hold, tail_cut, front_cut, value_changed, value_given, value_kept}
use Rattle.config_edit.proofs.Changed.{how_spelled, not_spelled, behind, key_taken, front_is_behind}
use Rattle.config_edit.proofs.Changed.{start_is_behind}
use Rattle.config_edit.proofs.Changed.{spaced_of, closed_of, appended}
use Rattle.config_edit.proofs.Edits.{is_none_left}
use Rattle.config_edit.specs.Cut.{value_bytes}
use Rattle.config_edit.specs.Reading.{space_if}
use Rattle.config_edit.proofs.write.push_changed.Goals as goal
use Rattle.config_edit.proofs.write.push_changed.Goals.{in-Some+in_ok-extend_from_slice-in-Some+in_ok-push_in_place-in-Some}
use Rattle.config_edit.proofs.write.push_changed.Goals.{in-None+in_ok-extend_from_slice-in-None+in_ok-push_given-in-None}

pub returns-then-branch : goal.returns-then-branch
returns-then-branch c =
    let e = c.requires.entry in
    let known = c.in_ok-has_value.ensures in
    let how = how_spelled (value_of c.args.parts.now.value) e.takes known.alone known.spelled
    c.if-branch.true in
    (c.args.piece.now.bytes.now, c.in_ok-extend_from_slice.ensures.items, value_kept how e)

pub before-front-requires : goal.before-front-requires
before-front-requires c =
    let e = c.requires.entry in
    let tail_is = tail_cut e c.before-tail.result.now c.before-tail.ensures in
    (c.args.piece.now.blanks.now ++ e.front, rw (tail_is, append_assoc) e.joined)

pub before-start-requires : goal.before-start-requires
before-start-requires c =
    let e = c.requires.entry in
    let blanks = c.args.piece.now.blanks.now in
    let tail = c.before-tail.result.now in
    let front_is = front_cut e c.before-front.result.now tail c.before-front.ensures
    (tail_cut e tail c.before-tail.ensures) in
    let hold = can_hold e.front refl (ap (λ v. value_of v) c.in-Some.is) e.begins e.takes in
    (blanks ++ hold.start, front_is ∙ ap (λ f. blanks ++ f) hold.joined ∙ simp append_assoc)

pub returns : goal.returns
returns c =
    let parts = c.args.parts.now in
    let piece = c.args.piece.now in
    let e = c.requires.entry in
    let value = c.args.value.now in
    let text = c.args.text.now.items in
    let front = c.before-front.result.now in
    let tail = c.before-tail.result.now in
    let was = value_of parts.value in
    let key = parts.key.now in
    let blanks = piece.blanks.now in
    let tail_is = tail_cut e c.before-tail.result.now c.before-tail.ensures in
    let b = behind e.takes in
    let (left, takes_key) = key_taken e.takes in
    let behind_is = front_is_behind parts piece e b in
    elim c.match-parts.branch [
      | in-Some+in_ok-extend_from_slice-in-Some+in_ok-push_in_place-in-Some w ↦
          let raw = w.in-Some.old.raw.now in
          let start = w.before-start.result.now in
          let held : was ≡ Some raw = ap (λ v. value_of v) w.in-Some.is in
          let between_is : b.between ≡ b.spaces ++ 61 ∷ [] = b.valued_is raw held in
          let between = b.spaces ++ 61 ∷ [] in
          let front_is : e.front ≡ key ++ (between ++ value_bytes was) = behind_is ∙ ap (λ x. key ++ (x ++ value_bytes was)) between_is in
          let other = not_spelled was c.in_ok-has_value.ensures.spelled c.if-branch.false in
          let bytes_is = rw (w.before-start.ensures, tail_is) at c.before-front.ensures in
          let start_is = start_is_behind parts piece raw start between e (front_is ∙ ap (λ v. key ++ (between ++ value_bytes v)) held) bytes_is in
          let spaced = spaced_of blanks key b.spaces takes_key e.begins b.are_spaces start_is w.ends_spaced.ensures in
          let (put, pushed, is_put) = w.in_ok-push_in_place-in-Some.ensures between spaced in
          let pushes = w.in_ok-extend_from_slice-in-Some.ensures.items in
          let whole : c.extend_from_slice-2.new.self.items ≡ text ++ (start ++ (put ++ tail)) =
          appended text start put tail (c.in_ok-extend_from_slice-2.ensures.items
          ∙ ap (λ t. t.items ++ tail) w.text-is) pushed pushes in (
            start ++ (put ++ tail),
            whole,
            value_changed raw value put start between tail held e tail_is front_is bytes_is is_put other,
          )
      | in-None+in_ok-extend_from_slice-in-None+in_ok-push_given-in-None w ↦
          let close = w.is_empty.result in
          let put = space_if close ++ 61 ∷ 32 ∷ git_spelled value in
          let front_is = front_cut e front tail c.before-front.ensures tail_is in
          let held : was ≡ None = ap (λ v. value_of v) w.in-None.is in
          let between_is : b.between ≡ b.spaces = b.alone_is held in
          let key_front : e.front ≡ key ++ b.spaces =
          behind_is ∙ ap (λ x. key ++ (x ++ value_bytes was)) between_is
          ∙ ap (λ v. key ++ (b.spaces ++ value_bytes v)) held ∙ ap (λ x. key ++ x) (append-nil b.spaces) in
          let joined : blanks ++ (key ++ b.spaces) ≡ w.trimmed.result.0.now ++ w.trimmed.result.1.now =
          ap (λ f. blanks ++ f) (sym key_front) ∙ sym front_is ∙ w.trimmed.ensures.joined in
          let (there, back) = closed_of blanks key b.spaces w.trimmed.result.0.now w.trimmed.result.1.now takes_key e.begins
          b.are_spaces joined w.trimmed.ensures.blank w.trimmed.ensures.last in
          let close_is : IsTrue close ↔ (b.between ≡ []) = (
            λ is. between_is ∙ there (is_none_left w.trimmed.result.1.now (sym is ∙ w.is_empty.ensures)),
            λ none. w.is_empty.ensures ∙ ap (λ l. length l == 0) (back (sym between_is ∙ none)),
          ) in
          let pushed = w.in_ok-push_given-in-None.ensures in
          let pushes = w.in_ok-extend_from_slice-in-None.ensures.items in
          let whole : c.extend_from_slice-2.new.self.items ≡ text ++ (front ++ (put ++ tail)) =
          appended text front put tail (c.in_ok-extend_from_slice-2.ensures.items
          ∙ ap (λ t. t.items ++ tail) w.text-is) pushed pushes in (
            front ++ (put ++ tail),
            whole,
            rw (front_is, tail_is) (value_given close b.between held e behind_is c.requires.spellable close_is),
          )
    ]
