use Rattle.std.proofs.Common.{◌≡◌, ◌≢◌, ◌++◌, ◌∷◌, ◌∙◌, ◌↔◌, [], sym, IsTrue, append_assoc, true≢false}
use Rattle.config_file.specs.Spelling.{git_spelled}
use Rattle.config_edit.specs.Edit.{BeginsWithSign}
use Rattle.config_edit.specs.Reading.{space_if}
use Rattle.config_edit.proofs.Changed.{put_in_blanks}
use Rattle.config_edit.proofs.Edits.{is_none_left, is_some_left}
use Rattle.config_edit.proofs.write.push_in_blanks.Goals as goal
use Rattle.config_edit.proofs.write.push_in_blanks.Goals.{then-is_empty, else-is_empty, then-is_empty-2}
use Rattle.config_edit.proofs.write.push_in_blanks.Goals.{else-is_empty-2}

pub returns : goal.returns
returns c = λ between is_spaced.
    let lead = c.first_blank.result.0.now in
    let trail = c.first_blank.result.1.now in
    let spaced = c.if-is_empty.push_gap in
    let signed = c.if-is_empty-2.push_gap in
    let tail = c.args.tail.now in
    let value = c.args.value.now in
    let text = c.args.text.now.items in
    let git = git_spelled value in
    let spaced_is : IsTrue spaced ↔ ((lead ≡ []) × (between ≢ 61 ∷ [])) = elim c.if-is_empty.branch [
      | then-is_empty w ↦ rw w.push_gap-is (
        λ is. (is_none_left lead (sym w.if-is_empty.true ∙ c.is_empty.ensures), is_spaced.0 is),
        λ both.
            is_spaced.1 both.1,
      )
      | else-is_empty w ↦ rw w.push_gap-is (
        λ is. absurd (true≢false (sym is ∙ w.if-is_empty.false)),
        λ both.
            absurd (is_some_left lead (sym w.if-is_empty.false ∙ c.is_empty.ensures) both.0),
      )
    ] in
    let signed_is : IsTrue signed ↔ ((trail ≡ []) × BeginsWithSign tail) = elim c.if-is_empty-2.branch [
      | then-is_empty-2 w ↦ rw w.push_gap-is (
        λ is. (
          is_none_left trail (sym w.if-is_empty-2.true ∙ c.is_empty-2.ensures),
          w.begins_with_sign.ensures.0 is,
        ),
        λ both. w.begins_with_sign.ensures.1 both.1,
      )
      | else-is_empty-2 w ↦ rw w.push_gap-is (
        λ is. absurd (true≢false (sym is ∙ w.if-is_empty-2.false)),
        λ both.
            absurd (is_some_left trail (sym w.if-is_empty-2.false ∙ c.is_empty-2.ensures) both.0),
      )
    ] in
    let first = c.in_ok-extend_from_slice.ensures.items in
    let last = c.in_ok-extend_from_slice-2.ensures.items in
    let whole : c.extend_from_slice-2.new.self.items ≡ text ++ (lead ++ ((space_if spaced ++ (git ++ space_if signed)) ++ trail)) =
    simp (
      last,
      c.in_ok-push_gap-2.ensures,
      c.in_ok-push_as_git.ensures,
      c.in_ok-push_gap.ensures,
      first,
      append_assoc,
    ) in (
      lead ++ ((space_if spaced ++ (git ++ space_if signed)) ++ trail),
      whole,
      put_in_blanks c.args.blanks.now lead trail between tail value spaced signed c.requires.spellable c.requires.blank
          c.first_blank.ensures.joined c.first_blank.ensures.parts spaced_is signed_is,
    )
