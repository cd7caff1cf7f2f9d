use Rattle.std.proofs.Common.{◌≡◌, ◌≢◌, ◌++◌, ap, [], length, append_assoc, arith}
use Rattle.std.proofs.lemmas.Bool.Decides.{nat_tests}
use Rattle.config_file.specs.Spelling.{git_spelled}
use Rattle.config_edit.proofs.Changed.{put_between}
use Rattle.config_edit.proofs.write.push_in_place.Goals as goal

pub returns-then-is_empty : goal.returns-then-is_empty
returns-then-is_empty c = c.push_in_blanks.ensures

pub returns : goal.returns
returns c = λ between is_spaced.
    let lead = c.run.result.0.now in
    let rest = c.run.result.1.now in
    let core = c.trimmed.result.0.now in
    let trail = c.trimmed.result.1.now in
    let value = c.args.value.now in
    let git = git_spelled value in
    let text = c.args.text.now.items in
    let some : rest ≢ [] = λ none.
    let zero : length rest ≡ 0 = ap length none in
    let is = c.is_empty.ensures in
    let no = c.if-is_empty.false in grind (arith, nat_tests) in
    let first = c.in_ok-extend_from_slice.ensures.items in
    let whole : c.extend_from_slice-2.new.self.items ≡ text ++ (lead ++ (git ++ trail)) =
    simp (c.in_ok-extend_from_slice-2.ensures.items, c.in_ok-push_as_git.ensures, first, append_assoc) in (
      lead ++ (git ++ trail),
      whole,
      put_between lead rest core trail value c.requires c.run.ensures some c.trimmed.ensures.joined c.trimmed.ensures.blank c.trimmed.ensures.last,
    )
