use Rattle.std.proofs.Common.{rules, ◌≡◌, ◌++◌, ◌∙◌, sym, true≢false}
use Rattle.config_file.specs.KeyView.{key_of}
use Rattle.config_edit.specs.Reading.{IsHeaderHeld}
use Rattle.config_edit.proofs.PartsRead.{behind_all}
use Rattle.config_edit.proofs.Renamed.{renaming_begins, renaming_keeps, renaming_changes}
use Rattle.config_edit.proofs.sections.renamed.Goals as goal
use Rattle.config_edit.proofs.sections.renamed.Goals.{then-is_header_of+in_ok-extend_from_slice+in_ok-extend_from_slice-2}
use Rattle.config_edit.proofs.sections.renamed.Goals.{else-is_header_of+in_ok-extend_from_slice-3}
use Rattle.config_edit.proofs.sections.renamed.Goals.{then-is_found, else-is_found}

pub pieces-init : goal.pieces-init
pieces-init c =
    let begins = renaming_begins (key_of c.args.from.now) (key_of c.args.to.now) c.args.text.now in
    (rw c.in_ok-new.ensures.items begins, search rules)

pub pieces-preserved : goal.pieces-preserved
pieces-preserved c =
    let from = key_of c.args.from.now in
    let to = key_of c.args.to.now in
    let piece = c.in-Some.piece in
    let (renaming, header_is) = c.pieces.invariant in
    let is = c.in-Some.ensures.piece in
    let shorter = c.in-Some.ensures.shorter in
    elim c.if-is_header_of.branch [
      | then-is_header_of+in_ok-extend_from_slice+in_ok-extend_from_slice-2 w ↦
          let held = (c.is_header_of.ensures c.pieces.rest.now is).0 (search rules) in
          let new_is : c.if-is_header_of.new.items ≡
          (c.pieces.new.items ++ piece.blanks.now) ++ c.push_header.new.spelling.items = search rules in
          (rw (w.is_found-is, new_is, header_is) (renaming_changes renaming piece is shorter held), header_is)
      | else-is_header_of+in_ok-extend_from_slice-3 w ↦
          let other : ¬ (IsHeaderHeld from piece.held) =
          λ held. true≢false (sym ((c.is_header_of.ensures c.pieces.rest.now is).1 held)
          ∙ w.if-is_header_of.false) in
          let new_is : c.if-is_header_of.new.items ≡ c.pieces.new.items ++ piece.bytes.now = search rules in
          (rw (w.is_found-is, new_is) (renaming_keeps renaming piece is shorter other), header_is)
    ]

pub returns : goal.returns
returns c = λ contents ends.
    let (r, header_is) = c.pieces.invariant in
    let cuts = behind_all r.behind ends (search rules) in
    elim c.if-is_found.branch [
      | then-is_found w ↦ rw w.result-is (r.done, cuts, (rw w.if-is_found.true at r.found, r.renames))
      | else-is_found w ↦ rw w.result-is (r.done, cuts, rw w.if-is_found.false at r.found)
    ]
