use Rattle.std.proofs.Common.{◌≡◌, ◌++◌, ◌∙◌, true, false, sym, ap, true≢false, append-nil}
use Rattle.config_file.specs.KeyView.{key_of}
use Rattle.config_edit.specs.Reading.{Clearing, ClearsPiece}
use Rattle.config_edit.proofs.Edits.{header_listed}
use Rattle.config_edit.proofs.Cleared.{clearing_begins, at_header, then_header, piece_clears, left_is_cut}
use Rattle.config_edit.proofs.Cleared.{still_lost, nothing_lost, kept_ends, lost_ends}
use Rattle.config_edit.proofs.sections.without_section.Goals as goal
use Rattle.config_edit.proofs.sections.without_section.Goals.{in-Header+in_ok-in_line, in_default-held}
use Rattle.config_edit.proofs.sections.without_section.Goals.{then-is_some}
use Rattle.config_edit.proofs.sections.without_section.Goals.{else-is_some+in_ok-extend_from_slice}
use Rattle.config_edit.proofs.sections.without_section.Goals.{in-Some-lost+in_ok-push_between}
use Rattle.config_edit.proofs.sections.without_section.Goals.{in_default-lost, then-is_found, else-is_found}

pub pieces-init : goal.pieces-init
pieces-init c =
    rw c.in_ok-new.ensures.items (clearing_begins (key_of c.args.key.now) c.args.text.now)

pub push_left-requires : goal.push_left-requires
push_left-requires c =
    let p = c.pieces in
    left_is_cut (key_of c.args.key.now) c.args.text.now p.rest.now p.new.items p.is_found p.in_line p.starts_line p.lost p.invariant

pub pieces-preserved : goal.pieces-preserved
pieces-preserved c =
    let key = key_of c.args.key.now in
    let text = c.args.text.now in
    let p = c.pieces in
    let piece = c.in-Some.piece in
    let is = c.in-Some.ensures.piece in
    let shorter = c.in-Some.ensures.shorter in
    let m = c.match-piece in
    let clears : ClearsPiece key text piece m.new.items p.is_found m.in_line m.lost =
    elim c.match-piece.branch [
      | in-Header+in_ok-in_line w ↦
          let header = w.in-Header.section in
          let (listed, spelled) =
          header_listed piece.held piece.blanks.now piece.bytes.now piece.rest.now piece.is_line is.made header w.in-Header.is in
          let before =
          at_header key text p.rest.now p.new.items w.push_left.new.new.items p.is_found p.in_line p.starts_line w.in_ok-in_line.in_line p.lost
          p.invariant w.in_ok-in_line.ensures in
          rw (w.new-is, w.lost-is, w.in_line-is)
          (then_header key text p.rest.now w.push_left.new.new.items p.is_found w.in_ok-in_line.in_line w.lost_from-lost.result piece
          before is shorter header w.in-Header.is (w.lost_from-lost.ensures listed spelled))
      | in_default-held w ↦ rw (w.new-is, w.lost-is, w.in_line-is)
          (piece_clears key text p.rest.now p.new.items p.is_found p.in_line p.starts_line p.lost w.lost_with-lost.result piece
          p.invariant is shorter w.in_default-held.not-Header w.lost_with-lost.ensures)
    ] in
    let f = c.if-is_some in
    let whole : Clearing key text piece.rest.now f.new.items f.is_found m.lost f.in_line piece.is_line =
    elim c.if-is_some.branch [
      | then-is_some w ↦ rw (w.new-is, w.is_found-is, w.in_line-is)
          (still_lost key text m.new.items p.is_found m.in_line m.lost piece clears
          (sym c.is_some.ensures ∙ w.if-is_some.true))
      | else-is_some+in_ok-extend_from_slice w ↦
          let new_is : f.new.items ≡ m.new.items ++ piece.bytes.now =
          ap (λ n. n.items) w.new-is ∙ w.in_ok-extend_from_slice.ensures.items in
          rw (new_is, w.is_found-is, w.in_line-is)
          (nothing_lost key text m.new.items p.is_found m.in_line m.lost piece clears
          (sym c.is_some.ensures ∙ w.if-is_some.false))
    ] in whole

pub returns : goal.returns
returns c = λ contents ends.
    let p = c.pieces in
    let left = c.in_default.ensures.piece in
    elim c.match-lost.branch [
      | in-Some-lost+in_ok-push_between w ↦
          let (r, found) = rw w.in-Some-lost.is at p.invariant in
          let (parts, cuts, clears, has) = lost_ends r ends left in
          elim c.if-is_found.branch [
            | then-is_found v ↦
                let new_is : c.match-lost.new.items ≡ _ = ap (λ n. n.items) w.new-is ∙ w.in_ok-push_between.ensures in
                rw v.result-is (parts, cuts, (has, rw (new_is, append-nil) clears))
            | else-is_found v ↦ absurd (true≢false (sym found ∙ v.if-is_found.false))
          ]
      | in_default-lost w ↦
          let kept = kept_ends (rw w.in_default-lost.is at p.invariant) ends left in
          elim c.if-is_found.branch [
            | then-is_found v ↦
                let (parts, cuts, clears, found) = kept true v.if-is_found.true in
                rw v.result-is (parts, cuts, (found, rw w.new-is clears))
            | else-is_found v ↦
                let (parts, cuts, clears, found) = kept false v.if-is_found.false in
                rw v.result-is (parts, cuts, found)
          ]
    ]
