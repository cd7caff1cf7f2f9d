use Rattle.std.proofs.Common.{◌≡◌, ◌⊎◌, ◌∙◌, inl, inr, sym, false, IsTrue, ap, ◌↔◌}
use Rattle.config_edit.specs.declared.setting.Places.{Places}
use Rattle.config_file.specs.KeyView.{key_of}
use Rattle.config_edit.specs.Edit.{IsIn}
use Rattle.config_edit.specs.Reading.{section_after, holds_header, is_item}
use Rattle.config_edit.proofs.Added.{ends_no_line, placing_begins, placing_here, placing_kept, placing_ends}
use Rattle.config_edit.proofs.Added.{place_within}
use Rattle.config_edit.proofs.Added.{inside_after_header, inside_after_other, header_after}
use Rattle.config_edit.proofs.setting.find_places.Goals as goal
use Rattle.config_edit.proofs.setting.find_places.Goals.{in-Header, in_default-held}
use Rattle.config_edit.proofs.setting.find_places.Goals.{else-is_inside-via-then-is_inside+else-is_item}
use Rattle.config_edit.proofs.setting.find_places.Goals.{then-after_header, else-after_header}
use Rattle.config_edit.proofs.setting.find_places.Goals.{else-is_inside-via-else-is_inside}

pub pieces-init : goal.pieces-init
pieces-init c = placing_begins (key_of c.args.key.now) c.args.text.now

pub pieces-preserved-then-is_item : goal.pieces-preserved-then-is_item
pieces-preserved-then-is_item c =
    let key = key_of c.args.key.now in
    let piece = c.in-Some.piece in
    let is = c.in-Some.ensures.piece in
    let p = c.pieces.invariant in
    let m = c.match-piece in
    let inside : IsTrue m.is_inside ↔ IsIn key (section_after piece.held p.section) =
    elim c.match-piece.branch [
      | in-Header w ↦ rw w.is_inside-is
          (inside_after_header key p.section w.is_in-is_inside.result piece.held piece.blanks.now piece.bytes.now piece.rest.now piece.is_line is.made w.in-Header.section w.in-Header.is w.is_in-is_inside.ensures)
      | in_default-held w ↦ rw w.is_inside-is
          (inside_after_other key p.section c.pieces.is_inside piece.held w.in_default-held.not-Header p.inside_is)
    ] in
    let header : m.is_header ≡ holds_header piece.held =
    elim c.match-piece.branch [
      | in-Header w ↦ w.is_header-is ∙ sym (ap (λ h. holds_header h) w.in-Header.is)
      | in_default-held w ↦ header_after piece.held m.is_header w.in_default-held.not-Header w.is_header-is
    ] in
    placing_here p is c.in-Some.ensures.shorter c.of-end.ensures
    (ends_no_line piece.held is.unended) m.is_inside m.is_header inside header
    c.if-is_inside.true (elim c.if-after_header.branch [
      | then-after_header v ↦ inl v.if-after_header.true
      | else-after_header v ↦ inr (sym v.is_item.ensures ∙ sym v.value-is ∙ c.if-is_item.true)
    ])

pub pieces-preserved : goal.pieces-preserved
pieces-preserved c =
    let key = key_of c.args.key.now in
    let piece = c.in-Some.piece in
    let is = c.in-Some.ensures.piece in
    let p = c.pieces.invariant in
    let m = c.match-piece in
    let inside : IsTrue m.is_inside ↔ IsIn key (section_after piece.held p.section) =
    elim c.match-piece.branch [
      | in-Header w ↦ rw w.is_inside-is
          (inside_after_header key p.section w.is_in-is_inside.result piece.held piece.blanks.now piece.bytes.now piece.rest.now piece.is_line is.made w.in-Header.section w.in-Header.is w.is_in-is_inside.ensures)
      | in_default-held w ↦ rw w.is_inside-is
          (inside_after_other key p.section c.pieces.is_inside piece.held w.in_default-held.not-Header p.inside_is)
    ] in
    let header : m.is_header ≡ holds_header piece.held =
    elim c.match-piece.branch [
      | in-Header w ↦ w.is_header-is ∙ sym (ap (λ h. holds_header h) w.in-Header.is)
      | in_default-held w ↦ header_after piece.held m.is_header w.in_default-held.not-Header w.is_header-is
    ] in
    let either : (m.is_inside ≡ false) ⊎ ((is_item piece.held ≡ false) × (c.pieces.after_header ≡ false)) =
    elim c.else-is_inside.branch [
      | else-is_inside-via-then-is_inside+else-is_item w ↦ elim w.if-after_header.branch [
        | then-after_header v ↦ cc
        | else-after_header v ↦
            inr (sym v.is_item.ensures ∙ sym v.value-is ∙ w.if-is_item.false, v.if-after_header.false)
      ]
      | else-is_inside-via-else-is_inside w ↦ inl w.if-is_inside.false
    ] in
    placing_kept p is c.in-Some.ensures.shorter c.of-end.ensures
    (ends_no_line piece.held is.unended) m.is_inside m.is_header inside header either

pub returns-clause-places : goal.returns-clause-places
returns-clause-places c = λ contents ends.
    let places : Places = record { inside = c.pieces.inside; end = c.pieces.end } in
    placing_ends places c.pieces.invariant ends c.in_default.ensures.piece

pub returns-clause-within : goal.returns-clause-within
returns-clause-within c = place_within c.pieces.inside c.pieces.invariant
