use Rattle.std.proofs.Common.{◌≡◌, ◌++◌, ◌∙◌, ap, refl, sym, option_map, is_some, true≢false, append_assoc}
use Rattle.config_edit.specs.declared.setting.Found.{Found}
use Rattle.config_file.specs.KeyView.{key_of}
use Rattle.config_file.specs.Views.{section_of}
use Rattle.config_edit.specs.Reading.{IsEntryHeld, holds_header}
use Rattle.config_edit.proofs.Replaced.{replacing_begins, replacing_passes, replacing_finds, looked_past}
use Rattle.config_edit.proofs.Replaced.{no_entry_held, no_header_after, none_replaced, one_replaced}
use Rattle.config_edit.proofs.Edits.{is_none_left, is_some_left, not_read}
use Rattle.config_edit.proofs.setting.replace.Goals as goal
use Rattle.config_edit.proofs.setting.replace.Goals.{in-Header}
use Rattle.config_edit.proofs.setting.replace.Goals.{in-Entry+then-is_of+in_ok-push_before-in-Entry}
use Rattle.config_edit.proofs.setting.replace.Goals.{in-Entry+else-is_of, in-Nothing}

pub pieces-init : goal.pieces-init
pieces-init c =
    rw c.in_ok-new.ensures.items (replacing_begins (key_of c.args.key.now) c.args.text.now)

pub pieces-preserved : goal.pieces-preserved
pieces-preserved c =
    let key = key_of c.args.key.now in
    let text = c.args.text.now in
    let p = c.pieces in
    let piece = c.in-Some.piece in
    let rest = p.rest.now in
    let start = p.start.now in
    let new = p.new.items in
    let section = option_map section_of p.section in
    let is = c.in-Some.ensures.piece in
    let shorter = c.in-Some.ensures.shorter in
    let passes =
    replacing_passes key text rest start new section p.several p.in_line p.found piece p.invariant is shorter in
    let m = c.match-piece in
    elim c.match-piece.branch [
      | in-Header w ↦
          let other : ¬ (IsEntryHeld key section piece.held) = rw w.in-Header.is (λ held. held) in
          rw (
            w.new-is,
            w.start-is,
            w.found-is,
            w.several-is,
            w.section-is,
            c.is_header-in_line.ensures
                ∙ ap (λ h. holds_header h) w.in-Header.is,
          )
          (rw w.in-Header.is at (passes other))
      | in-Entry+then-is_of+in_ok-push_before-in-Entry w ↦
          let f : Found = record { piece = piece; parts = w.in-Entry.parts; in_line = p.in_line } in
          let listable = (looked_past key text rest start new section p.several p.in_line p.found
          p.invariant).2.listable in
          let (left, left_is, pushed) = w.in_ok-push_before-in-Entry.ensures in
          let between = w.before-then-is_of.result.now in
          let step =
          replacing_finds key text rest start new section p.several p.in_line p.found f left between p.invariant refl is
          shorter w.in-Entry.is
          ((w.is_of.ensures listable).0 w.if-is_of.true) left_is w.before-then-is_of.ensures in
          let several_is : m.several ≡ is_some p.found = w.several-is ∙ w.is_some-several.ensures in
          let new_is : m.new.items ≡ new ++ (left ++ between) = ap (λ n. n.items) w.new-is ∙ pushed in
          rw (new_is, w.start-is, w.section-is, w.found-is, several_is, c.is_header-in_line.ensures) step
      | in-Entry+else-is_of w ↦
          let listable = (looked_past key text rest start new section p.several p.in_line p.found
          p.invariant).2.listable in
          let other : ¬ (IsEntryHeld key section piece.held) = λ held.
          true≢false (sym ((w.is_of.ensures listable).1 (rw w.in-Entry.is at held)) ∙ w.if-is_of.false) in
          rw (
            w.new-is,
            w.start-is,
            w.found-is,
            w.several-is,
            w.section-is,
            c.is_header-in_line.ensures
                ∙ ap (λ h. holds_header h) w.in-Entry.is,
          )
          (rw w.in-Entry.is at (passes other))
      | in-Nothing w ↦
          let step = passes (no_entry_held key section piece.held w.in-Nothing.is) in
          rw (w.new-is, w.start-is, w.found-is, w.several-is, w.section-is, c.is_header-in_line.ensures)
          (rw (no_header_after piece.held section w.in-Nothing.is) at step)
    ]

pub returns-then-not-is_empty : goal.returns-then-not-is_empty
returns-then-not-is_empty c =
    let p = c.pieces in
    let (front, contents, past) =
    looked_past (key_of c.args.key.now) c.args.text.now p.rest.now p.start.now p.new.items
    (option_map section_of p.section) p.several p.in_line p.found p.invariant in
    let some = is_some_left p.rest.now (sym c.if-not-is_empty.true ∙ c.is_empty.ensures) in
    λ contents. not_read past.joined past.passed some c.in_default.ensures.piece

pub returns-in-None : goal.returns-in-None
returns-in-None c =
    let p = c.pieces in
    none_replaced (key_of c.args.key.now) c.args.text.now p.rest.now p.start.now p.new.items
    (option_map section_of p.section) p.several p.in_line (rw c.in-None.is at p.invariant)
    (is_none_left p.rest.now c.if-not-is_empty.ensures)

pub returns : goal.returns
returns c =
    let p = c.pieces in
    let found = rw c.in-Some-found.is at p.invariant in
    let (put, pushed, set) = c.in_ok-push_changed.ensures in
    let whole : c.extend_from_slice.new.self.items ≡ p.new.items ++ (put ++ p.start.now) =
    simp (c.in_ok-extend_from_slice.ensures.items, pushed, append_assoc) in
    rw whole (one_replaced {f = c.in-Some-found.last} found
    (is_none_left p.rest.now c.if-not-is_empty.ensures) set)
