use Rattle.std.proofs.Common.{◌≡◌, ◌++◌, ◌∙◌, ap, sym, refl}
use Rattle.std.proofs.Common.{option_copied, option_map, true≢false, length, ◌+◌, arith}
use Rattle.config_edit.specs.declared.removal.Taken.{Taken}
use Rattle.config_file.specs.KeyView.{key_of}
use Rattle.config_file.specs.Views.{section_of}
use Rattle.config_edit.specs.Edit.{IsPlaceOf}
use Rattle.config_edit.specs.Reading.{IsEntryHeld, contents_in, one_more, section_after}
use Rattle.config_edit.proofs.Replaced.{no_entry_held, no_header_after}
use Rattle.config_edit.proofs.Removed.{losing_begins, losing_header, losing_keeps, losing_loses, losing_ends}
use Rattle.config_edit.proofs.Removed.{nothing_in}
use Rattle.config_edit.proofs.OnePart.{left_is_end}
use Rattle.config_edit.proofs.TakenOut.{taken_begins, taken_header, taken_keeps, taken_loses, nothing_header}
use Rattle.config_edit.proofs.AtPlaces.{all_left, left_after}
use Rattle.config_edit.proofs.removal.without.Goals as goal
use Rattle.config_edit.proofs.removal.without.Goals.{in-Header+in_ok-finish-in-Header+in_ok-begin-in-Header}
use Rattle.config_edit.proofs.removal.without.Goals.{in-Entry+then-is_place+then-is_of+in_ok-lose-in-Entry}
use Rattle.config_edit.proofs.removal.without.Goals.{in-Entry+else-is_place+in_ok-keep-in-Entry}
use Rattle.config_edit.proofs.removal.without.Goals.{else-is_place-via-then-is_place+else-is_of}
use Rattle.config_edit.proofs.removal.without.Goals.{else-is_place-via-else-is_place}
use Rattle.config_edit.proofs.removal.without.Goals.{in-Nothing+in_ok-keep-in-Nothing}

pub pieces-init : goal.pieces-init
pieces-init c =
    let g = c.new-group in
    let places = option_copied c.args.places in
    let begins = losing_begins (key_of c.args.key.now) places c.args.text.now g.result g.ensures.head
    g.ensures.body g.ensures.line_end g.ensures.in_head g.ensures.is_kept in
    let parts = taken_begins (key_of c.args.key.now) places c.args.text.now g.result g.ensures.head
    g.ensures.body g.ensures.in_head g.ensures.is_kept in
    (rw c.in_ok-new.ensures.items begins, rw c.in_ok-new.ensures.items parts, all_left places 0, omega arith)

pub pieces-preserved : goal.pieces-preserved
pieces-preserved c =
    let key = key_of c.args.key.now in
    let places = option_copied c.args.places in
    let p = c.pieces in
    let piece = c.in-Some.piece in
    let section = option_map section_of p.section in
    let is = c.in-Some.ensures.piece in
    let shorter = c.in-Some.ensures.shorter in
    let (losing, taken, left, room) = p.invariant in
    let below = c.is_below_comment-below_comment.ensures in
    let m = c.match-piece in
    elim c.match-piece.branch [
      | in-Header+in_ok-finish-in-Header+in_ok-begin-in-Header w ↦
          let (put, pushed, done) = w.in_ok-finish-in-Header.ensures in
          let begun = w.in_ok-begin-in-Header.ensures in
          let none : p.index ≡ p.index + length (contents_in piece.held section) = rw w.in-Header.is (omega arith) in
          let new_is : m.new.items ≡ p.new.items ++ put = ap (λ n. n.items) w.new-is ∙ pushed in
          rw (new_is, w.group-is, w.count-is, w.left-is, w.index-is, w.section-is) (
            losing_header losing is shorter w.begin.new.self w.in-Header.header w.in-Header.is done begun,
            rw w.in-Header.is at (taken_header taken is shorter (rw w.in-Header.is refl) done begun below none),
            left,
            omega arith,
          )
      | in-Entry+then-is_place+then-is_of+in_ok-lose-in-Entry w ↦
          let (end, leaves, pushed, lost, kept) = w.in_ok-lose-in-Entry.ensures in
          let at = (left p.index (omega arith)).1 (w.at_place-is_place.ensures.here.0 w.if-is_place.true) in
          let of = (w.is_of.ensures losing.past.listable).0 w.if-is_of.true in
          let one : p.index + 1 ≡ p.index + length (contents_in piece.held section) = rw w.in-Entry.is in
          let count_is : m.count ≡ one_more p.count = w.count-is ∙ w.more-count.ensures in
          rw (w.new-is, w.group-is, count_is, w.left-is, w.index-is, w.section-is) (
            losing_loses losing is shorter w.lose.new.self w.in-Entry.parts end w.in-Entry.is of at
                (left_is_end p.group.in_head piece.bytes.now end piece.is_line leaves) pushed kept,
            rw w.in-Entry.is at (taken_loses taken is shorter {next = p.index + 1} (rw w.in-Entry.is refl)
                (rw w.in-Entry.is (of, at)) leaves pushed one below lost kept),
            left_after places (option_copied p.left)
                (option_copied w.at_place-is_place.result.1) p.index left w.at_place-is_place.ensures.left,
            omega arith,
          )
      | in-Entry+else-is_place+in_ok-keep-in-Entry w ↦
          let (pushed, lost, kept) = w.in_ok-keep-in-Entry.ensures in
          let other : ¬ (IsEntryHeld key section piece.held × IsPlaceOf places p.index) = λ (held, at).
          elim w.else-is_place.branch [
            | else-is_place-via-then-is_place+else-is_of w' ↦ true≢false
                (sym ((w'.is_of.ensures losing.past.listable).1 (rw w.in-Entry.is at held))
                ∙ w'.if-is_of.false)
            | else-is_place-via-else-is_place w' ↦ true≢false
                (sym (w.at_place-is_place.ensures.here.1 ((left p.index (omega arith)).0 at))
                ∙ w'.if-is_place.false)
          ] in
          let one : p.index + 1 ≡ p.index + length (contents_in piece.held section) = rw w.in-Entry.is in
          let same = ap (λ h. section_after h section) w.in-Entry.is in
          rw (w.new-is, w.group-is, w.count-is, w.left-is, w.index-is, w.section-is) (
            losing_keeps losing is shorter w.keep.new.self other one same pushed kept,
            rw same at (taken_keeps taken is shorter (rw w.in-Entry.is refl) other pushed one below lost kept),
            left_after places (option_copied p.left)
                (option_copied w.at_place-is_place.result.1) p.index left w.at_place-is_place.ensures.left,
            omega arith,
          )
      | in-Nothing+in_ok-keep-in-Nothing w ↦
          let (pushed, lost, kept) = w.in_ok-keep-in-Nothing.ensures in
          let one : p.index ≡ p.index + length (contents_in piece.held section) =
          rw (nothing_in section w.in-Nothing.is) (omega arith) in
          let other = λ (entry : IsEntryHeld key section piece.held × IsPlaceOf places p.index).
          no_entry_held key section piece.held w.in-Nothing.is entry.0 in
          let same = no_header_after piece.held section w.in-Nothing.is in
          rw (w.new-is, w.group-is, w.count-is, w.left-is, w.index-is, w.section-is) (
            losing_keeps losing is shorter w.keep-in-Nothing.new.self other one same pushed kept,
            rw same at (taken_keeps taken is shorter
                (nothing_header w.in-Nothing.is) other pushed one below lost kept),
            left,
            omega arith,
          )
    ]

pub returns : goal.returns
returns c = λ contents ends.
    let (put, pushed, done) = c.in_ok-finish.ensures in
    let taken : Taken = record { text = c.finish-2.new.new; count = c.pieces.count } in
    losing_ends taken c.pieces.invariant.0 c.pieces.invariant.1 ends c.in_default.ensures.piece done pushed
