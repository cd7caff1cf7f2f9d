-- Texts without the entries of a key.
use Rattle.std.proofs.Common.{◌≡◌, ◌≢◌, ℕ, ◌<◌, Bool, true, false, not, ◌||◌, List, [], ◌∷◌, ◌++◌, Option}
use Rattle.std.proofs.Common.{Some, None, length, refl, sym, ap, ◌∙◌, append_assoc, append-nil, inl}
use Rattle.std.proofs.Common.{inr, ◌⊎◌, ◌+◌, true≢false, length-append}
use Rattle.std.proofs.lemmas.Bool.{or_parts}
use Rattle.config_edit.specs.declared.removal.Count.{Count}
use Rattle.config_edit.specs.declared.removal.Count.TheVariants as count
use Rattle.config_edit.specs.declared.removal.Group.{Group}
use Rattle.config_edit.specs.declared.removal.Taken.{Taken}
use Rattle.config_file.specs.declared.entry.EntryParts.{EntryParts}
use Rattle.config_edit.specs.declared.piece.Held.{Held}
use Rattle.config_edit.specs.declared.piece.Held.TheVariants as held
use Rattle.config_edit.specs.declared.piece.Piece.{Piece}
use Rattle.config_file.specs.declared.section.Section as code
use Rattle.config_file.specs.Header.{Section}
use Rattle.config_file.specs.Key.{Key}
use Rattle.config_edit.specs.Edit as spec
use Rattle.config_edit.specs.Edit.{Content, IsIn, IsOf, IsPlaceOf, Without, HasNone, HasSeveral, LosesOne}
use Rattle.config_edit.specs.Edit.{IsEndOfLine}
use Rattle.config_edit.specs.Cut.{IsSplit}
use Rattle.config_edit.specs.Edit.{HasContents}
use Rattle.config_edit.specs.Unset.{LeavesEnd, IsTakenOut}
use Rattle.config_edit.specs.Reading as edit
use Rattle.config_edit.specs.Reading.{Ends, Passed, anywhere, IsRead, IsHeaderAt}
use Rattle.config_edit.specs.Reading.{IsPiece, contents_in, section_after, IsPast, IsEntryHeld}
use Rattle.config_edit.specs.Reading.{content_of, Counted, one_more, IsGroup, Losing, TakesParts}
use Rattle.config_edit.specs.Reading.{IsBegun, IsFinished, IsPushed, IsTaken, is_blank_held}
use Rattle.config_edit.specs.Reading.{IsEnd}
use Rattle.config_edit.proofs.OnePart.{left_is_end}
use Rattle.config_file.specs.Views.{section_of, value_of}
use Rattle.config_edit.proofs.Pieces.{header_holds, made_passed}
use Rattle.config_edit.proofs.Edits.{holds_nothing, holds_join, passed_holds, passed_join, passed_ends}
use Rattle.config_edit.proofs.Edits.{all_passed, some_left, file_of}
use Rattle.config_edit.proofs.TakenOut.{taken_ends}
use Rattle.config_edit.proofs.Replaced.{holds_then, past_begins, past_more, end_holds}

-- how many entries have been lost
count_more : (key : Key) (n : Count) (places : Option (List ℕ)) (old new : List Content) (x : Content)
    → Counted key places old new n → IsOf key x → Counted key places (old ++ x ∷ []) new (one_more n)
count_more key count.None None old new x (nothing, same) is =
    record {
      before = old;
      x = x;
      after = [];
      old_is = refl;
      is_of = is;
      none_before = nothing;
      none_after = spec.none;
      new_is = same ∙ sym (append-nil old);
    }
count_more key count.One None old new x one is =
    let whole = ap (λ c. c ++ x ∷ []) one.old_is ∙ append_assoc one.before (one.x ∷ one.after) (x ∷ []) in
    (one.before, one.after, [], one.x, x, whole, one.is_of, is)
count_more key count.Several None old new x (before, between, after, a, b, e, is_a, is_b) is =
    (before, between, after ++ x ∷ [], a, b, rw e (simp append_assoc), is_a, is_b)
count_more key n places old new x counted is = tt

-- what a piece has is no entry of the key at one of the places
abbrev Stays : Key → Option (List ℕ) → Option Section → Held → List Content → Type 0
Stays key places section h old = ¬ (IsEntryHeld key section h × IsPlaceOf places (length old))

without_kept : {key : Key} {places : Option (List ℕ)} {old new : List Content} (h : Held)
    (section : Option Section)
    → Without key places old new → Stays key places section h old
    → Without key places (old ++ contents_in h section) (new ++ contents_in h section)
without_kept (held.Entry parts) section w stays = spec.kept (content_of section parts) w stays
without_kept h section w stays = simp append-nil w

count_kept : (key : Key) (n : Count) (places : Option (List ℕ)) (old new : List Content) (h : Held)
    (section : Option Section)
    → Counted key places old new n → Stays key places section h old
    → Counted key places (old ++ contents_in h section) (new ++ contents_in h section) n
count_kept key count.None places old new h section (nothing, same) stays =
    (without_kept h section nothing stays, ap (λ c. c ++ contents_in h section) same)
count_kept key count.One None old new h section one stays =
    let more = contents_in h section in
    record {
      before = one.before;
      x = one.x;
      after = one.after ++ more;
      old_is = ap (λ c. c ++ more) one.old_is ∙ append_assoc one.before (one.x ∷ one.after) more;
      is_of = one.is_of;
      none_before = one.none_before;
      none_after = without_kept h section one.none_after stays;
      new_is = ap (λ c. c ++ more) one.new_is ∙ append_assoc one.before one.after more;
    }
count_kept key count.Several None old new h section (before, between, after, a, b, e, is_a, is_b) stays =
    (before, between, after ++ contents_in h section, a, b, rw e (simp append_assoc), is_a, is_b)
count_kept key n (Some places) old new h section counted stays = tt

-- before the first header
pub losing_begins : (key : Key) (places : Option (List ℕ)) (text : List ℕ) (g : Group) → g.head.items ≡ []
    → g.body.items ≡ []
    → g.line_end.now ≡ [] → g.in_head ≡ false → g.is_kept ≡ true
    → Losing key places text text [] None g count.None 0
losing_begins key places text g head_is body_is end_is in_head is_kept =
    record {
      front = [];
      old = [];
      now = [];
      now_group = [];
      base = None;
      past = past_begins text;
      index_is = refl;
      new_is = holds_nothing None;
      group = record {
        passed = rw (head_is, body_is) (anywhere (holds_nothing None));
        alone = λ is. absurd (true≢false (sym is ∙ in_head));
        is_end = inl end_is;
        empty = λ is. absurd (true≢false (sym is_kept ∙ is));
      };
      without = spec.none;
      counted = (spec.none, refl);
    }

-- a section that is finished
finished : {key : Key} {places : Option (List ℕ)} {text rest new put : List ℕ} {section : Option Section}
    {g : Group} {n : Count}
    {index : ℕ} (r : Losing key places text rest new section g n index) → IsFinished g put
    → (next : Option Section) × Passed r.base put r.now_group next rest
finished {section = section} r (edit.whole either) = (section, r.group.passed)
finished {g = g} r (edit.without_head not_kept has_lost) =
    let (nothing, empty) = r.group.empty not_kept in
    let ended = end_holds r.base g.line_end.now r.group.is_end in
    (r.base, rw nothing (holds_then g.line_end.now g.body.items ended (empty r.base)))

-- the section after what is left of a piece
grouped : {g now : Group} {piece : Piece} {now_before more : List Content} {put rest left : List ℕ}
    {base section : Option Section}
    → IsGroup g now_before base section rest → rest ≢ [] → IsPushed g now piece put
    → Passed section put more section left
    → (now.is_kept ≡ false → (g.is_kept ≡ false) × (more ≡ [])
    × ((any : Option Section) → Passed any put [] any left))
    → IsGroup now (now_before ++ more) base section left
grouped {g = g} {now = now} {piece = piece} group some
    (edit.to_head on off line head_now body_now end_now) also empty =
    let none = group.alone on in
    let passed = passed_join some group.passed also in
    record {
      passed = simp (head_now, body_now, none, append-nil) (simp (none, append-nil) at passed);
      alone = λ still. absurd (true≢false (sym still ∙ off));
      is_end = left_is_end g.in_line piece.bytes.now now.line_end.now piece.is_line end_now;
      empty = λ not_kept.
          let (was, no_more, any_put) = empty not_kept in
          (rw ((group.empty was).0, no_more) refl, λ any. rw (body_now, none) (anywhere (holds_nothing any)));
    }
grouped {g = g} group some (edit.to_body on off line head_now body_now end_now) also empty =
    let passed = passed_join some group.passed also in
    record {
      passed = rw (head_now, body_now) (rw append_assoc at passed);
      alone = λ still. absurd (true≢false (sym still ∙ off));
      is_end = rw end_now group.is_end;
      empty = λ not_kept.
          let (was, no_more, any_put) = empty not_kept in
          let (none, any_body) = group.empty was in
          (rw (none, no_more) refl, λ any. rw body_now (passed_join some (any_body any) (any_put any)));
    }

-- a piece that stays
blank_is_nothing : (h : Held) → not (is_blank_held h) ≡ false → h ≡ held.Nothing
blank_is_nothing held.Nothing blank = refl
blank_is_nothing h blank = absurd (true≢false blank)

-- one piece more
module _ {key : Key} {places : Option (List ℕ)} {text rest new : List ℕ} {section : Option Section}
    {g : Group} {n : Count} {index : ℕ}
    (r : Losing key places text rest new section g n index) {piece : Piece} (is : IsPiece rest piece)
    (shorter : length piece.rest.now < length rest) where
  pub losing_header : {put : List ℕ} {is_below : Bool} (now : Group) (header : code.Section)
      → piece.held ≡ held.Header header
      → IsFinished g put → IsBegun g now piece is_below
      → Losing key places text piece.rest.now (new ++ put) (Some (section_of header)) now n index
  losing_header {put = put} now header e done b =
      let some = some_left rest piece.rest.now shorter in
      let bytes = piece.bytes.now in
      let (next, passed) = finished r done in
      let at : IsHeaderAt (section_of header) piece.blanks.now bytes = rw e at is.made in
      record {
        front = r.front ++ bytes;
        old = r.old;
        now = r.now ++ r.now_group;
        now_group = [];
        base = next;
        past = simp (e, append-nil) at (past_more piece r.past is shorter);
        index_is = r.index_is;
        new_is = holds_join new put r.new_is (passed_holds some passed);
        group = record {
          passed = rw (b.head, b.body, append-nil bytes) (anywhere (header_holds is.blank at next));
          alone = λ on. b.body;
          is_end = inl b.line_end;
          empty = λ not_kept. (refl, λ any. rw b.body (anywhere (holds_nothing any)));
        };
        without = rw (append-nil (r.now ++ r.now_group)) r.without;
        counted = rw (append-nil (r.now ++ r.now_group)) r.counted;
      }

  losing_more : {put : List ℕ} {now : Group} {m : Count} {next : ℕ} (more : List Content)
      → next ≡ index + length (contents_in piece.held section) → section_after piece.held section ≡ section
      → IsPushed g now piece put → Passed section put more section piece.rest.now
      → (now.is_kept ≡ false → (g.is_kept ≡ false) × (more ≡ [])
      × ((any : Option Section) → Passed any put [] any piece.rest.now))
      → Without key places (r.old ++ contents_in piece.held section) ((r.now ++ r.now_group) ++ more)
      → Counted key places (r.old ++ contents_in piece.held section) ((r.now ++ r.now_group) ++ more) m
      → Losing key places text piece.rest.now new section now m next
  losing_more more next_is same pushed also empty without counted =
      let held = contents_in piece.held section in
      record {
        front = r.front ++ piece.bytes.now;
        old = r.old ++ held;
        now = r.now;
        now_group = r.now_group ++ more;
        base = r.base;
        past = rw same at (past_more piece r.past is shorter);
        index_is = next_is ∙ ap (λ i. i + length held) r.index_is ∙ sym (length-append r.old held);
        new_is = r.new_is;
        group = grouped r.group (some_left rest piece.rest.now shorter) pushed also empty;
        without = rw (append_assoc r.now r.now_group more) at without;
        counted = rw (append_assoc r.now r.now_group more) at counted;
      }

  pub losing_keeps : {next : ℕ} (now : Group) → ¬ (IsEntryHeld key section piece.held × IsPlaceOf places index)
      → next ≡ index + length (contents_in piece.held section)
      → section_after piece.held section ≡ section → IsPushed g now piece piece.bytes.now
      → now.is_kept ≡ (g.is_kept || not (is_blank_held piece.held))
      → Losing key places text piece.rest.now new section now n next
  losing_keeps now other next_is same pushed kept_is =
      let stays : Stays key places section piece.held r.old = rw r.index_is at other in
      let passed = λ (s : Option Section). made_passed piece.held piece.blanks.now piece.is_line is.blank is.made s in
      losing_more (contents_in piece.held section) next_is same pushed (rw same at (passed section))
      (λ not_kept.
      let (was, solid) = or_parts g.is_kept (not (is_blank_held piece.held)) (sym kept_is ∙ not_kept) in
      let nothing = blank_is_nothing piece.held solid in
      (was, rw nothing refl, λ any. rw nothing at (passed any)))
      (without_kept piece.held section r.without stays)
      (count_kept key n places r.old (r.now ++ r.now_group) piece.held section r.counted stays)

  pub losing_loses : (now : Group) (parts : EntryParts) (put : List ℕ) → piece.held ≡ held.Entry parts
      → IsOf key (content_of section parts) → IsPlaceOf places index
      → IsEnd put → IsPushed g now piece put → now.is_kept ≡ g.is_kept
      → Losing key places text piece.rest.now new section now (one_more n) (index + 1)
  losing_loses now parts put e is_of is_at is_end pushed kept_is =
      let x : Content = content_of section parts in
      let here_is : IsPlaceOf places (length r.old) = rw r.index_is at is_at in
      losing_more []
      (sym (ap (λ h. index + length (contents_in h section)) e))
      (ap (λ h. section_after h section) e) pushed (anywhere (end_holds section put is_end))
      (λ not_kept. (sym kept_is ∙ not_kept, refl, λ any. anywhere (end_holds any put is_end)))
      (rw (e, append-nil (r.now ++ r.now_group)) (spec.lost x r.without is_of here_is))
      (rw (e, append-nil (r.now ++ r.now_group))
      (count_more key n places r.old (r.now ++ r.now_group) x r.counted is_of))

-- at the end of the text
pub losing_ends : {key : Key} {places : Option (List ℕ)} {text rest new put : List ℕ} {contents : List Content}
    {section : Option Section} {g : Group} {index : ℕ} {is_below : Bool} (taken : Taken)
    → Losing key places text rest new section g taken.count index
    → TakesParts key places text rest new section g index is_below
    → Ends None text contents → (rest ≡ []) ⊎ (¬ (IsRead rest)) → IsFinished g put
    → taken.text.items ≡ new ++ put
    → IsTaken key places text contents taken
losing_ends {new = new} {put = put} taken r p whole left done text_now =
    let (rest_is, text_is, contents_are) = all_passed r.past.joined r.past.passed whole left in
    let (next, passed) = finished r done in
    let (cuts, takes) = taken_ends p rest_is done in
    record {
      now = r.now ++ r.now_group;
      parts = p.parts;
      ends = rw text_now (passed_ends rest_is (holds_then new put r.new_is passed));
      without = rw contents_are at r.without;
      counted = rw contents_are at r.counted;
      cuts = cuts;
      takes = rw text_now takes;
    }

-- what is no entry
pub nothing_in : {h : Held} (section : Option Section) → (h ≡ held.Nothing) ⊎ (h ≡ held.Comment)
    → contents_in h section ≡ []
nothing_in section (inl e) = rw e refl
nothing_in section (inr e) = rw e refl

-- a text with its mark, out of whose body entries are taken
pub taken_made : {P : List Content
    → Type 0} {key : Key} {places : Option (List ℕ)} {text mark body edited : List ℕ}
    {contents : List Content} {taken : Taken}
    → IsSplit text mark body → Ends None body contents → (t : IsTaken key places body contents taken) → P t.now
    → edited ≡ mark ++ taken.text.items
    → (now : List Content) × HasContents edited now × P now × IsTakenOut key places text edited
taken_made {mark = mark} {body = body} {taken = taken} split ends t holds e = (
  t.now,
  rw e (file_of split t.ends),
  holds,
  (mark, t.parts, taken.text.items, (body, split, t.cuts), t.takes, e),
)
