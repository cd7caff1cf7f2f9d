-- Pieces of a text.
use Rattle.std.proofs.Common.{◌≡◌, ◌≢◌, ℕ, ◌+◌, Bool, true, false, List, [], ◌∷◌, ◌++◌, Option, Some, None}
use Rattle.std.proofs.Common.{refl, sym, ap, ◌∙◌, subst, append_assoc, append-nil, arith, inl, inr, ◌⊎◌}
use Rattle.std.proofs.Common.{true≢false}
use Rattle.std.proofs.Common.{◌<◌, length, take, drop, get_or}
use Rattle.std.proofs.lemmas.List.{append_cancel_right, length-drop, drop_more, get_or-drop, take-append-drop}
use Rattle.std.proofs.lemmas.List.Sums.{list_all-from_AllPass}
use Rattle.std.specs.List.{list_all, HoldsAt, AllWithin}
use Rattle.std.proofs.lemmas.Bool.Decides.{nat_tests}
use Rattle.config_file.specs.declared.errors.FileError.{FileError}
use Rattle.config_edit.specs.declared.piece.Held.{Held}
use Rattle.config_edit.specs.declared.piece.Held.TheVariants as held
use Rattle.config_file.specs.Bytes.{is_space, is_key_byte, is_name_byte, is_blank, is_comment_sign}
use Rattle.config_file.specs.Bytes.{is_comment_byte, IsAtLineEnd, BeginsWithLetter}
use Rattle.config_file.specs.Runs.{Run, StopsRun}
use Rattle.config_file.specs.declared.errors.Why.{Why}
use Rattle.config_file.specs.Header.{Section, Header, HeaderStops, plain, quoted, closes, why_at}
use Rattle.config_file.specs.Value.{TakesValue, closed, open_end, EndsValue}
use Rattle.config_file.specs.File as file
use Rattle.config_file.specs.File.{Entry, entry_at, TakesKey, TakesEntry, EntryStops, alone, valued, Reads}
use Rattle.config_edit.specs.Reached.{Leads}
use Rattle.config_edit.specs.Reached as reached
use Rattle.config_edit.specs.Reading.{Holds, Ends, Passed, anywhere, at_end, IsHeaderAt, IsMade, IsRead}
use Rattle.config_edit.specs.Reading.{GoesOn, StartsLine, contents_in, section_after}
use Rattle.config_edit.specs.Edit.{IsEndOfLine, IsLastLineEnd}
use Rattle.config_edit.specs.Cut.{AreBlank, HasComment, IsComment, absent, present, IsTail}
use Rattle.config_edit.specs.Reading.{IsEntry}
use Rattle.config_file.proofs.LineEnds.{not_none}
use Rattle.config_file.proofs.OneReading.{reads_once}
use Rattle.config_file.proofs.OneRun.{run_same, run_only}
use Rattle.config_file.proofs.Readings.{at_entry, begins_none}

-- the reading goes on where the bytes before lead
pub compose : {section next : Option Section} {line end : ℕ} {text rest : List ℕ} {entries later : List Entry}
    {error : Option FileError}
    → Leads section line text entries next end rest → Reads next end rest later error
    → Reads section line text (entries ++ later) error
compose reached.here h = h
compose (reached.blank is leads) h = file.blank is (compose leads h)
compose (reached.line_end is leads) h = file.line_end is (compose leads h)
compose (reached.comment is run leads) h = file.comment is run (compose leads h)
compose (reached.header is header leads) h = file.header is header (compose leads h)
compose (reached.entry letter takes leads) h = file.entry letter takes (compose leads h)

-- two readings, one after the other
pub onward : {section middle next : Option Section} {line half end : ℕ} {text at rest : List ℕ}
    {entries later : List Entry}
    → Leads section line text entries middle half at → Leads middle half at later next end rest
    → Leads section line text (entries ++ later) next end rest
onward reached.here h = h
onward (reached.blank is leads) h = reached.blank is (onward leads h)
onward (reached.line_end is leads) h = reached.line_end is (onward leads h)
onward (reached.comment is run leads) h = reached.comment is run (onward leads h)
onward (reached.header is header leads) h = reached.header is header (onward leads h)
onward (reached.entry letter takes leads) h = reached.entry letter takes (onward leads h)

-- the second text can stand for the first after an item: it looks the same to whatever ends before it
pub record Follows (rest other : List ℕ) : Type 0 where
  stops : (test : ℕ → Bool) → test 10 ≡ false → StopsRun test rest → StopsRun test other
  ends_value : EndsValue rest → EndsValue other
  line_end : IsAtLineEnd rest → IsAtLineEnd other

feed_at : (b : ℕ) (rest : List ℕ) → b ≢ 13 → IsAtLineEnd (b ∷ rest) → b ≡ 10
feed_at b [] no_return h = h
feed_at b (c ∷ rest) no_return (inl is) = is
feed_at b (c ∷ rest) no_return (inr p) = absurd (no_return p.0)

at_feed : (b : ℕ) (rest : List ℕ) → b ≡ 10 → IsAtLineEnd (b ∷ rest)
at_feed b [] is = is
at_feed b (c ∷ rest) is = inl is

line_end_before : (x : ℕ) (front : List ℕ) (b : ℕ) (rest other : List ℕ)
    → IsAtLineEnd (x ∷ (front ++ b ∷ rest)) → IsAtLineEnd (x ∷ (front ++ b ∷ other))
line_end_before x [] b rest other h = h
line_end_before x (y ∷ front) b rest other h = h

follows : (front : List ℕ) (b : ℕ) (rest other : List ℕ) → b ≢ 13
    → Follows (front ++ b ∷ rest) (front ++ b ∷ other)
follows [] b rest other no_return =
    record {
      stops = λ test none s. s;
      ends_value = λ e. e;
      line_end = λ h.
          at_feed b other (feed_at b rest no_return h);
    }
follows (x ∷ front) b rest other no_return =
    record { stops = λ test none s. s; ends_value = λ e. e; line_end = line_end_before x front b rest other }

stops_moved : (test : ℕ → Bool) (front rest other : List ℕ) → Follows rest other → test 10 ≡ false
    → StopsRun test (front ++ rest) → StopsRun test (front ++ other)
stops_moved test [] rest other f none h = f.stops test none h
stops_moved test (x ∷ front) rest other f none h = h

-- a header is the same before any rest
pub header_moved : {text rest : List ℕ} {section : Section} → Header text section rest
    → (front : List ℕ) × (text ≡ front ++ rest) × ((other : List ℕ) → Header (front ++ other) section other)
header_moved (plain {b = b} {name = name} run some e) = (
  name ++ b ∷ [],
  run.joined ∙ simp append_assoc,
  λ other. rw append_assoc (plain (record { joined = refl; pass = run.pass; longest = run.longest }) some e),
)
header_moved (quoted {name = name} {inner = inner} opens (closes {b = b} {raw = raw} takes e)) =
    let no_return : opens.quote ≢ 13 = omega (arith, opens.is_quote) in (
      name ++ (opens.blanks ++ opens.quote ∷ (raw ++ 34 ∷ b ∷ [])),
      opens.name_run.joined ∙ rw (opens.blank_run.joined, takes.joined) (simp append_assoc),
      λ other.
          let after = raw ++ 34 ∷ b ∷ other in
          simp append_assoc (quoted
          (record {
            blanks = opens.blanks;
            blanked = opens.blanks ++ opens.quote ∷ after;
            quote = opens.quote;
            name_run = record {
              joined = refl;
              pass = opens.name_run.pass;
              longest =
                  (follows opens.blanks opens.quote inner after no_return).stops is_name_byte refl
                  (rw opens.blank_run.joined at opens.name_run.longest);
            };
            blank_run = record { joined = refl; pass = opens.blank_run.pass; longest = opens.blank_run.longest };
            some_blank = opens.some_blank;
            is_quote = opens.is_quote;
          })
          (closes (record { is_subsection = takes.is_subsection; joined = refl }) e)),
    )

-- keys, values and entries are the same before a text that can stand for their rest
key_moved : {text key : List ℕ} (rest other : List ℕ) → Follows rest other → (takes : TakesKey text key rest)
    → TakesKey ((key ++ takes.spaces) ++ other) key other
key_moved {key = key} rest other f takes =
    let longest =
    stops_moved is_key_byte takes.spaces rest other f refl
    (rw takes.space_run.joined at takes.key_run.longest) in
    record {
      spaced = takes.spaces ++ other;
      spaces = takes.spaces;
      key_run = record { joined = append_assoc key takes.spaces other; pass = takes.key_run.pass; longest = longest };
      space_run = record { joined = refl; pass = takes.space_run.pass; longest = f.stops is_space refl takes.space_run.longest };
    }

pub key_joined : {text key : List ℕ} (rest : List ℕ) → (takes : TakesKey text key rest)
    → text ≡ (key ++ takes.spaces) ++ rest
key_joined {key = key} rest takes =
    takes.key_run.joined ∙ rw takes.space_run.joined (sym (append_assoc key takes.spaces rest))

pub key_before_value : {text key after : List ℕ} {b : ℕ} → TakesKey text key (b ∷ after) → b ≡ 61
    → (front : List ℕ) × (text ≡ front ++ 61 ∷ after)
    × ((other : List ℕ) → TakesKey (front ++ 61 ∷ other) key (61 ∷ other))
key_before_value {key = key} {after = after} {b = b} takes is =
    let front = key ++ takes.spaces in
    let no_return : b ≢ 13 = omega arith in (
      front,
      key_joined (b ∷ after) takes ∙ ap (λ c. front ++ c ∷ after) is,
      λ other. rw is at (key_moved (b ∷ after) (b ∷ other) (follows [] b after other no_return) takes),
    )

-- an entry is bytes before a rest, and the same bytes are it before any text that can stand for that rest
entry_moved : {text key rest : List ℕ} {value : Option (List ℕ)} {lines : ℕ}
    → TakesEntry text key value lines rest
    → (front : List ℕ) × (text ≡ front ++ rest)
    × ((other : List ℕ) → Follows rest other → rest ≢ [] → TakesEntry (front ++ other) key value lines other)
entry_moved (alone {key = key} {rest = rest} takes end) = (
  key ++ takes.spaces,
  key_joined rest takes,
  λ other f some. alone (key_moved rest other f takes) (f.line_end end),
)
entry_moved (valued {b = b} {key = key} {after = after} takes is
    (closed {raw = raw} {rest = rest} joined spells ends)) =
    let front = key ++ takes.spaces in
    let no_return : b ≢ 13 = omega arith in (
      front ++ b ∷ raw,
      key_joined (b ∷ after) takes ∙ ap (λ t. front ++ b ∷ t) joined ∙ sym (append_assoc front (b ∷ raw) rest),
      λ other f some.
          let moves = follows [] b after (raw ++ other) no_return in
          let key_now = key_moved (b ∷ after) (b ∷ (raw ++ other)) moves takes in
          rw (append_assoc front (b ∷ raw) other) (valued key_now is (closed refl spells (f.ends_value ends))),
    )
entry_moved (valued {b = b} {key = key} {after = after} takes is (open_end spells)) = (
  (key ++ takes.spaces) ++ b ∷ after,
  key_joined (b ∷ after) takes ∙ sym (append-nil ((key ++ takes.spaces) ++ b ∷ after)),
  λ other f some. absurd (some refl),
)

-- the same letter begins a text before any other rest
pub letter_before : (front : List ℕ) (b : ℕ) (after other : List ℕ) → BeginsWithLetter (front ++ b ∷ after)
    → BeginsWithLetter (front ++ b ∷ other)
letter_before [] b after other (c, more, e, letter) =
    let same : b ≡ c = cc in (b, other, refl, rw same letter)
letter_before (x ∷ front) b after other (c, more, e, letter) =
    let same : x ≡ c = cc in (x, front ++ b ∷ other, refl, rw same letter)

-- blanks before a text change nothing
pub first_blank : (b : ℕ) (blanks : List ℕ) → AreBlank (b ∷ blanks) → is_blank b ≡ true
first_blank b blanks all = grind (arith, nat_tests)

pub other_blanks : (b : ℕ) (blanks : List ℕ) → AreBlank (b ∷ blanks) → AreBlank blanks
other_blanks b blanks all = grind (arith, nat_tests)

pub blanks_lead : {section next : Option Section} {line end : ℕ} {text rest : List ℕ} {entries : List Entry}
    (blanks : List ℕ)
    → AreBlank blanks
    → Leads section line text entries next end rest
    → Leads section line (blanks ++ text) entries next end rest
blanks_lead [] all leads = leads
blanks_lead (b ∷ blanks) all leads =
    reached.blank (first_blank b blanks all) (blanks_lead blanks (other_blanks b blanks all) leads)

pub blanks_read : {section : Option Section} {line : ℕ} {text : List ℕ} {entries : List Entry}
    {error : Option FileError} (blanks : List ℕ)
    → AreBlank blanks
    → Reads section line text entries error → Reads section line (blanks ++ text) entries error
blanks_read blanks all reads = compose (blanks_lead blanks all reached.here) reads

-- what is left of a line leads over its line end, or ends the text
comment_leads : {comment : List ℕ} → IsComment comment
    → (section : Option Section) (line : ℕ) (other : List ℕ)
    → Leads section line (comment ++ 10 ∷ other) [] section (line + 1) other
comment_leads absent section line other = reached.line_end refl reached.here
comment_leads (present is all) section line other =
    reached.comment is (record { joined = refl; pass = all; longest = refl })
    (reached.line_end refl reached.here)

comment_ends : {comment : List ℕ} → IsComment comment → (section : Option Section) (line : ℕ)
    → Reads section line comment [] None
comment_ends absent section line = file.ends
comment_ends (present {bytes = bytes} is all) section line =
    file.comment is (record { joined = sym (append-nil bytes); pass = all; longest = tt }) file.ends

pub tail_leads : {tail rest : List ℕ} {is_line : Bool} → is_line ≡ true → IsTail tail rest is_line
    → (section : Option Section) (line : ℕ) (other : List ℕ)
    → Leads section line (tail ++ other) [] section (line + 1) other
tail_leads {tail = tail} is t section line other =
    elim t.ends [
      | inl line_is ↦ rw line_is.1
          (simp append_assoc (blanks_lead t.blanks t.are_blank (comment_leads t.is_comment section line other)))
      | inr end_is ↦ absurd (true≢false (sym is ∙ end_is.0))
    ]

pub tail_ends : {tail rest : List ℕ} {is_line : Bool} → is_line ≡ false → IsTail tail rest is_line
    → (section : Option Section) (line : ℕ)
    → (rest ≡ []) × Reads section line tail [] None
tail_ends {tail = tail} is t section line =
    elim t.ends [
      | inl line_is ↦ absurd (true≢false (sym line_is.0 ∙ is))
      | inr end_is ↦
          (end_is.1, rw end_is.2 (blanks_read t.blanks t.are_blank (comment_ends t.is_comment section line)))
    ]

pub line_holds : {tail rest : List ℕ} → IsTail tail rest true → (section : Option Section)
    → Holds section tail [] section
line_holds t section = λ line other. (line + 1, [], tail_leads refl t section line other, refl)

pub line_passed : {tail rest : List ℕ} (is_line : Bool) → IsTail tail rest is_line → (section : Option Section)
    → Passed section tail [] section rest
line_passed true t section = anywhere (line_holds t section)
line_passed false t section = at_end (tail_ends refl t section 0).0 (λ line.
    ([], (tail_ends refl t section line).1, refl))

-- a header leads to its section
pub header_holds : {new : Section} {blanks bytes : List ℕ} → AreBlank blanks → IsHeaderAt new blanks bytes
    → (section : Option Section) → Holds section bytes [] (Some new)
header_holds all h section = λ line other. (
  line,
  [],
  rw h.joined (simp append_assoc
      (blanks_lead _ all (reached.header refl (h.header other) reached.here))),
  refl,
)

-- what the code cuts off a line
pub comment_cut : {text after bytes rest : List ℕ} {sign : ℕ} → text ≡ sign ∷ after
    → is_comment_sign sign ≡ true → Run is_comment_byte after bytes rest
    → (comment : List ℕ) × (text ≡ comment ++ rest) × IsComment comment × (true ≡ true → comment ≢ [])
comment_cut {bytes = bytes} {sign = sign} e is run =
    (sign ∷ bytes, e ∙ ap (λ x. sign ∷ x) run.joined, present is run.pass, λ is none. cc)

pub no_comment : (text : List ℕ)
    → (comment : List ℕ) × (text ≡ comment ++ text) × IsComment comment × (false ≡ true → comment ≢ [])
no_comment text = ([], refl, absent, λ is. absurd (true≢false (sym is)))

pub tail_of : {text blanks at comment end rest : List ℕ} {is_line : Bool} (last : List ℕ)
    → Run is_blank text blanks at
    → at ≡ comment ++ end → IsComment comment → end ≡ last ++ rest
    → ((is_line ≡ true) × (last ≡ 10 ∷ [])) ⊎ ((is_line ≡ false) × (rest ≡ []) × (last ≡ []))
    → (tail : List ℕ) × (text ≡ tail ++ rest) × (t : IsTail tail rest is_line) × (t.comment ≡ comment)
tail_of {blanks = blanks} {comment = comment} last run at_is is end_is ends = (
  blanks ++ (comment ++ last),
  run.joined ∙ rw (at_is, end_is) (simp append_assoc),
  record {
    blanks = blanks;
    comment = comment;
    are_blank = run.pass;
    is_comment = is;
    ends = elim ends [
      | inl (line, e) ↦ inl (line, rw e refl)
      | inr (off, none, e) ↦ inr (off, none, rw (e, append-nil comment) refl)
    ];
  },
  refl,
)

-- an entry before what is left of its line is one before any other text behind it
pub takes_before : {key rest : List ℕ} {value : Option (List ℕ)} {lines : ℕ} (front tail : List ℕ)
    → TakesEntry (front ++ (tail ++ rest)) key value lines (tail ++ rest) → IsTail tail rest true
    → (other : List ℕ)
    → TakesEntry (front ++ (tail ++ other)) key value lines (tail ++ other)
takes_before {rest = rest} front tail takes t other =
    let lead = t.blanks ++ t.comment in
    let tail_is : tail ≡ lead ++ 10 ∷ [] = elim t.ends [
      | inl line_is ↦ line_is.1 ∙ sym (append_assoc t.blanks t.comment (10 ∷ []))
      | inr end_is ↦ absurd (true≢false end_is.0)
    ] in
    let before = λ (more : List ℕ). ap (λ x. x ++ more) tail_is ∙ append_assoc lead (10 ∷ []) more in
    let no_return : 10 ≢ 13 = omega arith in
    let moves : Follows (tail ++ rest) (tail ++ other) =
    rw (before rest, before other) (follows lead 10 rest other no_return) in
    let (cut, joined, moved) = entry_moved takes in
    rw (append_cancel_right front cut (tail ++ rest) joined)
    (moved (tail ++ other) moves (λ none. not_none lead rest 10 (sym (before rest) ∙ none)))

-- an entry with what is left of its line
pub entry_holds : {key at bytes rest : List ℕ} {value : Option (List ℕ)} {lines : ℕ} (blanks : List ℕ)
    → AreBlank blanks
    → IsEntry key value lines at blanks bytes rest true → (section : Option Section)
    → Holds section bytes ((section, key, value) ∷ []) section
entry_holds {key = key} {at = at} {rest = rest} {value = value} {lines = lines} blanks all e section =
    λ line other.
    let t = e.is_tail in
    let lead = t.blanks ++ t.comment in
    let tail_is : e.tail ≡ lead ++ 10 ∷ [] = elim t.ends [
      | inl line_is ↦ line_is.1 ∙ sym (append_assoc t.blanks t.comment (10 ∷ []))
      | inr end_is ↦ absurd (true≢false end_is.0)
    ] in
    let before = λ (more : List ℕ). ap (λ x. x ++ more) tail_is ∙ append_assoc lead (10 ∷ []) more in
    let left : at ≡ lead ++ 10 ∷ rest = e.left ∙ before rest in
    let taken = takes_before e.front e.tail (rw e.left at e.takes) t other in
    let begins_before : BeginsWithLetter ((e.front ++ lead) ++ 10 ∷ rest) =
    rw (append_assoc e.front lead (10 ∷ rest), ← left) e.begins in
    let (b, more, begins, letter) = letter_before (e.front ++ lead) 10 rest other begins_before in
    let same : e.front ++ (e.tail ++ other) ≡ b ∷ more =
    ap (λ x. e.front ++ x) (before other) ∙ sym (append_assoc e.front lead (10 ∷ other)) ∙ begins in
    let line_then = line + lines in
    let leads =
    reached.entry {section = section} {line = line} letter (rw same at taken)
    (tail_leads refl t section line_then other) in (
      line_then + 1,
      entry_at section key value line_then ∷ [],
      rw e.joined (simp append_assoc (blanks_lead blanks all (rw (← same) at leads))),
      refl,
    )

entry_ends : {key at bytes rest : List ℕ} {value : Option (List ℕ)} {lines : ℕ} (blanks : List ℕ)
    → AreBlank blanks
    → IsEntry key value lines at blanks bytes rest false → (section : Option Section)
    → (rest ≡ []) × Ends section bytes ((section, key, value) ∷ [])
entry_ends {key = key} {at = at} {value = value} {lines = lines} blanks all e section =
    let (b, more, begins, letter) = e.begins in
    let (none, unused) = tail_ends refl e.is_tail section 0 in
    let left : at ≡ e.tail = e.left ∙ ap (λ x. e.tail ++ x) none ∙ append-nil e.tail in (
      none,
      λ line.
          let reads =
          at_entry {section = section} {line = line} [] None (e.front ++ e.tail) (rw left at begins) letter
          (rw left at e.takes)
          (tail_ends refl e.is_tail section (line + lines)).1 in
          (entry_at section key value (line + lines) ∷ [], rw e.joined (blanks_read blanks all reads), refl),
    )

pub entry_passed : {key at bytes rest : List ℕ} {value : Option (List ℕ)} {lines : ℕ} (blanks : List ℕ)
    (is_line : Bool)
    → AreBlank blanks
    → IsEntry key value lines at blanks bytes rest is_line → (section : Option Section)
    → Passed section bytes ((section, key, value) ∷ []) section rest
entry_passed blanks true all e section = anywhere (entry_holds blanks all e section)
entry_passed blanks false all e section =
    let (none, ends) = entry_ends blanks all e section in at_end none ends

-- what a piece holds
pub made_passed : (h : Held) {bytes rest : List ℕ} (blanks : List ℕ) (is_line : Bool) → AreBlank blanks
    → IsMade h blanks bytes rest is_line → (section : Option Section)
    → Passed section bytes (contents_in h section) (section_after h section) rest
made_passed (held.Entry parts) blanks is_line all made section = entry_passed blanks is_line all made section
made_passed (held.Header new) blanks is_line all made section = anywhere (header_holds all made section)
made_passed h blanks is_line all made section = line_passed is_line made.0 section

-- where no piece is, no file is read
pub refused : {text at : List ℕ} (blanks : List ℕ) → text ≡ blanks ++ at → AreBlank blanks
    → ((section : Option Section) (line : ℕ) → (error : FileError) × Reads section line at [] (Some error))
    → ¬ (IsRead text)
refused blanks joined all stops (section, line, entries, reads) =
    let (error, stop) = stops section line in
    let same : None ≡ Some error = (reads_once (rw joined at reads) (blanks_read blanks all stop)).1 in cc

pub header_stops : {after : List ℕ} {lines : ℕ} {why : Why} → HeaderStops after lines why
    → (section : Option Section) (line : ℕ)
    → (error : FileError) × Reads section line (91 ∷ after) [] (Some error)
header_stops {lines = lines} {why = why} stops section line =
    (file.error_at (line + lines) why, file.header_refused refl stops)

pub entry_stops : {at : List ℕ} {lines : ℕ} {why : Why} → BeginsWithLetter at
    → EntryStops at lines why
    → (section : Option Section) (line : ℕ) → (error : FileError) × Reads section line at [] (Some error)
entry_stops {lines = lines} {why = why} (b, more, begins, letter) stops section line =
    (file.error_at (line + lines) why, rw begins (file.entry_refused letter (rw begins at stops)))

pub nothing_stops : (at : List ℕ) → StartsLine at → GoesOn at → (section : Option Section) (line : ℕ)
    → (error : FileError) × Reads section line at [] (Some error)
nothing_stops [] starts (blanks, b, more, joined, all, unused, no_sign, no_line) section line =
    absurd (not_none blanks more b (sym joined))
nothing_stops (c ∷ rest) (no_blank, no_bracket, no_letter) (
  blanks,
  b,
  more,
  joined,
  all,
  other,
  no_sign,
  no_line,
) section line =
    let left = (run_same is_blank [] blanks (c ∷ rest) (b ∷ more) refl all no_blank other joined).1 in
    let same : b ≡ c = cc in
    let sign : is_comment_sign c ≡ false = rw (sym same) no_sign in
    let feed : c ≢ 10 = λ is. no_line (same ∙ is) in (
      file.error_at line (why_at (c ∷ rest)),
      file.no_item (begins_none c no_blank feed sign no_bracket no_letter),
    )

pub blank_no_feed : (x : ℕ) → is_blank x ≡ true → x ≡ 10 → ⊥
blank_no_feed x blank is = grind (arith, nat_tests)

pub blank_no_sign : (x : ℕ) → is_blank x ≡ true → is_comment_sign x ≡ true → ⊥
blank_no_sign x blank sign = grind (arith, nat_tests)

sign_no_blank : (x : ℕ) → is_comment_sign x ≡ true → is_blank x ≡ false
sign_no_blank x sign = grind (arith, nat_tests)

blank_at : (x y : ℕ) → is_blank x ≡ true → y ≢ 10 → (x ≡ 10) ⊎ ((x ≡ 13) × (y ≡ 10)) → ⊥
blank_at x y blank other (inl is) = blank_no_feed x blank is
blank_at x y blank other (inr p) = other p.1

no_line_end : (blanks : List ℕ) (b : ℕ) (more : List ℕ) → AreBlank blanks → is_blank b ≡ false → b ≢ 10
    → IsAtLineEnd (blanks ++ b ∷ more) → ⊥
no_line_end [] b more all no_blank no_line end =
    no_line (feed_at b more (λ return. true≢false (rw return at no_blank)) end)
no_line_end (x ∷ []) b more all no_blank no_line end = blank_at x b (first_blank x [] all) no_line end
no_line_end (x ∷ y ∷ blanks) b more all no_blank no_line end =
    blank_at x y (first_blank x (y ∷ blanks) all)
    (blank_no_feed y (first_blank y blanks (other_blanks x (y ∷ blanks) all))) end

no_value_end : (blanks : List ℕ) (b : ℕ) (more : List ℕ) → AreBlank blanks → is_comment_sign b ≡ false
    → b ≢ 10 → EndsValue (blanks ++ b ∷ more) → ⊥
no_value_end [] b more all no_sign no_line (inl is) = no_line is
no_value_end [] b more all no_sign no_line (inr is) = true≢false (sym is ∙ no_sign)
no_value_end (x ∷ blanks) b more all no_sign no_line (inl is) = blank_no_feed x (first_blank x blanks all) is
no_value_end (x ∷ blanks) b more all no_sign no_line (inr is) = blank_no_sign x (first_blank x blanks all) is

pub no_entry_goes_on : {at key rest : List ℕ} {value : Option (List ℕ)} {lines : ℕ}
    → TakesEntry at key value lines rest → GoesOn rest → ⊥
no_entry_goes_on (alone takes end) (blanks, b, more, joined, all, no_blank, no_sign, no_line) =
    no_line_end blanks b more all no_blank no_line (rw joined at end)
no_entry_goes_on (valued takes is (closed e spells ends)) (
  blanks,
  b,
  more,
  joined,
  all,
  no_blank,
  no_sign,
  no_line,
) =
    no_value_end blanks b more all no_sign no_line (subst EndsValue joined ends)
no_entry_goes_on (valued takes is (open_end spells)) (
  blanks,
  b,
  more,
  joined,
  all,
  no_blank,
  no_sign,
  no_line,
) = not_none blanks more b (sym joined)

-- the pieces that the code cuts off
pub joined_more : (text front rest bytes more : List ℕ) → text ≡ front ++ rest → rest ≡ bytes ++ more
    → text ≡ (front ++ bytes) ++ more
joined_more text front rest bytes more joined cut =
    joined ∙ ap (λ r. front ++ r) cut ∙ sym (append_assoc front bytes more)

pub same_bytes : {text bytes other : List ℕ} (rest : List ℕ) → text ≡ bytes ++ rest → text ≡ other ++ rest
    → bytes ≡ other
same_bytes {bytes = bytes} {other = other} rest cut also = append_cancel_right bytes other rest (sym cut ∙ also)

pub header_cut : {text after rest : List ℕ} {new : Section} (blanks : List ℕ) → text ≡ blanks ++ 91 ∷ after
    → Header after new rest → (bytes : List ℕ) × (text ≡ bytes ++ rest) × IsHeaderAt new blanks bytes
header_cut {text = text} {after = after} {rest = rest} blanks joined header =
    let (inner, is, moved) = header_moved header in (
      blanks ++ 91 ∷ inner,
      joined_more text blanks (91 ∷ after) (91 ∷ inner) rest joined (ap (λ x. 91 ∷ x) is),
      record { inner = inner; joined = refl; header = moved },
    )

pub entry_cut : {text at rest tail key after : List ℕ} {value : Option (List ℕ)} {lines : ℕ} {is_line : Bool}
    (blanks : List ℕ)
    → text ≡ blanks ++ at → BeginsWithLetter at
    → TakesEntry at key value lines after → after ≡ tail ++ rest → IsTail tail rest is_line
    → (bytes : List ℕ) × (text ≡ bytes ++ rest) × IsEntry key value lines after blanks bytes rest is_line
entry_cut {text = text} {at = at} {rest = rest} {tail = tail}
    {after = after} blanks joined letter takes left is_tail =
    let (front, at_is, unused) = entry_moved takes in (
      blanks ++ (front ++ tail),
      joined_more text blanks at (front ++ tail) rest joined (joined_more at front after tail rest at_is left),
      record {
        front = front;
        tail = tail;
        begins = rw at_is at letter;
        takes = rw at_is at takes;
        left = left;
        is_tail = is_tail;
        joined = refl;
      },
    )

-- a text of blanks and then this one has a comment where this one begins with its sign
pub comment_behind : {text blanks at : List ℕ} → Run is_blank text blanks at → HasComment text
    → (sign : ℕ) × (more : List ℕ) × (at ≡ sign ∷ more) × (is_comment_sign sign ≡ true)
comment_behind run (blanks, more, sign, joined, all, is) =
    let no_blank : is_blank sign ≡ false = sign_no_blank sign is in
    (sign, more, (run_only run (record { joined = joined; pass = all; longest = no_blank })).1, is)

-- a comment of which nothing is cut off
pub no_comment_before : {text rest : List ℕ} (comment : List ℕ) → text ≡ comment ++ rest → rest ≡ text
    → comment ≡ []
no_comment_before {text = text} {rest = rest} comment cut same =
    sym (append_cancel_right [] comment rest (same ∙ cut))

-- the last line end of a text
feed_free : (b : ℕ) → b ≢ 10 → is_comment_byte b ≡ true
feed_free b other = grind (arith, nat_tests)

pub no_feeds : (text : List ℕ) → AllWithin (λ b. b ≢ 10) text 0 (length text)
    → list_all is_comment_byte text ≡ true
no_feeds text never =
    list_all-from_AllPass is_comment_byte text
    (λ k d within. feed_free (get_or text k d) (never k d (omega arith) within))

pub last_feed : {end : List ℕ} (text : List ℕ) (i : ℕ) → i < length text → HoldsAt (λ b. b ≡ 10) text i
    → AllWithin (λ b. b ≢ 10) text (i + 1) (length text) → IsEndOfLine (take (i + 1) text) true end
    → IsLastLineEnd text (Some end)
last_feed {end = end} text i within here later is =
    let back = drop (i + 1) text in
    let front = take i text in
    let none : list_all is_comment_byte back ≡ true =
    list_all-from_AllPass is_comment_byte back
    (λ k d inside. rw (get_or-drop (i + 1) text k d)
    (feed_free (get_or text (i + 1 + k) d)
    (later (i + 1 + k) d (omega arith) (omega (arith, length-drop (i + 1) text))))) in
    let next : drop i text ≡ 10 ∷ back = drop_more text i 0 within ∙ ap (λ b. b ∷ back) (here 0) in
    let whole : text ≡ front ++ 10 ∷ back = sym (take-append-drop i text) ∙ ap (λ t. front ++ t) next in
    let line : take (i + 1) text ≡ front ++ 10 ∷ [] =
    append_cancel_right (take (i + 1) text) (front ++ 10 ∷ []) back
    (take-append-drop (i + 1) text ∙ whole ∙ sym (append_assoc front (10 ∷ []) back)) in
    (front, back, whole, none, subst (λ l. IsEndOfLine l true end) line is)
