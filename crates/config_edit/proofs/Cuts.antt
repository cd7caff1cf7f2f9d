-- A text is cut in its parts in one way, and the code's pieces are these parts.
use Rattle.std.proofs.Common.{◌≡◌, ◌≢◌, ℕ, Bool, true, false, List, [], ◌∷◌, ◌++◌, Option, Some, None, Result}
use Rattle.std.proofs.Common.{Ok, not, ◌==◌, ◌⊎◌}
use Rattle.std.proofs.Common.{if◌then◌else◌, ◌↔◌, refl, sym, ap, ◌∙◌, subst, append_assoc, append-nil, arith}
use Rattle.std.proofs.Common.{inl, inr}
use Rattle.std.proofs.lemmas.List.{append_cancel_left, append_cancel_right}
use Rattle.std.proofs.lemmas.List.Folds.{list_all-append}
use Rattle.std.proofs.lemmas.Bool.{true≢false, and_parts}
use Rattle.std.proofs.lemmas.Bool.Decides.{nat_tests}
use Rattle.std.specs.List.{list_all}
use Rattle.config_edit.specs.declared.piece.Held.{Held}
use Rattle.config_edit.specs.declared.piece.Held.TheVariants as held
use Rattle.config_edit.specs.declared.piece.Piece.{Piece}
use Rattle.config_file.specs.Bytes.{is_blank, is_comment_sign, is_comment_byte, BeginsWithLetter}
use Rattle.config_file.specs.Runs.{Run}
use Rattle.config_file.specs.Header.{Section, Header}
use Rattle.config_file.specs.Runs.{StopsRun}
use Rattle.config_file.specs.File.{TakesEntry}
use Rattle.config_file.specs.Views.{section_of, value_of}
use Rattle.config_edit.specs.Cut as cut
use Rattle.config_edit.specs.Cut.{AreBlank, HasComment, IsComment, absent, present, IsTail, Part, IsPart}
use Rattle.config_edit.specs.Cut.{Cuts, part_bytes, value_bytes}
use Rattle.config_edit.specs.Cut.{section_from, section_behind, EachBecomes}
use Rattle.config_edit.specs.Reading.{IsPiece, IsMade}
use Rattle.config_file.proofs.OneRun.{run_same}
use Rattle.config_file.proofs.OneReading as one
use Rattle.config_file.proofs.OneReading.{Kind, kind, kind_header, kind_line_end, kind_comment, kind_entry}
use Rattle.config_file.proofs.OneHeader.{header_only}
use Rattle.config_file.proofs.OneEntry.{entry_only}
use Rattle.config_file.proofs.LineEnds.{not_none}
use Rattle.config_edit.proofs.Pieces.{comment_behind, first_blank, other_blanks}
use Rattle.config_edit.proofs.Changed.{behind, both_blank}

ok_same : {A B : Type 0} {x y : A} → ◌≡◌ {A = Result A B} (Ok x) (Ok y) → x ≡ y
ok_same e = cc

pub taken_once : {text key other rest left : List ℕ} {value also : Option (List ℕ)} {lines more : ℕ}
    → TakesEntry text key value lines rest → TakesEntry text other also more left
    → (key ≡ other) × (value ≡ also) × (lines ≡ more) × (rest ≡ left)
taken_once {text = text} {key = key} {other = other} {rest = rest} {left = left} {value = value} {also = also}
    {lines = lines} {more = more} first second =
    let same = entry_only text (Ok (key, value, lines, rest)) (Ok (other, also, more, left)) first second in
    let all = ok_same same in
    (ap (λ p. p.0) all, ap (λ p. p.1) all, ap (λ p. p.2) all, ap (λ p. p.3) all)

pub header_once : {text rest left : List ℕ} {new next : Section} → Header text new rest → Header text next left
    → (new ≡ next) × (rest ≡ left)
header_once {text = text} {rest = rest} {left = left} {new = new} {next = next} first second =
    let same = header_only text (Ok (new, rest)) (Ok (next, left)) first second in
    let all = ok_same same in (ap (λ p. p.0) all, ap (λ p. p.1) all)

-- the kind of the first byte behind any blanks
abbrev first_kind : List ℕ → Kind
first_kind [] = one.nothing
first_kind (b ∷ text) = if is_blank b then first_kind text else kind b

kind_behind : (blanks text : List ℕ) → AreBlank blanks → first_kind (blanks ++ text) ≡ first_kind text
kind_behind [] text all = refl
kind_behind (b ∷ blanks) text all =
    ap (λ t. if t then first_kind (blanks ++ text) else kind b) (first_blank b blanks all)
    ∙ kind_behind blanks text (other_blanks b blanks all)

kind_at : (b : ℕ) (text : List ℕ) (k : Kind) → is_blank b ≡ false → kind b ≡ k → first_kind (b ∷ text) ≡ k
kind_at b text k solid is = ap (λ t. if t then first_kind text else kind b) solid ∙ is

letter_solid : (b : ℕ) → kind b ≡ one.entry → is_blank b ≡ false
letter_solid b is = grind (arith, nat_tests)

-- the ends of a line of this front
abbrev Closes : List ℕ → List ℕ → List ℕ → Bool → Type 0
Closes front tail rest is_line =
    ((is_line ≡ true) × (tail ≡ front ++ 10 ∷ [])) ⊎ ((is_line ≡ false) × (rest ≡ []) × (tail ≡ front))

-- the bytes of a line before its end are those of a comment
record LineFront (tail rest : List ℕ) (is_line : Bool) : Type 0 where
  front : List ℕ
  pass : list_all is_comment_byte front ≡ true
  ends : Closes front tail rest is_line

blanks_pass : (blanks : List ℕ) → AreBlank blanks → list_all is_comment_byte blanks ≡ true
blanks_pass [] all = refl
blanks_pass (b ∷ blanks) all =
    let first = first_blank b blanks all in
    let here : is_comment_byte b ≡ true = grind (arith, nat_tests) in
    rw (here, blanks_pass blanks (other_blanks b blanks all)) refl

comment_passes : {comment : List ℕ} → IsComment comment → list_all is_comment_byte comment ≡ true
comment_passes absent = refl
comment_passes (present {sign = sign} is all) =
    let here : is_comment_byte sign ≡ true = grind (arith, nat_tests) in rw (here, all) refl

line_front : {tail rest : List ℕ} {is_line : Bool} → IsTail tail rest is_line → LineFront tail rest is_line
line_front t =
    record {
      front = t.blanks ++ t.comment;
      pass = rw (
        list_all-append is_comment_byte t.blanks t.comment,
        blanks_pass t.blanks t.are_blank,
        comment_passes t.is_comment,
      ) refl;
      ends = elim t.ends [
        | inl l ↦ inl (l.0, l.1 ∙ simp append_assoc)
        | inr e ↦ inr (e.0, e.1, e.2)
      ];
    }

fronts_once : (f g r s : List ℕ) {a b : List ℕ} {l m : Bool} → list_all is_comment_byte f ≡ true
    → list_all is_comment_byte g ≡ true → Closes f a r l → Closes g b s m → a ++ r ≡ b ++ s
    → (a ≡ b) × (r ≡ s) × (l ≡ m)
fronts_once f g r s pass also (inl (l_is, a_is)) (inl (m_is, b_is)) e =
    let whole : f ++ 10 ∷ r ≡ g ++ 10 ∷ s =
    sym (append_assoc f (10 ∷ []) r) ∙ rw (a_is, b_is) at e ∙ append_assoc g (10 ∷ []) s in
    let (fronts, rests) = run_same is_comment_byte f g (10 ∷ r) (10 ∷ s) pass also refl refl whole in
    (a_is ∙ ap (λ x. x ++ 10 ∷ []) fronts ∙ sym b_is, cc, l_is ∙ sym m_is)
fronts_once f g r s pass also (inl (l_is, a_is)) (inr (m_is, none, b_is)) e =
    let whole : f ++ 10 ∷ r ≡ g ++ [] = sym (append_assoc f (10 ∷ []) r) ∙ rw (a_is, b_is, none) at e in
    let (fronts, rests) = run_same is_comment_byte f g (10 ∷ r) [] pass also refl tt whole in
    absurd (cc)
fronts_once f g r s pass also (inr (l_is, none, a_is)) (inl (m_is, b_is)) e =
    let whole : f ++ [] ≡ g ++ 10 ∷ s = rw (a_is, b_is, none) at e ∙ append_assoc g (10 ∷ []) s in
    let (fronts, rests) = run_same is_comment_byte f g [] (10 ∷ s) pass also tt refl whole in
    absurd (cc)
fronts_once f g r s pass also (inr (l_is, none, a_is)) (inr (m_is, no_more, b_is)) e =
    let whole : f ++ [] ≡ g ++ [] = rw (a_is, b_is, none, no_more) at e in
    let (fronts, rests) = run_same is_comment_byte f g [] [] pass also tt tt whole in
    (a_is ∙ fronts ∙ sym b_is, none ∙ sym no_more, l_is ∙ sym m_is)

-- what is left of a line is one stretch of a text
pub tail_once : {a b r s : List ℕ} {l m : Bool} → IsTail a r l → IsTail b s m → a ++ r ≡ b ++ s
    → (a ≡ b) × (r ≡ s) × (l ≡ m)
tail_once {r = r} {s = s} first second e =
    let x = line_front first in
    let y = line_front second in
    fronts_once x.front y.front r s x.pass y.pass x.ends y.ends e

-- what a line begins with behind its blanks is neither a header nor an entry
line_kind : {comment rest : List ℕ} → IsComment comment → (rest ≡ []) ⊎ ((more : List ℕ) × (rest ≡ 10 ∷ more))
    → (first_kind (comment ++ rest) ≢ one.header) × (first_kind (comment ++ rest) ≢ one.entry)
line_kind absent (inl none) = rw none (λ e. cc, λ e. cc)
line_kind absent (inr (more, is)) = rw is (λ e. cc, λ e. cc)
line_kind {rest = rest} (present {sign = sign} {bytes = bytes} is all) end =
    let solid : is_blank sign ≡ false = grind (arith, nat_tests) in
    let k = kind_at sign (bytes ++ rest) one.comment solid (kind_comment sign is) in
    (λ e. let x = sym k ∙ e in cc, λ e. let x = sym k ∙ e in cc)

tail_kind : {tail rest : List ℕ} {is_line : Bool} → IsTail tail rest is_line
    → (first_kind (tail ++ rest) ≢ one.header) × (first_kind (tail ++ rest) ≢ one.entry)
tail_kind {tail = tail} {rest = rest} t = elim t.ends [
  | inl l ↦
      let whole : tail ++ rest ≡ t.blanks ++ (t.comment ++ 10 ∷ rest) = rw l.1 (simp append_assoc) in
      rw (whole, kind_behind t.blanks (t.comment ++ 10 ∷ rest) t.are_blank)
      (line_kind t.is_comment (inr (rest, refl)))
  | inr e ↦
      let whole : tail ++ rest ≡ t.blanks ++ (t.comment ++ []) = rw (e.2, e.1) (simp append_assoc) in
      rw (whole, kind_behind t.blanks (t.comment ++ []) t.are_blank) (line_kind t.is_comment (inl refl))
]

header_kind : (blanks inner rest : List ℕ) → AreBlank blanks
    → first_kind ((blanks ++ 91 ∷ inner) ++ rest) ≡ one.header
header_kind blanks inner rest all =
    rw (append_assoc, kind_behind blanks (91 ∷ (inner ++ rest)) all) refl

-- the bytes of an entry, behind its blanks, and what follows them
abbrev entry_text : List ℕ → List ℕ → Option (List ℕ) → List ℕ → List ℕ → List ℕ
entry_text key between value tail rest = (key ++ (between ++ value_bytes value)) ++ (tail ++ rest)

entry_joined : (blanks key between : List ℕ) (value : Option (List ℕ)) (tail rest : List ℕ)
    → (blanks ++ ((key ++ (between ++ value_bytes value)) ++ tail)) ++ rest ≡ blanks
    ++ entry_text key between value tail rest
entry_joined blanks key between value tail rest = simp append_assoc

letter_first : {front : List ℕ} (more : List ℕ) → BeginsWithLetter front
    → StopsRun is_blank (front ++ more) × (first_kind (front ++ more) ≡ one.entry)
letter_first more (b, rest, is, letter) =
    let k = kind_entry b letter in
    let solid = letter_solid b k in
    rw is (solid, kind_at b (rest ++ more) one.entry solid k)

entry_kind : {front : List ℕ} (blanks more : List ℕ) → AreBlank blanks → BeginsWithLetter front
    → first_kind (blanks ++ (front ++ more)) ≡ one.entry
entry_kind {front = front} blanks more all letter =
    kind_behind blanks (front ++ more) all ∙ (letter_first more letter).1

same_headers : (blanks inner rest also other left : List ℕ) (section next : Section)
    → AreBlank blanks → Header (inner ++ rest) section rest → AreBlank also → Header (other ++ left) next left
    → (blanks ++ 91 ∷ inner) ++ rest ≡ (also ++ 91 ∷ other) ++ left
    → (cut.header blanks section inner ≡ cut.header also next other) × (rest ≡ left)
same_headers blanks inner rest also other left section next all is all_too so e =
    let whole : blanks ++ 91 ∷ (inner ++ rest) ≡ also ++ 91 ∷ (other ++ left) =
    sym (append_assoc blanks (91 ∷ inner) rest) ∙ e ∙ append_assoc also (91 ∷ other) left in
    let (fronts, backs) = run_same is_blank blanks also (91 ∷ (inner ++ rest)) (91 ∷ (other ++ left)) all all_too refl refl whole in
    let texts : inner ++ rest ≡ other ++ left = cc in
    let (sections, rests) = header_once (rw texts at is) so in
    let inners : inner ≡ other = append_cancel_right inner other rest (texts ∙ ap (λ l. other ++ l) (sym rests)) in
    (cc, rests)

same_entries : (blanks key between tail rest also other among tail_too left : List ℕ)
    (value new : Option (List ℕ))
    (l m : Bool) (lines more : ℕ)
    → AreBlank blanks → BeginsWithLetter (key ++ (between ++ value_bytes value))
    → TakesEntry (entry_text key between value tail rest) key value lines (tail ++ rest) → IsTail tail rest l
    → AreBlank also → BeginsWithLetter (other ++ (among ++ value_bytes new))
    → TakesEntry (entry_text other among new tail_too left) other new more (tail_too ++ left)
    → IsTail tail_too left m
    → (blanks ++ ((key ++ (between ++ value_bytes value)) ++ tail)) ++ rest
    ≡ (also ++ ((other ++ (among ++ value_bytes new)) ++ tail_too)) ++ left
    → (cut.entry blanks key between value tail l ≡ cut.entry also other among new tail_too m) × (rest ≡ left)
same_entries blanks key between tail rest also other among tail_too left value new l m lines more
    all letter takes t all_too letter_too takes_too u e =
    let whole = sym (entry_joined blanks key between value tail rest) ∙ e ∙ entry_joined also other among new tail_too left in
    let (fronts, texts) = run_same is_blank blanks also (entry_text key between value tail rest)
    (entry_text other among new tail_too left) all all_too (letter_first (tail ++ rest) letter).0
    (letter_first (tail_too ++ left) letter_too).0 whole in
    let (keys, values, counts, backs) = taken_once (rw texts at takes) takes_too in
    let (tails, rests, ends) = tail_once t u backs in
    let stems : key ++ (between ++ value_bytes value) ≡ other ++ (among ++ value_bytes new) =
    append_cancel_right (key ++ (between ++ value_bytes value)) (other ++ (among ++ value_bytes new))
    (tail ++ rest)
    (texts ∙ ap (λ b. (other ++ (among ++ value_bytes new)) ++ b) (sym backs)) in
    let behind : between ++ value_bytes value ≡ among ++ value_bytes new =
    append_cancel_left key (between ++ value_bytes value) (among ++ value_bytes new)
    (stems ∙ ap (λ k. k ++ (among ++ value_bytes new)) (sym keys)) in
    let betweens : between ≡ among =
    append_cancel_right between among (value_bytes value) (behind
    ∙ ap (λ v. among ++ value_bytes v) (sym values)) in
    (cc, rests)

-- a text begins with one part
pub first_same : (p q : Part) (r s : List ℕ) → IsPart p r → IsPart q s → part_bytes p ++ r ≡ part_bytes q ++ s
    → (p ≡ q) × (r ≡ s)
first_same (cut.header blanks section inner) (cut.header also next other) r s (all, is) (all_too, so) e =
    same_headers blanks inner r also other s section next all is all_too so e
first_same (cut.header blanks section inner) (cut.entry also other among new tail m) r s (all, is) (
  all_too,
  letter,
  (lines, takes),
  u,
) e =
    let k = sym (header_kind blanks inner r all) ∙ ap first_kind (e ∙ entry_joined also other among new tail s)
    ∙ entry_kind also (tail ++ s) all_too letter in
    absurd (cc)
first_same (cut.header blanks section inner) (cut.line tail m) r s (all, is) (some, u) e =
    absurd ((tail_kind u).0 (ap first_kind (sym e) ∙ header_kind blanks inner r all))
first_same (cut.entry blanks key between value tail l) (cut.header also next other) r s (
  all,
  letter,
  (lines, takes),
  t,
) (all_too, so) e =
    let k = sym (header_kind also other s all_too) ∙ ap first_kind (sym e ∙ entry_joined blanks key between value tail r)
    ∙ entry_kind blanks (tail ++ r) all letter in
    absurd (cc)
first_same (cut.entry blanks key between value tail l) (cut.entry also other among new tail_too m) r s
    (all, letter, (lines, takes), t) (all_too, letter_too, (more, takes_too), u) e =
    same_entries blanks key between tail r also other among tail_too s value new l m lines more
    all letter takes t all_too letter_too takes_too u e
first_same (cut.entry blanks key between value tail l) (cut.line tail_too m) r s (
  all,
  letter,
  (lines, takes),
  t,
) (some, u) e =
    absurd ((tail_kind u).1 (ap first_kind (sym e ∙ entry_joined blanks key between value tail r)
    ∙ entry_kind blanks (tail ++ r) all letter))
first_same (cut.line tail l) (cut.header also next other) r s (some, t) (all_too, so) e =
    absurd ((tail_kind t).0 (ap first_kind e ∙ header_kind also other s all_too))
first_same (cut.line tail l) (cut.entry also other among new tail_too m) r s (some, t) (
  all_too,
  letter,
  (lines, takes),
  u,
) e =
    absurd ((tail_kind t).1 (ap first_kind (e ∙ entry_joined also other among new tail_too s)
    ∙ entry_kind also (tail_too ++ s) all_too letter))
first_same (cut.line tail l) (cut.line tail_too m) r s (some, t) (some_too, u) e =
    let (tails, rests, ends) = tail_once t u e in (cc, rests)

some_part : (part : Part) (rest : List ℕ) → IsPart part rest → part_bytes part ++ rest ≢ []
some_part (cut.header [] section inner) rest is = λ e. cc
some_part (cut.header (b ∷ blanks) section inner) rest is = λ e. cc
some_part (cut.entry [] key between value tail l) rest (all, (b, more, letter_is, letter), takes, t) = λ e.
    let x = rw letter_is at e in cc
some_part (cut.entry (b ∷ blanks) key between value tail l) rest is = λ e. cc
some_part (cut.line [] l) rest (some, t) = absurd (some refl)
some_part (cut.line (b ∷ tail) l) rest is = λ e. cc

cut_same : {text other : List ℕ} {a b : List Part} → Cuts text a → Cuts other b → text ≡ other → a ≡ b
cut_same cut.ends cut.ends e = refl
cut_same cut.ends (cut.begins {rest = rest} first is more) e = absurd (some_part first rest is (sym e))
cut_same (cut.begins {rest = rest} first is more) cut.ends e = absurd (some_part first rest is e)
cut_same (cut.begins {rest = r} first is more) (cut.begins {rest = s} second so also) e =
    let (firsts, rests) = first_same first second r s is so e in
    let later = cut_same more also rests in
    cc

-- a text is cut in one way
pub one_cut : (text : List ℕ) (a b : List Part) → Cuts text a → Cuts text b → a ≡ b
one_cut text a b first second = cut_same first second refl

-- a part more before the rest of a cut text
pub cut_more : {text : List ℕ} (done : List Part) (part : Part) (rest : List ℕ)
    → ((later : List Part) → Cuts (part_bytes part ++ rest) later → Cuts text (done ++ later))
    → IsPart part rest
    → (later : List Part) → Cuts rest later → Cuts text ((done ++ part ∷ []) ++ later)
cut_more done part rest cuts is later more =
    rw append_assoc (cuts (part ∷ later) (cut.begins part is more))

-- the section behind parts and one more
pub section_more : (before : Option Section) (done : List Part) (part : Part)
    → section_from before (done ++ part ∷ []) ≡ section_behind (section_from before done) part
section_more before [] part = refl
section_more before (first ∷ done) part = section_more (section_behind before first) done part

-- the part that a piece is
abbrev pub IsPartOf : Held → List ℕ → List ℕ → List ℕ → Bool → Part → Type 0
IsPartOf (held.Header section) blanks bytes rest is_line part =
    (inner : List ℕ) × (part ≡ cut.header blanks (section_of section) inner)
IsPartOf (held.Entry parts) blanks bytes rest is_line part = (between tail : List ℕ)
    × (part ≡ cut.entry blanks parts.key.now between (value_of parts.value) tail is_line)
    × (parts.rest.now ≡ tail ++ rest)
IsPartOf _ blanks bytes rest is_line part = part ≡ cut.line bytes is_line

letter_kind : {text : List ℕ} → BeginsWithLetter text → first_kind text ≡ one.entry
letter_kind {text = text} letter = rw append-nil at ((letter_first [] letter).1)

-- the letter of an entry is before what is left of its line
front_letter : (front : List ℕ) {tail rest : List ℕ} {is_line : Bool}
    → BeginsWithLetter (front ++ (tail ++ rest))
    → IsTail tail rest is_line → BeginsWithLetter front
front_letter [] letter t = absurd ((tail_kind t).1 (letter_kind letter))
front_letter (x ∷ front) (b, more, is, letter) t = (b, front, cc, letter)

-- what is left of a line, behind blanks
tail_behind : (blanks : List ℕ) {tail bytes rest : List ℕ} {is_line : Bool} → AreBlank blanks
    → bytes ≡ blanks ++ tail
    → (t : IsTail tail rest is_line) → (u : IsTail bytes rest is_line) × (u.comment ≡ t.comment)
tail_behind blanks all joined t = (
  record {
    blanks = blanks ++ t.blanks;
    comment = t.comment;
    are_blank = both_blank blanks t.blanks all t.are_blank;
    is_comment = t.is_comment;
    ends = elim t.ends [
      | inl l ↦ inl (l.0, joined ∙ ap (λ t. blanks ++ t) l.1 ∙ simp append_assoc)
      | inr e ↦ inr (e.0, e.1, joined ∙ ap (λ t. blanks ++ t) e.2 ∙ simp append_assoc)
    ];
  },
  refl,
)

sign_of : {comment : List ℕ} → IsComment comment → comment ≢ []
    → (sign : ℕ) × (more : List ℕ) × (comment ≡ sign ∷ more) × (is_comment_sign sign ≡ true)
sign_of absent some = absurd (some refl)
sign_of (present {sign = sign} {bytes = bytes} is all) some = (sign, bytes, refl, is)

none_or_some : (bytes : List ℕ) → (bytes ≡ []) ⊎ (bytes ≢ [])
none_or_some [] = inl refl
none_or_some (b ∷ bytes) = inr (λ e. cc)

-- what is left of a line has a comment, or none
line_comment : {tail rest : List ℕ} {is_line : Bool} → (t : IsTail tail rest is_line) → t.comment ≢ []
    → HasComment tail
line_comment {tail = tail} t some =
    let (end, tail_is) : (end : List ℕ) × (tail ≡ t.blanks ++ (t.comment ++ end)) = elim t.ends [
      | inl l ↦ (10 ∷ [], l.1)
      | inr e ↦ ([], e.2 ∙ rw append-nil refl)
    ] in
    let (sign, more, is, is_sign) = sign_of t.is_comment some in
    (t.blanks, more ++ end, sign, tail_is ∙ ap (λ c. t.blanks ++ (c ++ end)) is, t.are_blank, is_sign)

pub no_line_comment : {tail rest : List ℕ} {is_line : Bool} → (t : IsTail tail rest is_line) → t.comment ≡ []
    → ¬ (HasComment (tail ++ rest))
no_line_comment {tail = tail} {rest = rest} t none = λ has. elim t.ends [
  | inl l ↦
      let whole : tail ++ rest ≡ t.blanks ++ 10 ∷ rest = rw (l.1, none) (simp append_assoc) in
      let run : Run is_blank (tail ++ rest) t.blanks (10 ∷ rest) = record { joined = whole; pass = t.are_blank; longest = refl } in
      let (sign, more, also, is) = comment_behind run has in
      let same : sign ≡ 10 = cc in
      true≢false (sym is ∙ ap is_comment_sign same)
  | inr e ↦
      let whole : tail ++ rest ≡ t.blanks ++ [] = rw (e.2, e.1, none) (simp append-nil) in
      let run : Run is_blank (tail ++ rest) t.blanks [] = record { joined = whole; pass = t.are_blank; longest = tt } in
      let (sign, more, also, is) = comment_behind run has in
      not_none [] more sign (sym also)
]

pub has_before : {tail : List ℕ} (rest : List ℕ) → HasComment tail → HasComment (tail ++ rest)
has_before rest (blanks, more, sign, joined, all, is) =
    (blanks, more ++ rest, sign, ap (λ t. t ++ rest) joined ∙ append_assoc blanks (sign ∷ more) rest, all, is)

pub tail_comment : {tail rest : List ℕ} {is_line : Bool} → IsTail tail rest is_line
    → HasComment (tail ++ rest) ↔ HasComment tail
tail_comment {tail = tail} {rest = rest} t = (
  λ has. elim (none_or_some t.comment) [
    | inl none ↦ absurd (no_line_comment t none has)
    | inr some ↦ line_comment t some
  ],
  λ has. has_before rest has,
)

pub line_made : (h : Held) {bytes rest : List ℕ} (blanks : List ℕ) (is_line : Bool) (tail : List ℕ)
    → AreBlank blanks
    → bytes ≡ blanks ++ tail → (t : IsTail tail rest is_line)
    → ((t.comment ≡ []) × (h ≡ held.Nothing)) ⊎ ((t.comment ≢ []) × (h ≡ held.Comment))
    → IsMade h blanks bytes rest is_line
line_made h {rest = rest} blanks is_line tail all joined t either =
    let (u, same) = tail_behind blanks all joined t in
    elim either [
      | inl (none, is) ↦ rw is (u, λ has. no_line_comment u (same ∙ none) (has_before rest has))
      | inr (some, is) ↦ rw is (u, line_comment u (λ none. some (sym same ∙ none)))
    ]

takes_moved : {front stem at left key : List ℕ} {value : Option (List ℕ)} {lines : ℕ} → front ≡ stem → at ≡ left
    → TakesEntry (front ++ at) key value lines at → TakesEntry (stem ++ left) key value lines left
takes_moved front_is at_is takes = rw (front_is, at_is) at takes

part_made : (h : Held) (blanks bytes rest : List ℕ) (is_line : Bool) → AreBlank blanks → bytes ≢ []
    → IsMade h blanks bytes rest is_line
    → (part : Part) × (part_bytes part ≡ bytes) × IsPart part rest × IsPartOf h blanks bytes rest is_line part
part_made (held.Header section) blanks bytes rest is_line all some h =
    (cut.header blanks (section_of section) h.inner, sym h.joined, (all, h.header rest), (h.inner, refl))
part_made (held.Entry parts) blanks bytes rest is_line all some e =
    let key = parts.key.now in
    let value = value_of parts.value in
    let b = behind e.takes in
    let between = b.between in
    let front_is : e.front ≡ key ++ (between ++ value_bytes value) =
    append_cancel_right e.front (key ++ (between ++ value_bytes value)) parts.rest.now b.joined in (
      cut.entry blanks key between value e.tail is_line,
      sym (e.joined ∙ ap (λ f. blanks ++ (f ++ e.tail)) front_is),
      (
        all,
        rw front_is at (front_letter e.front (rw e.left at e.begins) e.is_tail),
        (parts.lines, takes_moved front_is e.left e.takes),
        e.is_tail,
      ),
      (between, e.tail, refl, e.left),
    )
part_made held.Nothing blanks bytes rest is_line all some (t, none) =
    (cut.line bytes is_line, refl, (some, t), refl)
part_made held.Comment blanks bytes rest is_line all some (t, has) =
    (cut.line bytes is_line, refl, (some, t), refl)

-- a piece is a part
pub part_of : {text : List ℕ} (piece : Piece) → piece.bytes.now ≢ [] → IsPiece text piece
    → (part : Part) × (part_bytes part ≡ piece.bytes.now) × IsPart part piece.rest.now
    × IsPartOf piece.held piece.blanks.now piece.bytes.now piece.rest.now piece.is_line part
part_of piece some is = part_made piece.held _ _ _ piece.is_line is.blank some is.made

pub no_part : (before : List Part) (part : Part) → [] ≡ before ++ part ∷ [] → ⊥
no_part [] part e = cc
no_part (first ∷ before) part e = cc

pub same_last : (before also : List Part) (part other : Part) → before ++ part ∷ [] ≡ also ++ other ∷ []
    → (before ≡ also) × (part ≡ other)
same_last [] [] part other e = (refl, cc)
same_last [] (y ∷ []) part other e = absurd (cc)
same_last [] (y ∷ (z ∷ also)) part other e = absurd (cc)
same_last (x ∷ []) [] part other e = absurd (cc)
same_last (x ∷ (z ∷ before)) [] part other e = absurd (cc)
same_last (x ∷ before) (y ∷ also) part other e =
    let heads : x ≡ y = cc in
    let tails : before ++ part ∷ [] ≡ also ++ other ∷ [] = cc in
    let (befores, parts) = same_last before also part other tails in
    (cc, parts)

-- what each part becomes is determined, if this is so of one
pub one_each : {May : List Part → Part → List ℕ → Type 0} {parts also : List Part} {a b : List ℕ}
    → ((before : List Part) (part : Part) (put other : List ℕ) → May before part put → May before part other
    → put ≡ other)
    → EachBecomes May parts a → EachBecomes May also b → parts ≡ also → a ≡ b
one_each one cut.none cut.none e = refl
one_each one cut.none (cut.next {before = before} part put h may) e = absurd (no_part before part e)
one_each one (cut.next {before = before} part put h may) cut.none e = absurd (no_part before part (sym e))
one_each {May = May} one (cut.next {before = before} part put h may)
    (cut.next {before = also} other now k too) e =
    let (befores, parts) = same_last before also part other e in
    let news = one_each one h k befores in
    let puts = one before part put now may (rw (← befores, ← parts) at too) in
    cc
