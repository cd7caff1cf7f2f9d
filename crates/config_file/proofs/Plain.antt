-- A value whose text is a slice of its bytes.
use Rattle.std.proofs.Common.{◌≡◌, ◌≢◌, ℕ, ◌-◌, true, false, not, inl, inr, List, [], ◌∷◌, ◌++◌, length, take, reverse}
use Rattle.std.proofs.Common.{refl, sym, ap, ◌∙◌, subst, arith, append_assoc, append-nil, length-append}
use Rattle.std.proofs.Math.Seq.{take-append_seam}
use Rattle.std.proofs.lemmas.Bool.{true≢false, and_parts, eq-eqb, cond-true}
use Rattle.std.proofs.lemmas.Bool.Decides.{nat_tests}
use Rattle.std.proofs.lemmas.List.{reverse-append, length-reverse}
use Rattle.std.proofs.lemmas.List.Folds.{list_all-append, prefix_len-append}
use Rattle.std.proofs.lemmas.List.Elements.{Contains-append_right}
use Rattle.std.specs.List.{list_all, prefix_len, Contains}
use Rattle.config_file.proofs.Pick.{cases}
use Rattle.config_file.proofs.Spelled.{after_held, after_blanks, after_plain}
use Rattle.config_file.specs.Bytes.{is_blank}
use Rattle.config_file.specs.Runs.{Run, StopsRun}
use Rattle.config_file.specs.Value.{Ending, Spells, SpellsValue, itself, ends_outside, kept}
use Rattle.config_file.specs.Reading.Scans.{is_plain_byte, is_unmarked}

-- After the first blanks of a value, its text so far has been passed, and then a gap of blanks.
record PassedPlain (raw start at : List ℕ) : Type 0 where
  front : List ℕ
  gap : List ℕ
  joined : start ≡ (front ++ gap) ++ at
  ends : StopsRun is_blank (reverse front)
  begins : StopsRun is_blank start
  blanks : list_all is_blank gap ≡ true
  spells : (spelled : List ℕ) (ending : Ending) → SpellsValue raw spelled ending
      → (o : Ending) × (held : List ℕ) × (front ≢ [] → held ≡ gap) × Spells itself false front held at spelled o

passed_start : {raw blanks start : List ℕ} → Run is_blank raw blanks start → PassedPlain raw start start
passed_start {raw = raw} {blanks = blanks} {start = start} run =
    record {
      front = [];
      gap = [];
      joined = refl;
      ends = tt;
      begins = run.longest;
      blanks = refl;
      spells = λ spelled ending s.
          let more = after_blanks [] blanks start run.pass (rw run.joined at s) in
          (ending, blanks, (λ some. absurd (some refl)), more);
    }

passed_blank : {raw start rest : List ℕ} (b : ℕ) → PassedPlain raw start (b ∷ rest) → is_blank b ≡ true
    → PassedPlain raw start rest
passed_blank b passed is =
    record {
      front = passed.front;
      gap = passed.gap ++ b ∷ [];
      joined = passed.joined ∙ simp append_assoc;
      ends = passed.ends;
      begins = passed.begins;
      blanks = rw (list_all-append is_blank passed.gap (b ∷ []), passed.blanks, is) refl;
      spells = λ spelled ending s.
          let (o, held, same, more) = passed.spells spelled ending s in
          (o, held ++ b ∷ [], (λ some. ap (λ x. x ++ b ∷ []) (same some)), after_held more is);
    }

kept_is : (front gap start at held : List ℕ) → StopsRun is_blank start → start ≡ (front ++ gap) ++ at
    → list_all is_blank gap ≡ true
    → (front ≢ [] → held ≡ gap) → kept front held ≡ front ++ gap
kept_is [] [] start at held begins joined blanks same = refl
kept_is [] (g ∷ gap) start at held begins joined blanks same =
    let stops : is_blank g ≡ false = subst (λ x. StopsRun is_blank x) joined begins in
    absurd (true≢false (sym ((and_parts (is_blank g) (list_all is_blank gap) blanks).0) ∙ stops))
kept_is (f ∷ front) gap start at held begins joined blanks same = ap (◌++◌ (f ∷ front)) (same (λ none. cc))

passed_text : {raw start rest : List ℕ} (b : ℕ) → PassedPlain raw start (b ∷ rest) → is_blank b ≡ false
    → b ≢ 34 → b ≢ 92 → PassedPlain raw start rest
passed_text {start = start} {rest = rest} b passed is not_quote not_backslash =
    record {
      front = (passed.front ++ passed.gap) ++ b ∷ [];
      gap = [];
      joined = passed.joined ∙ simp (append_assoc, append-nil);
      ends = subst (λ x. StopsRun is_blank x) (sym (reverse-append (passed.front ++ passed.gap) (b ∷ []))) is;
      begins = passed.begins;
      blanks = refl;
      spells = λ spelled ending s.
          let (o, held, same, more) = passed.spells spelled ending s in
          let text =
          kept_is passed.front passed.gap start (b ∷ rest) held passed.begins passed.joined passed.blanks same in
          let next = after_plain more is not_quote not_backslash in
          (o, [], (λ some. refl), rw text at next);
    }

no_quote : (b : ℕ) → is_unmarked b ≡ true → b ≢ 34
no_quote b is = grind (arith, nat_tests)

no_backslash : (b : ℕ) → is_unmarked b ≡ true → b ≢ 92
no_backslash b is = grind (arith, nat_tests)

passed_all : {raw start : List ℕ} (at : List ℕ) → PassedPlain raw start at → list_all is_unmarked at ≡ true
    → PassedPlain raw start []
passed_all [] passed all = passed
passed_all (b ∷ rest) passed all =
    let (here, more) = and_parts (is_unmarked b) (list_all is_unmarked rest) all in
    elim (cases (is_blank b)) [
      | inl is ↦ passed_all rest (passed_blank b passed is) more
      | inr not ↦ passed_all rest (passed_text b passed not (no_quote b here) (no_backslash b here)) more
    ]

-- how many blanks end a text before a gap of blanks, if none ends what comes before it
all_blank : (gap : List ℕ) → list_all is_blank gap ≡ true → prefix_len is_blank gap ≡ length gap
all_blank [] all = refl
all_blank (b ∷ gap) all =
    let (here, more) = and_parts (is_blank b) (list_all is_blank gap) all in
    rw here (omega (arith, all_blank gap more))

no_blank : (front : List ℕ) → StopsRun is_blank front → prefix_len is_blank front ≡ 0
no_blank [] stops = refl
no_blank (b ∷ front) stops = rw stops refl

turned : (gap : List ℕ) → list_all is_blank gap ≡ true → list_all is_blank (reverse gap) ≡ true
turned [] all = refl
turned (b ∷ gap) all =
    let (here, more) = and_parts (is_blank b) (list_all is_blank gap) all in
    rw (reverse-append (b ∷ []) gap, list_all-append is_blank (reverse gap) (b ∷ []), turned gap more, here) refl

gap_length : (front gap : List ℕ) → StopsRun is_blank (reverse front) → list_all is_blank gap ≡ true
    → prefix_len is_blank (reverse (front ++ gap)) ≡ length gap
gap_length front gap stops blanks =
    let whole = all_blank (reverse gap) (turned gap blanks) in
    ap (prefix_len is_blank) (reverse-append front gap) ∙ prefix_len-append is_blank (reverse gap) (reverse front)
    ∙ cond-true _ _ _ (eq-eqb _ _ whole)
    ∙ omega (arith, whole, length-reverse gap, no_blank (reverse front) stops)

spelled_is : {value held spelled : List ℕ} {o : Ending} → Spells itself false value held [] spelled o → spelled ≡ value
spelled_is ends_outside = refl

-- the text of a value without quotes and backslashes is what stands between its first and its last blanks
pub between_blanks : {raw blanks start spelled : List ℕ} {ending : Ending} → Run is_blank raw blanks start
    → list_all is_unmarked start ≡ true → SpellsValue raw spelled ending
    → take (length start - prefix_len is_blank (reverse start)) start ≡ spelled
between_blanks {start = start} {spelled = spelled} {ending = ending} run all s =
    let passed = passed_all start (passed_start run) all in
    let (o, held, same, more) = passed.spells spelled ending s in
    let whole : start ≡ passed.front ++ passed.gap = passed.joined ∙ append-nil (passed.front ++ passed.gap) in
    let count : length start - prefix_len is_blank (reverse start) ≡ length passed.front =
    omega (arith, ap length whole, length-append passed.front passed.gap, ap (λ x. prefix_len is_blank (reverse x)) whole, gap_length passed.front passed.gap passed.ends passed.blanks) in
    ap (λ n. take n start) count ∙ ap (take (length passed.front)) whole
    ∙ take-append_seam passed.front passed.gap ∙ sym (spelled_is more)

pub plain_is_unmarked : (front : List ℕ) → list_all is_plain_byte front ≡ true → list_all is_unmarked front ≡ true
plain_is_unmarked [] all = refl
plain_is_unmarked (b ∷ front) all =
    let (here, more) = and_parts (is_plain_byte b) (list_all is_plain_byte front) all in
    let is : is_unmarked b ≡ true = grind (arith, nat_tests) in
    rw (is, plain_is_unmarked front more) refl

-- a text has no mark if what follows its plain bytes has none
pub unmarked_behind : (front rest : List ℕ) → list_all is_plain_byte front ≡ true
    → list_all is_unmarked rest ≡ list_all is_unmarked (front ++ rest)
unmarked_behind front rest all = rw (list_all-append is_unmarked front rest, plain_is_unmarked front all) refl

is_unmarked_byte : (b : ℕ) → b ≢ 34 → b ≢ 92 → is_unmarked b ≡ true
is_unmarked_byte b not_quote not_backslash = grind (arith, nat_tests)

pub unmarked_text : (text : List ℕ) → ¬ (Contains text 34) → ¬ (Contains text 92) → list_all is_unmarked text ≡ true
unmarked_text [] no_quote no_backslash = refl
unmarked_text (b ∷ text) no_quote no_backslash =
    let first : Contains (b ∷ text) b = (0, omega arith, refl) in
    let here = is_unmarked_byte b (λ is. no_quote (subst (Contains (b ∷ text)) is first)) (λ is. no_backslash (subst (Contains (b ∷ text)) is first)) in
    let more = unmarked_text text (λ has. no_quote (Contains-append_right (b ∷ []) text 34 has))
    (λ has. no_backslash (Contains-append_right (b ∷ []) text 92 has)) in
    rw (here, more) refl

pub unmarked_after : {text : List ℕ} (front rest : List ℕ) → text ≡ front ++ rest → list_all is_unmarked text ≡ true
    → list_all is_unmarked rest ≡ true
unmarked_after front rest joined all =
    (and_parts (list_all is_unmarked front) (list_all is_unmarked rest)
    (rw (joined, list_all-append is_unmarked front rest) at all)).1
