-- Texts that end in a line end, and how many LFs they have.
use Rattle.std.proofs.Common.{◌≡◌, ◌≢◌, ℕ, ◌+◌, Bool, true, false, cond, List, [], ◌∷◌, ◌++◌, refl, sym, ap}
use Rattle.std.proofs.Common.{◌∙◌, arith, inl, inr, ◌⊎◌, ◌==◌}
use Rattle.std.specs.List.{list_all}
use Rattle.std.proofs.lemmas.List.Sums.{sum_by-cons, sum_by-append}
use Rattle.std.proofs.lemmas.Bool.{true≢false}
use Rattle.std.proofs.lemmas.Bool.Decides.{nat_tests}
use Rattle.config_file.specs.Bytes.{is_comment_byte}
use Rattle.config_file.specs.Runs.{Run}
use Rattle.config_file.specs.Value.{Ending, Spells, ends_outside, ends_inside, ends_at_backslash, quote}
use Rattle.config_file.specs.Value.{escaped, continued, continued_after_return, blank, plain, line_feeds}
use Rattle.config_file.specs.Spelling.{is_continued, HasLineEnd, EndsLine}
use Rattle.config_file.proofs.Pick.{equal, test_false}
use Rattle.config_file.proofs.Spelled.{blank_inner, plain_inner}

-- how many LFs a text has, by its parts
pub line_feeds_append : (xs ys : List ℕ) → line_feeds (xs ++ ys) ≡ line_feeds xs + line_feeds ys
line_feeds_append xs ys = sum_by-append (λ b. cond (b == 10) 1 0) xs ys

line_feeds_other : (b : ℕ) (text : List ℕ) → is_comment_byte b ≡ true
    → line_feeds (b ∷ text) ≡ line_feeds text
line_feeds_other b text other =
    let no : (b == 10) ≡ false = grind (arith, nat_tests) in
    let e = sum_by-cons (λ c. cond (c == 10) 1 0) b text in
    e ∙ rw no (omega arith)

pub line_feeds_more : (b : ℕ) (text : List ℕ) → b ≡ 10 → line_feeds (b ∷ text) ≡ 1 + line_feeds text
line_feeds_more b text is = rw is (sum_by-cons (λ c. cond (c == 10) 1 0) 10 text)

pub line_feeds_none : (text : List ℕ) → list_all is_comment_byte text ≡ true → line_feeds text ≡ 0
line_feeds_none [] all = refl
line_feeds_none (b ∷ text) all =
    let first : is_comment_byte b ≡ true = grind (arith, nat_tests) in
    let others : list_all is_comment_byte text ≡ true = grind (arith, nat_tests) in
    line_feeds_other b text first ∙ line_feeds_none text others

pub line_feeds_after : {text : List ℕ} (front rest : List ℕ) → text ≡ front ++ rest
    → list_all is_comment_byte front ≡ true → line_feeds text ≡ line_feeds rest
line_feeds_after front rest joined all =
    let e = line_feeds_append front rest in let f = line_feeds_none front all in rw joined (omega arith)

-- the bytes before the first LF have none
pub line_feeds_next : {text front rest after : List ℕ} (b : ℕ) → Run is_comment_byte text front rest
    → rest ≡ b ∷ after → line_feeds text ≡ 1 + line_feeds after
line_feeds_next {front = front} {rest = rest} {after = after} b run is =
    let stops : is_comment_byte b ≡ false = rw is at run.longest in
    let feed : b ≡ 10 = grind (arith, nat_tests) in
    line_feeds_after front rest run.joined run.pass ∙ ap line_feeds is ∙ line_feeds_more b after feed

pub all_more : (p q : ℕ → Bool) → ((b : ℕ) → p b ≡ true → q b ≡ true) → (xs : List ℕ) → list_all p xs ≡ true
    → list_all q xs ≡ true
all_more p q more [] all = refl
all_more p q more (b ∷ xs) all =
    let first : p b ≡ true = grind (arith, nat_tests) in
    let others : list_all p xs ≡ true = grind (arith, nat_tests) in
    rw (more b first, all_more p q more xs others)

pub not_none : (front rest : List ℕ) (b : ℕ) → front ++ b ∷ rest ≡ [] → ⊥
not_none [] rest b e = cc
not_none (x ∷ front) rest b e = cc

pub rest_none : (front rest : List ℕ) → front ++ rest ≡ [] → rest ≡ []
rest_none [] rest e = e
rest_none (x ∷ front) rest e = cc

-- lines that are continued
pub continued_tail : (a : ℕ) (line : List ℕ) → a ≢ 92 → is_continued (a ∷ line) ≡ is_continued line
continued_tail a [] other = grind (arith, nat_tests)
continued_tail a (b ∷ []) other = rw (test_false a 92 other)
continued_tail a (b ∷ c ∷ line) other = rw (test_false a 92 other)

continued_pair : (a e : ℕ) (line : List ℕ) → a ≡ 92 → is_continued (a ∷ e ∷ line) ≡ false
    → is_continued line ≡ false
continued_pair a e [] is h = refl
continued_pair a e (c ∷ line) is h = rw is at h

continued_after_front : (front : List ℕ) (b : ℕ) (line : List ℕ) → b ≢ 92
    → is_continued (front ++ b ∷ line) ≡ false → is_continued line ≡ false
continued_after_front [] b line other h = sym (continued_tail b line other) ∙ h
continued_after_front (x ∷ []) b line other h =
    elim (equal x 92) [
      | inl is ↦ continued_pair x b line is h
      | inr no_escape ↦ sym (continued_tail b line other) ∙ sym (continued_tail x (b ∷ line) no_escape) ∙ h
    ]
continued_after_front (x ∷ y ∷ front) b line other h =
    elim (equal x 92) [
      | inl is ↦ continued_after_front front b line other (continued_pair x y (front ++ b ∷ line) is h)
      | inr no_escape ↦
          continued_after_front (y ∷ front) b line other (sym (continued_tail x (y ∷ (front ++ b ∷ line)) no_escape) ∙ h)
    ]

pair_before : (a e : ℕ) (line : List ℕ) → line ≢ [] → a ≡ 92 → is_continued (a ∷ e ∷ line) ≡ is_continued line
pair_before a e [] some is = absurd (some refl)
pair_before a e (c ∷ line) some is = rw is refl

pub continued_by_last : (front : List ℕ) (b : ℕ) (line : List ℕ) → b ≢ 92 → b ≢ 13
    → is_continued (b ∷ line) ≡ false → is_continued (front ++ b ∷ line) ≡ false
continued_by_last [] b line other no_return h = h
continued_by_last (x ∷ []) b [] other no_return h =
    elim (equal x 92) [
      | inl is ↦ rw (is, test_false b 13 no_return)
      | inr no_escape ↦ rw (test_false x 92 no_escape, test_false b 92 other)
    ]
continued_by_last (x ∷ []) b (c ∷ line) other no_return h =
    elim (equal x 92) [
      | inl is ↦ rw is (sym (continued_tail b (c ∷ line) other) ∙ h)
      | inr no_escape ↦ rw (test_false x 92 no_escape) h
    ]
continued_by_last (x ∷ y ∷ front) b line other no_return h =
    elim (equal x 92) [
      | inl is ↦
          pair_before x y (front ++ b ∷ line) (not_none front line b) is
          ∙ continued_by_last front b line other no_return h
      | inr no_escape ↦
          continued_tail x (y ∷ (front ++ b ∷ line)) no_escape ∙ continued_by_last (y ∷ front) b line other no_return h
    ]

pub pair_continued : (letter : ℕ) (line : List ℕ) → letter ≢ 13
    → is_continued (92 ∷ letter ∷ line) ≡ is_continued line
pair_continued letter [] no_return = grind (arith, nat_tests)
pair_continued letter (c ∷ line) no_return = refl

-- a text that ends in LF, split after these first bytes and one more byte
splits : (front : List ℕ) (b : ℕ) (rest line : List ℕ) → front ++ b ∷ rest ≡ line ++ 10 ∷ []
    → ((rest ≡ []) × (b ≡ 10) × (line ≡ front))
    ⊎ ((more : List ℕ) × (rest ≡ more ++ 10 ∷ []) × (line ≡ front ++ b ∷ more))
splits [] b rest [] e = inl (cc, cc, refl)
splits [] b rest (x ∷ line) e = inr (line, cc, cc)
splits (f ∷ front) b rest [] e = let none : front ++ b ∷ rest ≡ [] = cc in absurd (not_none front rest b none)
splits (f ∷ front) b rest (x ∷ line) e =
    let tails : front ++ b ∷ rest ≡ line ++ 10 ∷ [] = cc in
    let same : x ≡ f = cc in
    elim (splits front b rest line tails) [
      | inl p ↦ inl (p.0, p.1, rw (same, p.2))
      | inr p ↦ inr (p.0, p.1, rw (same, p.2))
    ]

pub after_front : {text : List ℕ} (front : List ℕ) (b : ℕ) (rest : List ℕ) → b ≢ 92
    → text ≡ front ++ b ∷ rest → HasLineEnd text → ((rest ≡ []) × (b ≡ 10)) ⊎ HasLineEnd rest
after_front front b rest other joined h =
    elim (splits front b rest h.line (sym joined ∙ h.joined)) [
      | inl p ↦ inl (p.0, p.1)
      | inr p ↦
          let whole : is_continued (front ++ b ∷ p.0) ≡ false = rw p.2 at h.not_continued in
          inr (record { line = p.0; joined = p.1; not_continued = continued_after_front front b p.0 other whole })
    ]

pub tail_or_last : (b : ℕ) (rest : List ℕ) → b ≢ 92 → HasLineEnd (b ∷ rest)
    → ((rest ≡ []) × (b ≡ 10)) ⊎ HasLineEnd rest
tail_or_last b rest other h = after_front [] b rest other refl h

after_pair : (b e : ℕ) (rest : List ℕ) → b ≡ 92 → HasLineEnd (b ∷ e ∷ rest) → HasLineEnd rest
after_pair b e rest is h =
    elim (splits (b ∷ []) e rest h.line h.joined) [
      | inl p ↦ let yes : true ≡ false = rw (p.2, is) at h.not_continued in absurd (true≢false yes)
      | inr p ↦
          let left = continued_pair b e p.0 is (rw p.2 at h.not_continued) in
          record { line = p.0; joined = p.1; not_continued = left }
    ]

cons_end : (b : ℕ) (rest : List ℕ) → b ≢ 92 → ((rest ≡ []) × (b ≡ 10)) ⊎ HasLineEnd rest
    → HasLineEnd (b ∷ rest)
cons_end b rest other (inl p) = record { line = []; joined = rw (p.0, p.1); not_continued = refl }
cons_end b rest other (inr h) =
    record { line = b ∷ h.line; joined = ap (◌∷◌ b) h.joined; not_continued = continued_tail b h.line other ∙ h.not_continued }

pub ends_at_byte : {text : List ℕ} (front : List ℕ) (b : ℕ) (rest : List ℕ) → b ≢ 92
    → text ≡ front ++ b ∷ rest → HasLineEnd text → HasLineEnd (b ∷ rest)
ends_at_byte front b rest other joined h = cons_end b rest other (after_front front b rest other joined h)

pub ends_line : {b : ℕ} {rest : List ℕ} → ((rest ≡ []) × (b ≡ 10)) ⊎ HasLineEnd rest → EndsLine rest
ends_line (inl p) = inl p.0
ends_line (inr h) = inr h

pub has_end : (b : ℕ) (rest : List ℕ) → EndsLine (b ∷ rest) → HasLineEnd (b ∷ rest)
has_end b rest (inl e) = cc
has_end b rest (inr h) = h

none_ends : HasLineEnd [] → ⊥
none_ends h = not_none h.line [] 10 (sym h.joined)

line_feed_is_last : (line : List ℕ) → list_all is_comment_byte (line ++ 10 ∷ []) ≡ false
line_feed_is_last [] = refl
line_feed_is_last (b ∷ line) = let more = line_feed_is_last line in grind (arith, nat_tests)

pub no_line_end : (text : List ℕ) → list_all is_comment_byte text ≡ true → HasLineEnd text → ⊥
no_line_end text all h =
    true≢false (sym all ∙ ap (list_all is_comment_byte) h.joined ∙ line_feed_is_last h.line)

one_end : (b : ℕ) (line : List ℕ) → b ∷ [] ≡ line ++ 10 ∷ [] → b ≡ 10
one_end b [] e = cc
one_end b (x ∷ line) e = let none : line ++ 10 ∷ [] ≡ [] = cc in absurd (not_none line [] 10 none)

return_end : (b e f : ℕ) (line : List ℕ) → b ∷ e ∷ f ∷ [] ≡ line ++ 10 ∷ [] → is_continued line ≡ false
    → b ≡ 92 → e ≡ 13 → ⊥
return_end b e f line joined h is next =
    elim (splits (b ∷ e ∷ []) f [] line joined) [
      | inl p ↦ let yes : true ≡ false = rw (p.2, is, next) at h in true≢false yes
      | inr p ↦ not_none p.0 [] 10 (sym p.1)
    ]

byte_has_no_end : (b : ℕ) (raw : List ℕ) → (b ≢ 92) × (b ≢ 10) → (HasLineEnd raw → ⊥)
    → HasLineEnd (b ∷ raw) → ⊥
byte_has_no_end b raw (no_backslash, no_line_feed) more h =
    elim (tail_or_last b raw no_backslash h) [ inl p ↦ no_line_feed p.1 | inr k ↦ more k ]

-- the bytes of a value do not end in an LF over which they are not continued
pub value_has_no_end : {w : ℕ → ℕ} {q : Bool} {value held raw text : List ℕ} {ending : Ending}
    → Spells w q value held raw text ending → HasLineEnd raw → ⊥
value_has_no_end ends_outside h = none_ends h
value_has_no_end ends_inside h = none_ends h
value_has_no_end (ends_at_backslash {b = b} is) h = let e = one_end b h.line h.joined in omega arith
value_has_no_end (quote {b = b} {raw = raw} is s) h =
    byte_has_no_end b raw (omega arith) (λ k. value_has_no_end s k) h
value_has_no_end (escaped {b = b} {e = e} {raw = raw} is l s) h = value_has_no_end s (after_pair b e raw is h)
value_has_no_end (continued {b = b} {e = e} {raw = raw} is l s) h =
    value_has_no_end s (after_pair b e raw is h)
value_has_no_end (continued_after_return {b = b} {e = e} {f = f} {raw = raw} is l n s) h =
    elim (tail_or_last f raw (omega arith) (after_pair b e (f ∷ raw) is h)) [
      | inl p ↦ return_end b e f h.line (ap (λ r. b ∷ e ∷ f ∷ r) (sym p.0) ∙ h.joined) h.not_continued is l
      | inr k ↦ value_has_no_end s k
    ]
value_has_no_end (blank {b = b} {raw = raw} is s) h =
    let other = blank_inner b is in byte_has_no_end b raw (other.3, other.1) (λ k. value_has_no_end s k) h
value_has_no_end (plain {quoted = q} {b = b} {raw = raw} is s) h =
    let other = plain_inner q b is in byte_has_no_end b raw (other.3, other.1) (λ k. value_has_no_end s k) h
