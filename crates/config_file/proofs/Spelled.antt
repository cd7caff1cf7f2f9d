-- The text that the bytes of a value or of a subsection spell, piece by piece.
use Rattle.std.proofs.Common.{◌≡◌, ◌≢◌, ℕ, ◌⊎◌, inl, inr, Bool, true, false, not, List, [], ◌∷◌, ◌++◌, Option}
use Rattle.std.proofs.Common.{sym, ap, refl, ◌∙◌, subst, arith, append_assoc, append-nil}
use Rattle.std.specs.List.{list_all}
use Rattle.std.proofs.lemmas.Bool.{true≢false, and_parts}
use Rattle.std.proofs.lemmas.Bool.Decides.{nat_tests}
use Rattle.config_file.specs.Bytes.{is_blank, is_plain, is_plain_in_quotes}
use Rattle.config_file.specs.Runs.{Run, StopsRun}
use Rattle.config_file.specs.Subsection.{SpellsSubsection}
use Rattle.config_file.specs.Subsection as subsections
use Rattle.config_file.specs.Value.{Ending, outside, Spells, itself, ends_outside, ends_at_backslash, quote}
use Rattle.config_file.specs.Value.{escaped, continued, continued_after_return, blank, plain, kept}
use Rattle.config_file.specs.Reading.Scans.{is_held_back, is_unescaped, spells_itself, unescape, append_some}

-- what a blank, and a byte that spells itself, are not
abbrev pub IsInner : ℕ → Type 0
IsInner b = (b ≢ 0) × (b ≢ 10) × (b ≢ 34) × (b ≢ 92)

pub blank_inner : (b : ℕ) → is_blank b ≡ true → IsInner b
blank_inner b is =
    (grind (arith, nat_tests), grind (arith, nat_tests), grind (arith, nat_tests), grind (arith, nat_tests))

quoted_inner : (b : ℕ) → is_plain_in_quotes b ≡ true → IsInner b
quoted_inner b is =
    (grind (arith, nat_tests), grind (arith, nat_tests), grind (arith, nat_tests), grind (arith, nat_tests))

pub plain_inner : (q : Bool) (b : ℕ) → is_plain q b ≡ true → IsInner b
plain_inner true b is = quoted_inner b is
plain_inner false b is = quoted_inner b (and_parts (is_plain_in_quotes b) _ is).0

plain_is_not_held : (q : Bool) (b : ℕ) → is_plain q b ≡ true → is_held_back q b ≡ true → ⊥
plain_is_not_held true b is held = grind (arith, nat_tests)
plain_is_not_held false b is held = grind (arith, nat_tests)

held_inner : (q : Bool) (b : ℕ) → is_held_back q b ≡ true → IsInner b
held_inner true b held = absurd (true≢false (sym held))
held_inner false b held = blank_inner b held

pub after_held : {w : ℕ → ℕ} {q : Bool} {o : Ending} {b : ℕ} {value held rest spelled : List ℕ}
    → Spells w q value held (b ∷ rest) spelled o → is_held_back q b ≡ true
    → Spells w q value (held ++ w b ∷ []) rest spelled o
after_held (ends_at_backslash {b = b} e) is = absurd ((held_inner false b is).3 e)
after_held (quote {quoted = q} {b = b} e s) is = absurd ((held_inner q b is).2 e)
after_held (escaped {quoted = q} {b = b} e l s) is = absurd ((held_inner q b is).3 e)
after_held (continued {quoted = q} {b = b} e l s) is = absurd ((held_inner q b is).3 e)
after_held (continued_after_return {quoted = q} {b = b} e l n s) is = absurd ((held_inner q b is).3 e)
after_held (blank e s) is = s
after_held (plain {quoted = q} {b = b} e s) is = absurd (plain_is_not_held q b e is)

after_quote : {w : ℕ → ℕ} {q : Bool} {o : Ending} {b : ℕ} {value held rest spelled : List ℕ}
    → Spells w q value held (b ∷ rest) spelled o → b ≡ 34
    → Spells w (not q) (kept value held) [] rest spelled o
after_quote (ends_at_backslash e) is = absurd (omega arith)
after_quote (quote e s) is = s
after_quote (escaped e l s) is = absurd (omega arith)
after_quote (continued e l s) is = absurd (omega arith)
after_quote (continued_after_return e l n s) is = absurd (omega arith)
after_quote (blank {b = b} e s) is = absurd ((blank_inner b e).2 is)
after_quote (plain {quoted = q} {b = b} e s) is = absurd ((plain_inner q b e).2 is)

pub after_plain : {w : ℕ → ℕ} {q : Bool} {o : Ending} {b : ℕ} {value held rest spelled : List ℕ}
    → Spells w q value held (b ∷ rest) spelled o → is_held_back q b ≡ false → b ≢ 34 → b ≢ 92
    → Spells w q (kept value held ++ b ∷ []) [] rest spelled o
after_plain (ends_at_backslash e) is not_quote not_backslash = absurd (not_backslash e)
after_plain (quote e s) is not_quote not_backslash = absurd (not_quote e)
after_plain (escaped e l s) is not_quote not_backslash = absurd (not_backslash e)
after_plain (continued e l s) is not_quote not_backslash = absurd (not_backslash e)
after_plain (continued_after_return e l n s) is not_quote not_backslash = absurd (not_backslash e)
after_plain (blank e s) is not_quote not_backslash = absurd (true≢false (sym e ∙ is))
after_plain (plain e s) is not_quote not_backslash = s

after_backslash : {w : ℕ → ℕ} {q : Bool} {o : Ending} {b : ℕ} {value held rest spelled : List ℕ}
    → Spells w q value held (b ∷ rest) spelled o → b ≡ 92
    → (ending : Ending) × Spells w q (append_some (kept value held) (unescape rest).0) [] (unescape rest).1 spelled ending
after_backslash (ends_at_backslash e) is = (outside, ends_outside)
after_backslash (quote e s) is = absurd (omega arith)
after_backslash {o = o} (escaped e l s) is = (o, rw l s)
after_backslash {o = o} (continued e l s) is = (o, rw l s)
after_backslash {o = o} (continued_after_return e l n s) is = (o, rw l s)
after_backslash (blank {b = b} e s) is = absurd ((blank_inner b e).3 is)
after_backslash (plain {quoted = q} {b = b} e s) is = absurd ((plain_inner q b e).3 is)

-- a run of blanks outside quotes is held back
pub after_blanks : {value spelled : List ℕ} {e : Ending} (held blanks rest : List ℕ)
    → list_all is_blank blanks ≡ true
    → Spells itself false value held (blanks ++ rest) spelled e
    → Spells itself false value (held ++ blanks) rest spelled e
after_blanks held [] rest all s = rw append-nil s
after_blanks held (b ∷ blanks) rest all s =
    let (here, more) = and_parts (is_blank b) (list_all is_blank blanks) all in
    rw (← append_assoc held (b ∷ []) blanks)
    (after_blanks (held ++ b ∷ []) blanks rest more (after_held s here))

-- a run of blanks is held back where none was held before it, since a longest run precedes no blank
pub blanks_next : {q : Bool} {b : ℕ} {value held blanks rest after spelled : List ℕ} {o : Ending} (at : List ℕ) → at ≡ b ∷ rest
    → is_held_back q b ≡ true → (held ≡ []) ⊎ StopsRun is_blank at → Run is_blank at blanks after
    → Spells itself q value held at spelled o → Spells itself q value blanks after spelled o
blanks_next {q = true} at e is fresh run s = cc
blanks_next {q = false} {blanks = blanks} {after = after} at e is (inl none) run s =
    after_blanks [] blanks after run.pass (rw (none, run.joined) at s)
blanks_next {q = false} {b = b} at e is (inr stops) run s =
    absurd (true≢false (sym is ∙ subst (λ x. StopsRun is_blank x) e stops))

pub kept_none : (value : List ℕ) → kept value [] ≡ value
kept_none [] = refl
kept_none (b ∷ value) = append-nil (b ∷ value)

own_not_held : (q : Bool) (b : ℕ) → spells_itself q b ≡ true → is_held_back q b ≡ false
own_not_held true b is = refl
own_not_held false b is = grind (arith, nat_tests)

own_no_quote : (q : Bool) (b : ℕ) → spells_itself q b ≡ true → b ≢ 34
own_no_quote true b is e = grind (arith, nat_tests)
own_no_quote false b is e = grind (arith, nat_tests)

own_no_backslash : (q : Bool) (b : ℕ) → spells_itself q b ≡ true → b ≢ 92
own_no_backslash true b is e = grind (arith, nat_tests)
own_no_backslash false b is e = grind (arith, nat_tests)

-- a run of bytes that spell themselves is appended
after_own : {w : ℕ → ℕ} {q : Bool} {o : Ending} {spelled : List ℕ} (value word rest : List ℕ)
    → list_all (spells_itself q) word ≡ true
    → Spells w q value [] (word ++ rest) spelled o → Spells w q (value ++ word) [] rest spelled o
after_own value [] rest all s = rw append-nil s
after_own {q = q} value (b ∷ word) rest all s =
    let (here, more) = and_parts (spells_itself q b) (list_all (spells_itself q) word) all in
    let next = after_plain s (own_not_held q b here) (own_no_quote q b here) (own_no_backslash q b here) in
    rw (← append_assoc value (b ∷ []) word)
    (after_own (value ++ b ∷ []) word rest more (rw (kept_none value) at next))

-- the same, in the form that the loop needs
module _ {w : ℕ → ℕ} {q : Bool} {b : ℕ} {value held rest : List ℕ} (at : List ℕ) (e : at ≡ b ∷ rest) where
  pub quote_next : {spelled text : List ℕ} {o : Ending} → b ≡ 34 → text ≡ kept value held
      → Spells w q value held at spelled o
      → (ending : Ending) × Spells w (not q) text [] rest spelled ending
  quote_next {o = o} is same s = (o, rw same (after_quote (rw e at s) is))

  pub plain_next : {spelled kept_text text : List ℕ} {o : Ending} → is_held_back q b ≡ false → b ≢ 34
      → b ≢ 92 → kept_text ≡ kept value held → text ≡ kept_text ++ b ∷ []
      → Spells w q value held at spelled o → (ending : Ending) × Spells w q text [] rest spelled ending
  plain_next {o = o} is not_quote not_backslash same same_text s =
      (o, rw (same_text, same) (after_plain (rw e at s) is not_quote not_backslash))

  pub own_next : {spelled kept_text text longer word after : List ℕ} {o : Ending} → is_held_back q b ≡ false
      → b ≢ 34
      → b ≢ 92 → kept_text ≡ kept value held → text ≡ kept_text ++ b ∷ []
      → Run (spells_itself q) rest word after → longer ≡ text ++ word
      → Spells w q value held at spelled o → (ending : Ending) × Spells w q longer [] after spelled ending
  own_next {spelled = spelled} {text = text} {word = word} {after = after} not_held not_quote not_backslash same same_text run appended s =
      let (ending, more) = plain_next not_held not_quote not_backslash same same_text s in
      (ending, rw appended (after_own text word after run.pass (subst (λ x. Spells w q text [] x spelled ending) run.joined more)))

  pub backslash_next : {spelled kept_text text after : List ℕ} {o : Ending} (escaped_byte : Option ℕ)
      → b ≡ 92 → kept_text ≡ kept value held
      → (escaped_byte, after) ≡ unescape rest → text ≡ append_some kept_text escaped_byte
      → Spells w q value held at spelled o → (ending : Ending) × Spells w q text [] after spelled ending
  backslash_next escaped_byte is same unescaped same_text s =
      let first = ap (λ p. p.0) unescaped in
      let second = ap (λ p. p.1) unescaped in
      let (ending, more) = after_backslash (rw e at s) is in
      (ending, rw (same_text, same, first, second) more)

-- the text that has been appended, followed by what the rest spells, is the whole text
abbrev pub Writes : List ℕ → List ℕ → List ℕ → List ℕ → Type 0
Writes at spelled old new =
    (written : List ℕ) × (more : List ℕ) × SpellsSubsection at more × (spelled ≡ written ++ more) × (new ≡ old ++ written)

escaped_is_not : (b : ℕ) → is_unescaped b ≡ true → b ≡ 92 → ⊥
escaped_is_not b is e = grind (arith, nat_tests)

unescaped_left : {raw spelled : List ℕ} (front rest : List ℕ) → SpellsSubsection raw spelled
    → raw ≡ front ++ rest
    → list_all is_unescaped front ≡ true
    → (more : List ℕ) × SpellsSubsection rest more × (spelled ≡ front ++ more)
unescaped_left {spelled = spelled} [] rest s e all = (spelled, rw e at s, refl)
unescaped_left (b ∷ front) rest subsections.ends e all = cc
unescaped_left (b ∷ front) rest (subsections.escaped {b = c} is text s) e all =
    let same : c ≡ b = cc in
    absurd (escaped_is_not b ((and_parts (is_unescaped b) (list_all is_unescaped front) all).0) (sym same ∙ is))
unescaped_left (b ∷ front) rest (subsections.plain {b = c} {raw = raw} is s) e all =
    let same : c ≡ b = cc in
    let tails : raw ≡ front ++ rest = cc in
    let (more, left, t) =
    unescaped_left front rest s tails ((and_parts (is_unescaped b) (list_all is_unescaped front) all).1) in
    (more, left, rw same (ap (◌∷◌ b) t))

-- the bytes before the first backslash spell themselves
pub writes_unescaped : {raw front rest spelled new : List ℕ} (old : List ℕ) → Run is_unescaped raw front rest
    → new ≡ old ++ front → SpellsSubsection raw spelled → Writes rest spelled old new
writes_unescaped {front = front} {rest = rest} old run appended s =
    let (more, left, e) = unescaped_left front rest s run.joined run.pass in
    (front, more, left, e, appended)
