-- The bytes of a value spell at most one text.
use Rattle.std.proofs.Common.{◌≡◌, ℕ, Bool, true, false, not, ◌==◌, ◌&&◌, List, [], ◌∷◌, ◌++◌, Option, Some, None}
use Rattle.std.proofs.Common.{is_some, refl, sym, ap, ◌∙◌, subst, arith, if◌then◌else◌}
use Rattle.std.proofs.lemmas.Bool.Decides.{nat_tests}
use Rattle.std.proofs.lemmas.Option.{same_Some, none-some}
use Rattle.config_file.specs.Bytes.{is_plain, is_blank}
use Rattle.config_file.specs.Value as value
use Rattle.config_file.specs.Value.{Ending, Spells, escape, itself, kept}
use Rattle.config_file.proofs.Pick.{pick, pick_first}

-- where a scan is: in quotes or not, after this value and these held blanks, and before this rest
abbrev At : Type 0
At = Bool × List ℕ × List ℕ × List ℕ

abbrev FromHere : At → List ℕ → Ending → Type 0
FromHere at text ending = Spells itself at.0 at.1 at.2 at.3 text ending

abbrev step_byte : Bool → List ℕ → List ℕ → ℕ → List ℕ → At
step_byte q v h b rest =
    if is_blank b && not q then (q, v, h ++ b ∷ [], rest) else (q, kept v h ++ b ∷ [], [], rest)

abbrev byte_of : Option ℕ → ℕ
byte_of None = 0
byte_of (Some c) = c

abbrev after_return : Bool → List ℕ → List ℕ → List ℕ → Option At
after_return q v h [] = None
after_return q v h (f ∷ rest) = Some (q, kept v h, [], rest)

abbrev after_backslash : Bool → List ℕ → List ℕ → List ℕ → Option At
after_backslash q v h [] = None
after_backslash q v h (e ∷ rest) =
    pick (is_some (escape e)) (e == 10) (Some (q, kept v h ++ byte_of (escape e) ∷ [], [], rest))
    (Some (q, kept v h, [], rest)) (after_return q v h rest)

abbrev step : At → Option At
step (q, v, h, []) = None
step (q, v, h, b ∷ rest) =
    pick (b == 34) (b == 92) (Some (not q, kept v h, [], rest)) (after_backslash q v h rest) (Some (step_byte q v h b rest))

abbrev Held : Bool → ℕ → Bool → Type 0
Held q b held = ((is_blank b && not q) ≡ held) × ((b == 34) ≡ false) × ((b == 92) ≡ false)

blank_held : (b : ℕ) → is_blank b ≡ true → Held false b true
blank_held b is = (grind (arith, nat_tests), grind (arith, nat_tests), grind (arith, nat_tests))

plain_held : (q : Bool) (b : ℕ) → is_plain q b ≡ true → Held q b false
plain_held true b is = (grind (arith, nat_tests), grind (arith, nat_tests), grind (arith, nat_tests))
plain_held false b is = (grind (arith, nat_tests), grind (arith, nat_tests), grind (arith, nat_tests))

byte_on : (q : Bool) (v h rest : List ℕ) (b : ℕ) (held : Bool) → Held q b held
    → step (q, v, h, b ∷ rest)
    ≡ Some (if held then (q, v, h ++ b ∷ [], rest) else (q, kept v h ++ b ∷ [], [], rest))
byte_on q v h rest b held (is, no_quote, no_backslash) = rw (no_quote, no_backslash, is)

quote_on : (q : Bool) (v h rest : List ℕ) (b : ℕ) → b ≡ 34
    → step (q, v, h, b ∷ rest) ≡ Some (not q, kept v h, [], rest)
quote_on q v h rest b is = rw is

escape_on : (q : Bool) (v h rest : List ℕ) (b l c : ℕ) → b ≡ 92 → escape l ≡ Some c
    → step (q, v, h, b ∷ l ∷ rest) ≡ Some (q, kept v h ++ c ∷ [], [], rest)
escape_on q v h rest b l c is letter = rw is
    (pick_first _ (l == 10) _ _ (after_return q v h rest) (ap is_some letter)
    ∙ ap (λ o. Some (q, kept v h ++ byte_of o ∷ [], [], rest)) letter)

line_on : (q : Bool) (v h rest : List ℕ) (b l : ℕ) → b ≡ 92 → l ≡ 10
    → step (q, v, h, b ∷ l ∷ rest) ≡ Some (q, kept v h, [], rest)
line_on q v h rest b l is line = rw (is, line)

return_on : (q : Bool) (v h rest : List ℕ) (b l m : ℕ) → b ≡ 92 → l ≡ 13
    → step (q, v, h, b ∷ l ∷ m ∷ rest) ≡ Some (q, kept v h, [], rest)
return_on q v h rest b l m is return = rw (is, return)

backslash_ends : (q : Bool) (v h : List ℕ) (b : ℕ) → b ≡ 92 → step (q, v, h, b ∷ []) ≡ None
backslash_ends q v h b is = rw is

-- a scan ends here, with this value or with the one that has the held blanks too; or it takes a step
data Going (at : At) (text : List ℕ) (ending : Ending) : Type 0 where
  ends : step at ≡ None → text ≡ at.1 → at.3 ≡ [] → Going at text ending
  backslash : {b : ℕ} → step at ≡ None → text ≡ kept at.1 at.2 → at.3 ≡ b ∷ [] → Going at text ending
  on : (next : At) → step at ≡ Some next → FromHere next text ending → Going at text ending

going : {q : Bool} {v h raw text : List ℕ} {e : Ending} → Spells itself q v h raw text e
    → Going (q, v, h, raw) text e
going value.ends_outside = ends refl refl refl
going value.ends_inside = ends refl refl refl
going (value.ends_at_backslash {b = b} {value = v} {held = h} is) = backslash (backslash_ends false v h b is) refl refl
going (value.quote {quoted = q} {b = b} {value = v} {held = h} {raw = r} is s) = on _ (quote_on q v h r b is) s
going (value.escaped {quoted = q} {b = b} {e = l} {c = c} {value = v} {held = h} {raw = r} is letter s) =
    on _ (escape_on q v h r b l c is letter) s
going (value.continued {quoted = q} {b = b} {e = l} {value = v} {held = h} {raw = r} is line s) =
    on _ (line_on q v h r b l is line) s
going (value.continued_after_return {quoted = q} {b = b} {e = l} {f = m} {value = v} {held = h} {raw = r} is return line s) =
    on _ (return_on q v h r b l m is return) s
going (value.blank {b = b} {value = v} {held = h} {raw = r} is s) =
    on (false, v, h ++ b ∷ [], r) (byte_on false v h r b true (blank_held b is)) s
going (value.plain {quoted = q} {b = b} {value = v} {held = h} {raw = r} is s) =
    on (q, kept v h ++ b ∷ [], [], r) (byte_on q v h r b false (plain_held q b is)) s

-- both scans take the same step
after : {at : At} {s t : List ℕ} {f : Ending} (next : At) → step at ≡ Some next
    → (FromHere next t f → s ≡ t) → Going at t f → s ≡ t
after next is later (ends none e at) = absurd (none-some next (sym none ∙ is))
after next is later (backslash none e at) = absurd (none-some next (sym none ∙ is))
after {t = t} {f = f} next is later (on other so scan) =
    later (subst (λ n. FromHere n t f) (same_Some other next (sym so ∙ is)) scan)

-- both scans are at their end
at_end : {q : Bool} {v h t : List ℕ} {f : Ending} → Going (q, v, h, []) t f → v ≡ t
at_end (ends none e at) = sym e
at_end (backslash none e at) = absurd (cc)
at_end (on next is scan) = absurd (none-some next is)

at_backslash : {q : Bool} {v h t : List ℕ} {b : ℕ} {f : Ending} → b ≡ 92 → Going (q, v, h, b ∷ []) t f → kept v h ≡ t
at_backslash is (ends none e at) = absurd (cc)
at_backslash is (backslash none e at) = sym e
at_backslash {q = q} {v = v} {h = h} {b = b} is (on next so scan) =
    absurd (none-some next (sym (backslash_ends q v h b is) ∙ so))

pub one_text : {q : Bool} {v h raw s t : List ℕ} {e f : Ending} → Spells itself q v h raw s e
    → Spells itself q v h raw t f → s ≡ t
one_text value.ends_outside second = at_end (going second)
one_text value.ends_inside second = at_end (going second)
one_text (value.ends_at_backslash is) second = at_backslash is (going second)
one_text (value.quote {quoted = q} {b = b} {value = v} {held = h} {raw = r} is s) second =
    after _ (quote_on q v h r b is) (λ other. one_text s other) (going second)
one_text (value.escaped {quoted = q} {b = b} {e = l} {c = c} {value = v} {held = h} {raw = r} is letter s) second =
    after _ (escape_on q v h r b l c is letter) (λ other. one_text s other) (going second)
one_text (value.continued {quoted = q} {b = b} {e = l} {value = v} {held = h} {raw = r} is line s) second =
    after _ (line_on q v h r b l is line) (λ other. one_text s other) (going second)
one_text (value.continued_after_return {quoted = q} {b = b} {e = l} {f = m} {value = v} {held = h} {raw = r} is return line s)
    second = after _ (return_on q v h r b l m is return) (λ other. one_text s other) (going second)
one_text (value.blank {b = b} {value = v} {held = h} {raw = r} is s) second =
    after (false, v, h ++ b ∷ [], r) (byte_on false v h r b true (blank_held b is)) (λ other. one_text s other) (going second)
one_text (value.plain {quoted = q} {b = b} {value = v} {held = h} {raw = r} is s) second =
    after (q, kept v h ++ b ∷ [], [], r) (byte_on q v h r b false (plain_held q b is)) (λ other. one_text s other)
    (going second)
