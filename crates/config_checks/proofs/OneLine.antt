-- The compact JSON text of any data is one line.
use Rattle.std.proofs.Common.{◌≡◌, ◌≢◌, ◌<◌, ◌+◌, ◌/◌, ◌%◌, ◌++◌, ◌∷◌, [], ℕ, zero, suc, List, Bool, true}
use Rattle.std.proofs.Common.{false, not}
use Rattle.std.proofs.Common.{◌&&◌, ◌==◌, nat_eq, nat_lt, if◌then◌else◌, pos, negsuc, refl, sym, subst, arith}
use Rattle.std.proofs.Common.{inl, inr}
use Rattle.std.proofs.lemmas.Bool.{and_parts, cases_lt, cases_eq}
use Rattle.std.specs.Fmt.{decimal, digits, digits_onto, digit_glyph}
use Rattle.json.specs.Print.{escape_byte, escape, quoted}
use Rattle.json.proofs.Printed.Strings.{escape_byte_plain}
use Rattle.serde_json.specs.Data.{Data, null, boolean, number, string, array, object, Num, unsigned, negative}
use Rattle.serde_json.specs.Data.{float}
use Rattle.serde_json.specs.Data.{Items, no_items, item, Members, no_members, member}
use Rattle.serde_json.specs.Written.{compact_text, comma_if, number_text, items_text, members_text}
use Rattle.config_checks.specs.Json.{IsOneLine}

join : (xs ys : List ℕ) → IsOneLine xs → IsOneLine ys → IsOneLine (xs ++ ys)
join [] ys p q = q
join (x ∷ xs) ys p q = (p.0, join xs ys p.1 q)

-- whether the text has no line feed
abbrev is_one_line : List ℕ → Bool
is_one_line [] = true
is_one_line (x ∷ xs) = not (nat_eq x 10) && is_one_line xs

other : (x : ℕ) → not (nat_eq x 10) ≡ true → x ≢ 10
other x e same = absurd (cc)

one_line : (xs : List ℕ) → is_one_line xs ≡ true → IsOneLine xs
one_line [] e = tt
one_line (x ∷ xs) e = let both = and_parts _ _ e in (other x both.0, one_line xs both.1)

-- whether no escape of a byte below `n` has a line feed
abbrev escapes_below : ℕ → Bool
escapes_below zero = true
escapes_below (suc n) = is_one_line (escape_byte n) && escapes_below n

escape_below : (n : ℕ) → escapes_below n ≡ true → (x : ℕ) → x < n → is_one_line (escape_byte x) ≡ true
escape_below zero all x below = absurd (omega arith)
escape_below (suc n) all x below =
    let both = and_parts _ _ all in
    elim (cases_eq x n) [ inl same ↦ rw same both.0 | inr other ↦ escape_below n both.1 x (omega arith) ]

low_escapes : escapes_below 128 ≡ true
unfolding escape_byte
low_escapes = refl

one_escape : (x : ℕ) → IsOneLine (escape_byte x)
one_escape x = elim (cases_lt x 128) [
  | inl small ↦ one_line (escape_byte x) (escape_below 128 low_escapes x small)
  | inr big ↦ subst IsOneLine
      (sym (escape_byte_plain x (λ e. omega arith) (λ e. omega arith) (omega arith))) ((λ e. omega arith), tt)
]

escaped : (s : List ℕ) → IsOneLine (escape s)
escaped [] = tt
escaped (x ∷ xs) = join (escape_byte x) (escape xs) (one_escape x) (escaped xs)

in_quotes : (s : List ℕ) → IsOneLine (quoted s)
in_quotes s = ((λ e. omega arith), join (escape s) (34 ∷ []) (escaped s) ((λ e. omega arith), tt))

either : (b : Bool) (xs ys : List ℕ) → IsOneLine xs → IsOneLine ys → IsOneLine (if b then xs else ys)
either b xs ys p q = grind arith

glyph : (b : Bool) (x y : ℕ) → x ≢ 10 → y ≢ 10 → (if b then x else y) ≢ 10
glyph b x y p q = grind arith

one_digit : (d : ℕ) → digit_glyph false d ≢ 10
one_digit d = glyph (nat_lt d 10) (48 + d) (87 + d) (λ e. omega arith) (λ e. omega arith)

more_digits : (k n : ℕ) (acc : List ℕ) → IsOneLine acc → IsOneLine (digits_onto k 10 false n acc)
more_digits zero n acc so_far = so_far
more_digits (suc k) n acc so_far =
    let more : IsOneLine (digit_glyph false (n % 10) ∷ acc) = (one_digit (n % 10), so_far) in
    either (n / 10 == 0) (digit_glyph false (n % 10) ∷ acc)
    (digits_onto k 10 false (n / 10) (digit_glyph false (n % 10) ∷ acc))
    more (more_digits k (n / 10) (digit_glyph false (n % 10) ∷ acc) more)

in_digits : (n : ℕ) → IsOneLine (decimal n)
unfolding digits
in_digits n = more_digits 64 n [] tt

in_number : (n : Num) → IsOneLine (number_text n)
in_number (unsigned n) = in_digits n
in_number (negative (pos n)) = in_digits n
in_number (negative (negsuc n)) = ((λ e. omega arith), in_digits (suc n))
in_number (float x) = tt

comma : (later : Bool) → IsOneLine (comma_if later)
comma true = one_line (44 ∷ []) refl
comma false = tt

mutual
  pub data_one_line : (d : Data) → IsOneLine (compact_text d)
  data_one_line null = one_line (compact_text null) refl
  data_one_line (boolean true) = one_line (compact_text (boolean true)) refl
  data_one_line (boolean false) = one_line (compact_text (boolean false)) refl
  data_one_line (number n) = in_number n
  data_one_line (string s) = in_quotes s
  data_one_line (array items) = ((λ e. omega arith), in_brackets false items)
  data_one_line (object members) = ((λ e. omega arith), in_braces false members)

  in_brackets : (later : Bool) (items : Items) → IsOneLine (items_text later items)
  in_brackets later no_items = one_line (93 ∷ []) refl
  in_brackets later (item d items) =
      join (comma_if later) (compact_text d ++ items_text true items) (comma later)
      (join (compact_text d) (items_text true items) (data_one_line d) (in_brackets true items))

  in_braces : (later : Bool) (members : Members) → IsOneLine (members_text later members)
  in_braces later no_members = one_line (125 ∷ []) refl
  in_braces later (member key d members) =
      join (comma_if later) (quoted key ++ 58 ∷ (compact_text d ++ members_text true members)) (comma later)
      (join (quoted key) (58 ∷ (compact_text d ++ members_text true members)) (in_quotes key) (
        (λ e. omega arith),
        join (compact_text d) (members_text true members) (data_one_line d) (in_braces true members),
      ))
