-- The pieces of a text: where the first one ends, and that the pieces of UTF-8 are UTF-8.
use Rattle.std.proofs.Common.{◌≡◌, ◌<◌, ◌+◌, ◌==◌, ℕ, zero, suc, List, [], ◌∷◌, Bool, true, false, not, Option, None, Some, ◌⊎◌, inl, inr}
use Rattle.std.proofs.Common.{length, take, drop, get_or, bytes_eq, sym, subst, arith, eqb-true, IsUtf8}
use Rattle.std.proofs.Common.{if◌then◌else◌}
use Rattle.std.specs.List.{AllByRecursion, list_any, position_or_len}
use Rattle.std.specs.Option.{option_or}
use Rattle.std.proofs.lemmas.Bool.{false_from_ne_true}
use Rattle.std.proofs.lemmas.Bool.Decides.{eqb_tells}
use Rattle.std.proofs.lemmas.List.Elements.{All-from_get_or}
use Rattle.std.proofs.lemmas.List.Splits.{slice_split_none, slice_split_first}
use Rattle.std.proofs.lemmas.List.Sums.{position_or_len_is, passes_at_first, fails_before_first, prefix_len-le-length}
use Rattle.std.proofs.lemmas.List.{length-drop}
use Rattle.std.proofs.lemmas.Str.{IsUtf8-take, IsUtf8-drop, IsCharBoundary-before_ascii, IsCharBoundary-after_ascii}
use Rattle.bstr.specs.Find.{Passes, Nowhere, NoneBefore, is_byte}
use Rattle.config_text.specs.Bytes.{line_feed}
use Rattle.config_path.specs.Passwd.{colon, nul, pieces, home_of_fields, home_in_lines, home_in}

pub no_piece : (separator : ℕ) (text : List ℕ) → Nowhere (Passes (is_byte separator) text) 0 (length text)
    → pieces separator text ≡ text ∷ []
no_piece separator text none =
    slice_split_none _ text (All-from_get_or (λ b. (b == separator) ≡ false) text 0
    (λ k below. false_from_ne_true _ (none k (omega arith) below)))

pub first_piece : (separator : ℕ) (text : List ℕ) (i : ℕ)
    → NoneBefore (Passes (is_byte separator) text) 0 (length text) i → Passes (is_byte separator) text i
    → pieces separator text ≡ take i text ∷ pieces separator (drop (i + 1) text)
first_piece separator text i first passes =
    let at : position_or_len (λ b. b == separator) text ≡ i =
    position_or_len_is (λ b. b == separator) text i 0 (omega (arith, first.high))
    (λ k below. false_from_ne_true _ (first.before k (omega arith) below)) (λ _. passes) in
    subst (λ k. pieces separator text ≡ take k text ∷ pieces separator (drop (k + 1) text)) at
    (slice_split_first (λ b. b == separator) text 0 (omega (arith, at, first.high)))

-- the pieces of UTF-8 are UTF-8, for a text of fewer than `n` bytes
pieces_are_utf8 : (separator : ℕ) → separator < 128 → (n : ℕ) (text : List ℕ) → length text < n → IsUtf8 text
    → AllByRecursion IsUtf8 (pieces separator text)
pieces_are_utf8 separator ascii zero text short utf8 = absurd (omega (arith, short))
pieces_are_utf8 separator ascii (suc n) text short utf8 =
    elim (eqb_tells (position_or_len test text) (length text)) [
      | inl h ↦ subst (AllByRecursion IsUtf8) (sym (slice_split_none _ text (All-from_get_or (λ b. (b == separator) ≡ false) text 0
          (λ k below. fails_before_first test text k 0 (omega (arith, h.1, below)))))) (utf8, tt)
      | inr h ↦ parts (omega (arith, h.1, prefix_len-le-length (λ b. not (test b)) text))
          (λ rest. pieces_are_utf8 separator ascii n rest)
    ] where
      test : ℕ → Bool
      test b = b == separator

      parts : position_or_len test text < length text
          → ((rest : List ℕ) → length rest < n → IsUtf8 rest → AllByRecursion IsUtf8 (pieces separator rest))
          → AllByRecursion IsUtf8 (pieces separator text)
      parts inside shorter =
          let at = position_or_len test text in
          let here = eqb-true _ separator (passes_at_first test text 0 inside) in
          let low : get_or text at 0 < 128 = rw here ascii in
          subst (AllByRecursion IsUtf8) (sym (slice_split_first test text 0 inside)) (
            IsUtf8-take text at utf8 (IsCharBoundary-before_ascii text at inside low),
            shorter (drop (at + 1) text) (omega (arith, length-drop (at + 1) text, short, inside))
                (IsUtf8-drop text (at + 1) utf8 (IsCharBoundary-after_ascii text at utf8 inside low)),
          )

told : (b : Bool) (x : Option (List ℕ)) (home : List ℕ) → (if b then None else x) ≡ Some home → x ≡ Some home
told true x home e = absurd (cc (e))
told false x home e = e

same_home : (b : Bool) (x home : List ℕ) → (if b then Some x else None) ≡ Some home → x ≡ home
same_home true x home e = cc (e)
same_home false x home e = absurd (cc (e))

field_is_utf8 : (name home : List ℕ) (fields : List (List ℕ)) → AllByRecursion IsUtf8 fields
    → home_of_fields name fields ≡ Some home → IsUtf8 home
field_is_utf8 name home (a ∷ b ∷ c ∷ d ∷ f ∷ g ∷ h ∷ []) all e =
    subst IsUtf8 (same_home (bytes_eq a name) g home e) all.1.1.1.1.1.0
field_is_utf8 name home fields all e = absurd (cc (e))

either : (a b : Option (List ℕ)) (home : List ℕ) → option_or a b ≡ Some home → (a ≡ Some home) ⊎ (b ≡ Some home)
either None b home e = inr e
either (Some x) b home e = inl e

line_is_utf8 : (name home : List ℕ) (lines : List (List ℕ)) → AllByRecursion IsUtf8 lines
    → home_in_lines name lines ≡ Some home → IsUtf8 home
line_is_utf8 name home [] all e = absurd (cc (e))
line_is_utf8 name home (line ∷ lines) all e =
    elim (either (home_of_fields name (pieces colon line)) (home_in_lines name lines) home e) [
      | inl h ↦ field_is_utf8 name home _ (pieces_are_utf8 colon (omega arith) (suc (length line)) line (omega arith) all.0) h
      | inr h ↦ line_is_utf8 name home lines all.1 h
    ]

pub home_is_utf8 : (passwd name home : List ℕ) → IsUtf8 passwd → home_in passwd name ≡ Some home → IsUtf8 home
home_is_utf8 passwd name home utf8 e =
    line_is_utf8 name home _ (pieces_are_utf8 line_feed (omega arith) (suc (length passwd)) passwd (omega arith) utf8)
    (told (list_any (λ b. b == nul) name) _ home e)
