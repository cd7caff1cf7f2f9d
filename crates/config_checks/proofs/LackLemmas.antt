-- A text that lacks bytes of another one is at least as many edits away.
use Rattle.std.proofs.Common.{◌≡◌, ◌+◌, ◌<◌, ◌≤◌, get_or, ℕ, zero, suc, List, [], ◌∷◌, ◌++◌, length, nat_eq}
use Rattle.std.proofs.Common.{refl, sym, ap}
use Rattle.std.proofs.Common.{◌∙◌, arith, append_assoc, Bool, true, inl, inr, ◌==◌}
use Rattle.std.proofs.lemmas.Int.{clamps}
use Rattle.std.proofs.lemmas.List.Folds.{list_any-append}
use Rattle.std.proofs.lemmas.Bool.Decides.{nat_tests}
use Rattle.std.proofs.lemmas.Bool.{cases_Bool, eq-eqb}
use Rattle.std.specs.Char.{to_ascii_lowercase}
use Rattle.std.specs.List.{filter, list_any, prefix_len, zip}
use Rattle.std.specs.Prelude.{not, ◌||◌, ◌-◌, drop, take}
use Rattle.std.proofs.lemmas.List.{length-append, length-map, drop-map, take-append-drop, map-append}
use Rattle.std.proofs.Math.Seq.{drop-append_seam}
use Rattle.std.proofs.lemmas.List.Elements.{filter-append}
use Rattle.std.proofs.lemmas.List.Filters.{length-filter_more}
use Rattle.config_text.specs.SameWord.{SameWord}
use Rattle.config_checks.proofs.NearestLemmas.{common}
use Rattle.strsim.specs.Edits.{next_row, rows, cost_at}
use Rattle.config_checks.specs.Reading.Steps.{has_byte, is_same_byte}
use Rattle.config_checks.specs.Nearest.{Edits, IsSwap, lower}
use Rattle.config_checks.specs.Nearest.Edits.{swapped, counted}
use Rattle.config_checks.specs.Nearest.IsSwap.{at_front, further}

-- the text lacks the byte: case counts
abbrev without : List ℕ → ℕ → Bool
without ys z = not (list_any (λ y. z == y) ys)

-- ---- the table of edits

-- a byte that the text lacks costs one edit at each place
cost_lacking : (z : ℕ) (ys : List ℕ) → without ys z ≡ true → (j : ℕ) → 1 ≤ cost_at nat_eq z ys j
unfolding cost_at
cost_lacking z [] lack j = omega arith
cost_lacking z (y ∷ ys) lack zero = grind (arith, nat_tests)
cost_lacking z (y ∷ ys) lack (suc j) = grind (arith, nat_tests, cost_lacking z ys)

row_least : (c before : ℕ → ℕ) (first m : ℕ) → ((j : ℕ) → m ≤ before j + 1) → ((j : ℕ) → m ≤ before j + c j)
    → m ≤ first → (k : ℕ)
    → m ≤ next_row c before first k
unfolding next_row
row_least c before first m above across begins zero = begins
row_least c before first m above across begins (suc k) =
    omega (arith, clamps, row_least c before first m above across begins k, above (suc k), across k)

rows_lacking : (xs ys : List ℕ) (n m : ℕ) (before : ℕ → ℕ) → ((j : ℕ) → m ≤ before j) → m ≤ n → (k : ℕ)
    → m + length (filter (without ys) xs) ≤ rows nat_eq xs ys n before k
unfolding rows
rows_lacking [] ys n m before so_far fits k = omega (arith, so_far k)
rows_lacking (x ∷ xs) ys n m before so_far fits k = elim (cases_Bool (without ys x)) [
  | inl lack ↦
      let more = rows_lacking xs ys (suc n) (m + 1) (next_row (cost_at nat_eq x ys) before (suc n))
      (row_least (cost_at nat_eq x ys) before (suc n) (m + 1) (λ j. omega (arith, so_far j))
      (λ j. omega (arith, so_far j, cost_lacking x ys lack j)) (omega (arith, fits))) (omega (arith, fits)) k in
      rw lack (omega (arith, more))
  | inr has ↦
      let more = rows_lacking xs ys (suc n) m (next_row (cost_at nat_eq x ys) before (suc n))
      (row_least (cost_at nat_eq x ys) before (suc n) m (λ j. omega (arith, so_far j)) (λ j.
      omega (arith, so_far j))
      (omega (arith, fits))) (omega (arith, fits)) k in
      rw has more
]

-- ---- a swap

either_first : (a b c : Bool) → (a || (b || c)) ≡ (b || (a || c))
either_first a b c = grind arith

any_swapped : (p : ℕ → Bool) (xs ys : List ℕ) → IsSwap xs ys → list_any p ys ≡ list_any p xs
any_swapped p _ _ (at_front {x} {y} {rest} differ) = either_first (p y) (p x) (list_any p rest)
any_swapped p _ _ (further {x} {xs} {ys} swap) = ap (λ b. p x || b) (any_swapped p xs ys swap)

any_here : (front : List ℕ) (x : ℕ) (behind : List ℕ) → list_any (λ y. x == y) (front ++ x ∷ behind) ≡ true
any_here front x behind = grind (arith, list_any-append (λ y. x == y) front (x ∷ behind), eq-eqb x x refl)

all_had : (front xs : List ℕ) → filter (without (front ++ xs)) xs ≡ []
all_had front [] = refl
all_had front (x ∷ xs) =
    rw (any_here front x xs) (ap (λ l. filter (without l) xs) (sym (append_assoc front (x ∷ []) xs))
    ∙ all_had (front ++ x ∷ []) xs)

lacks_swapped : (xs ys : List ℕ) → IsSwap xs ys → without ys ≡ without xs
lacks_swapped xs ys swap i = λ z. ap not (any_swapped (λ y. z == y) xs ys swap) i

-- a swap takes no byte away
none_swapped : (xs ys : List ℕ) → IsSwap xs ys → length (filter (without ys) xs) ≡ 0
none_swapped xs ys swap = ap (λ p. length (filter p xs)) (lacks_swapped xs ys swap) ∙ ap length (all_had [] xs)

-- ---- ignoring ASCII case

any_lower : (x : ℕ) (b : List ℕ) → list_any (λ y. to_ascii_lowercase x == y) (lower b) ≡ has_byte b x
any_lower x [] = refl
any_lower x (y ∷ b) = ap (λ t. is_same_byte x y || t) (any_lower x b)

lacking_lower : (a b : List ℕ) → length (filter (without (lower b)) (lower a))
    ≡ length (filter (λ x. not (has_byte b x)) a)
lacking_lower [] b = refl
lacking_lower (x ∷ a) b =
    let same : without (lower b) (to_ascii_lowercase x) ≡ not (has_byte b x) = ap not (any_lower x b) in
    elim (cases_Bool (not (has_byte b x))) [
      | inl lack ↦ rw (same ∙ lack, lack) (ap suc (lacking_lower a b))
      | inr has ↦ rw (same ∙ has, has) (lacking_lower a b)
    ]

-- as many edits are needed as bytes are lacking
pub lacking_edits : (a b : List ℕ) (n : ℕ) → Edits a b n → length (filter (λ x. not (has_byte b x)) a) ≤ n
lacking_edits a b n (swapped swap is) =
    omega (arith, is, lacking_lower a b, none_swapped (lower a) (lower b) swap)
lacking_edits a b n (counted not is) =
    let more = rows_lacking (lower a) (lower b) 0 0 (λ j. j) (λ j. omega arith) (omega arith) (length (lower b)) in
    omega (arith, is, more, lacking_lower a b)

-- ---- the bytes so far

-- a filter keeps no more of a front than of the whole
filtered_front : (p : ℕ → Bool) (xs : List ℕ) (i : ℕ) → length (filter p (take i xs)) ≤ length (filter p xs)
filtered_front p xs i =
    let whole : length (filter p xs) ≡ length (filter p (take i xs)) + length (filter p (drop i xs)) =
    ap (λ l. length (filter p l)) (sym (take-append-drop i xs))
    ∙ ap length (filter-append p (take i xs) (drop i xs))
    ∙ length-append (filter p (take i xs)) (filter p (drop i xs)) in
    omega (arith, whole)

-- and fewer bytes before one that it keeps
pub filtered_further : (p : ℕ → Bool) (xs : List ℕ) (i d : ℕ) → i < length xs → p (get_or xs i d) ≡ true
    → length (filter p (take i xs)) < length (filter p xs)
filtered_further p xs i d below passes =
    let more = rw passes at (length-filter_more p xs i d below) in omega (arith, more, filtered_front p xs (i + 1))

-- ---- what both texts begin with

pub common_lower : (a b : List ℕ) → common (lower a) (lower b) ≡ prefix_len (λ p. is_same_byte p.0 p.1) (zip a b)
common_lower [] b = refl
common_lower (x ∷ a) [] = refl
common_lower (x ∷ a) (y ∷ b) = rw (common_lower a b)

-- if a text ends with a word, what precedes the word is as long as the text is longer
pub end_told : (text end word : List ℕ) → lower text ≡ word ++ lower end
    → SameWord (drop (length text - length end) text) end
end_told text end word is =
    let long : length word ≡ length text - length end = omega (
      arith,
      clamps,
      length-append word (lower end),
      ap length is,
      length-map text to_ascii_lowercase,
      length-map end to_ascii_lowercase,
    ) in
    sym (drop-map to_ascii_lowercase (length text - length end) text) ∙ ap (drop (length text - length end)) is
    ∙ ap (λ n. drop n (word ++ lower end)) (sym long) ∙ drop-append_seam word (lower end)

pub told_end : (text end : List ℕ) (n : ℕ) → SameWord (drop n text) end
    → (word : List ℕ) × (lower text ≡ word ++ lower end)
told_end text end n same = (
  lower (take n text),
  ap lower (sym (take-append-drop n text)) ∙ map-append to_ascii_lowercase (take n text) (drop n text)
      ∙ ap (λ l. lower (take n text) ++ l) same,
)
