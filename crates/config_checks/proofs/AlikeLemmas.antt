-- Names that are not like each other.
use Rattle.std.proofs.Common.{◌≡◌, ◌+◌, ◌<◌, ℕ, List, [], ◌∷◌, ◌++◌, length, take, get_or, Bool, true}
use Rattle.std.proofs.Common.{false, inl, inr}
use Rattle.std.proofs.Common.{set, sym, ap, refl, ◌∙◌, ◌⊎◌, ◌-◌, arith, ◌==◌}
use Rattle.std.proofs.lemmas.Str.Ascii.{lowercase_is, uppercase_is}
use Rattle.std.proofs.lemmas.Bool.{cases_Bool, cases_lt, eqb-true, eqb-false, eq-eqb, false≢true}
use Rattle.std.proofs.lemmas.Int.{clamps}
use Rattle.std.proofs.lemmas.List.{get_or-set_other, get_or-map, length-map, length-append, length-set}
use Rattle.std.proofs.lemmas.List.{get_or-append_right, take_more}
use Rattle.std.proofs.lemmas.Grind.{get_or-set_at}
use Rattle.std.proofs.lemmas.List.Elements.{All-push}
use Rattle.std.proofs.lemmas.List.Folds.{list_any_none}
use Rattle.std.specs.Char.{to_ascii_lowercase, to_ascii_uppercase}
use Rattle.std.specs.List.{All}
use Rattle.config_text.specs.SameWord.{SameWord}
use Rattle.config_checks.specs.Nearest.{LeavesOut, lower}
use Rattle.config_checks.specs.Nearest.LeavesOut.{skipped, kept}
use Rattle.config_checks.specs.Suggestions.{AreAlike}
use Rattle.config_checks.specs.Reading.Steps.{has_byte, is_same_byte, IsMarkedByte}

-- ---- the bytes of a name

byte_kept : (marks : List Bool) (number n : ℕ) → number < length marks → get_or marks n false ≡ true
    → get_or (set marks number true) n false ≡ true
byte_kept marks number n below is = elim (cases_Bool (n == number)) [
  | inl same ↦ get_or-set_at marks number n true false (eqb-true n number same) below
  | inr differ ↦ get_or-set_other marks number n true false (eqb-false n number differ) ∙ is
]

-- two bytes that are the same, ignoring ASCII case, differ in the case at most
of_case : (x b : ℕ) → to_ascii_lowercase x ≡ to_ascii_lowercase b
    → (x ≡ to_ascii_lowercase b) ⊎ (x ≡ to_ascii_uppercase b)
of_case x b same =
    let low = lowercase_is x in
    let lower = lowercase_is b in
    let upper = uppercase_is b in
    elim (cases_lt x 65) [
      | inl below ↦ inl (sym (low.1 below) ∙ same)
      | inr above ↦ elim (cases_lt 90 x) [
        | inl beyond ↦ inl (sym (low.2 beyond) ∙ same)
        | inr letter ↦
            let moved = low.0 (above, letter) in
            elim (cases_lt b 97) [
              | inl small ↦ elim (cases_lt b 65) [
                | inl tiny ↦ absurd (omega (arith, moved, same, lower.1 tiny, tiny, above))
                | inr big ↦ elim (cases_lt 90 b) [
                  | inl beyond ↦ absurd (omega (arith, moved, same, lower.2 beyond, small, above))
                  | inr within ↦ inr (omega (arith, moved, same, lower.0 (big, within), upper.1 small))
                ]
              ]
              | inr big ↦ elim (cases_lt 122 b) [
                | inl beyond ↦
                    let stays = lower.2 (omega (arith, beyond)) in
                    absurd (omega (arith, moved, same, stays, letter, beyond))
                | inr within ↦
                    let stays = lower.2 (omega (arith, big)) in
                    inr (omega (arith, moved, same, stays, upper.0 (big, within)))
              ]
            ]
      ]
    ]

-- the bytes so far are marked, and one more
pub bytes_more : (name : List ℕ) (i : ℕ) (marks : List Bool) → i < length name
    → to_ascii_lowercase (get_or name i 0) < length marks
    → to_ascii_uppercase (get_or name i 0) < length marks
    → All (IsMarkedByte marks) (take i name)
    → All (IsMarkedByte (set (set marks (to_ascii_lowercase (get_or name i 0)) true)
    (to_ascii_uppercase (get_or name i 0)) true)) (take (i + 1) name)
bytes_more name i marks below inside also so_far =
    let byte = get_or name i 0 in
    let low = to_ascii_lowercase byte in
    let up = to_ascii_uppercase byte in
    let more = set marks low true in
    let both = set more up true in
    let within : up < length more = rw (length-set marks low true) also in
    let one : IsMarkedByte both byte = λ x same. elim (of_case x byte same) [
      | inl is ↦ ap (λ n. get_or both n false) is
          ∙ byte_kept more up low within (get_or-set_at marks low low true false refl inside)
      | inr is ↦ ap (λ n. get_or both n false) is ∙ get_or-set_at more up up true false refl within
    ] in
    rw (take_more name i 0 below)
    (All-push (IsMarkedByte both) (take i name) byte
    (λ k d before x same.
    byte_kept more up x within (byte_kept marks low x inside (so_far k d before x same))) one)

-- a byte that is not marked is not one that is marked
pub unmarked_differs : (marks : List Bool) (x byte : ℕ) → IsMarkedByte marks byte
    → get_or marks x false ≡ false → is_same_byte x byte ≡ false
unmarked_differs marks x byte marked not = elim (cases_Bool (is_same_byte x byte)) [
  | inl same ↦
      let equal = eqb-true (to_ascii_lowercase x) (to_ascii_lowercase byte) same in
      absurd (false≢true (sym not ∙ marked x equal))
  | inr differ ↦ differ
]

-- a name lacks each byte that is not marked
pub unmarked_lacks : (marks : List Bool) (name : List ℕ) (x : ℕ) → All (IsMarkedByte marks) name
    → get_or marks x false ≡ false → has_byte name x ≡ false
unmarked_lacks marks name x marked not = list_any_none (is_same_byte x) name (λ k d inside.
    unmarked_differs marks x (get_or name k d) (marked k d inside) not)

-- ---- texts that are alike share their first or their last byte

abbrev SharesEnd : List ℕ → List ℕ → Type 0
SharesEnd u v = (0 < length u) × (0 < length v)
    × ((get_or u 0 0 ≡ get_or v 0 0) ⊎ (get_or u (length u - 1) 0 ≡ get_or v (length v - 1) 0))

last_behind : (word a : List ℕ) → 0 < length a
    → get_or (word ++ a) (length (word ++ a) - 1) 0 ≡ get_or a (length a - 1) 0
last_behind word a some =
    let long = length-append word a in
    get_or-append_right word a (length word) (length (word ++ a) - 1) 0 refl (omega (arith, clamps, long, some))
    ∙ ap (λ i. get_or a i 0) (omega (arith, clamps, long, some))

left_end : (a b : List ℕ) → LeavesOut a b → 0 < length a → SharesEnd a b
left_end a b (skipped word is) some =
    let long = length-append word a in
    rw is (some, omega (arith, long, some), inr (sym (last_behind word a some)))
left_end _ _ (kept left) some = (omega arith, omega arith, inl refl)

front_end : (front x y a b : List ℕ) → a ≡ front ++ x → b ≡ front ++ y → 0 < length front → SharesEnd a b
front_end [] x y a b first second some = absurd (omega (arith, some))
front_end (c ∷ front) x y a b first second some = rw (first, second) (omega arith, omega arith, inl refl)

turned : (a b : List ℕ) → SharesEnd a b → SharesEnd b a
turned a b (some, also, inl same) = (also, some, inl (sym same))
turned a b (some, also, inr same) = (also, some, inr (sym same))

alike_ends : (a b : List ℕ) → AreAlike a b → SharesEnd (lower a) (lower b)
alike_ends a b alike = elim alike.how [
  | inl run ↦ left_end (lower a) (lower b) run.1 (omega (arith, run.0, length-map a to_ascii_lowercase))
  | inr (inl run) ↦
      turned (lower b) (lower a) (left_end (lower b) (lower a) run.1
      (omega (arith, run.0, length-map b to_ascii_lowercase)))
  | inr (inr (front, x, y, first, second, long, _, _)) ↦
      front_end front x y (lower a) (lower b) first second (omega (arith, long))
]

-- the first or the last bytes of texts that are alike are the same, ignoring ASCII case
pub alike_share : (a b : List ℕ) → AreAlike a b → (0 < length a) × (0 < length b)
    × ((is_same_byte (get_or a 0 0) (get_or b 0 0) ≡ true)
    ⊎ (is_same_byte (get_or a (length a - 1) 0) (get_or b (length b - 1) 0) ≡ true))
alike_share a b alike =
    let ends = alike_ends a b alike in
    let long = length-map a to_ascii_lowercase in
    let also = length-map b to_ascii_lowercase in
    let some : 0 < length a = omega (arith, ends.0, long) in
    let more : 0 < length b = omega (arith, ends.1, also) in (
      some,
      more,
      elim ends.2 [
        | inl same ↦
            inl (eq-eqb _ _ (sym (get_or-map to_ascii_lowercase a 0 0 0 some) ∙ same
            ∙ get_or-map to_ascii_lowercase b 0 0 0 more))
        | inr same ↦ inr (eq-eqb _ _ (sym
            (get_or-map to_ascii_lowercase a (length a - 1) 0 0 (omega (arith, clamps, some)))
            ∙ ap (λ n. get_or (lower a) (n - 1) 0) (sym long) ∙ same ∙ ap (λ n. get_or (lower b) (n - 1) 0) also
            ∙ get_or-map to_ascii_lowercase b (length b - 1) 0 0 (omega (arith, clamps, more))))
      ],
    )

-- the first bytes of two words that are the same are the same, ignoring ASCII case
pub same_share : (a b : List ℕ) → SameWord a b → 0 < length a
    → is_same_byte (get_or a 0 0) (get_or b 0 0) ≡ true
same_share [] b same some = absurd (omega (arith, some))
same_share (x ∷ xs) [] same some = absurd (cc)
same_share (x ∷ xs) (y ∷ ys) same some =
    let both : to_ascii_lowercase x ∷ lower xs ≡ to_ascii_lowercase y ∷ lower ys = same in
    let firsts : to_ascii_lowercase x ≡ to_ascii_lowercase y = cc in
    eq-eqb _ _ firsts
