-- The edits between texts, and the nearest of several items.
use Rattle.std.proofs.Common.{◌≡◌, ◌+◌, ◌<◌, ◌≤◌, ℕ, zero, suc, List, [], ◌∷◌, ◌++◌, length, take, nat_eq, get_or}
use Rattle.std.proofs.Common.{MatchOption, Option, None, Some, Bor, refl, sym, ap, ◌∙◌, arith, ◌≢◌, ◌↔◌}
use Rattle.std.proofs.Common.{IsTrue, Bool}
use Rattle.std.proofs.Common.{◌-◌, ◌==◌, drop, append_assoc, inl, inr}
use Rattle.std.proofs.lemmas.Int.{clamps}
use Rattle.std.specs.Char.{to_ascii_lowercase}
use Rattle.strsim.specs.Edits.{next_row, rows, cost_at}
use Rattle.std.proofs.lemmas.Bool.{cases_Bool, eqb-true, eqb-false}
use Rattle.std.proofs.lemmas.List.{take_more as one_more_taken, length-map, length-append, take-append-le}
use Rattle.std.proofs.lemmas.List.{take_rest, get_or_append_left}
use Rattle.std.proofs.lemmas.List.Elements.{All-append, All-push, All-from_recursion}
use Rattle.std.proofs.Math.Seq.{get_or-append_seam, take-append_seam}
use Rattle.std.specs.List.{All, prefix_len, zip}
use Rattle.std.specs.Prelude.{MatchBool}
use Rattle.std.specs.Cmp.Lexicographic.{pointwise, told_text}
use Rattle.config_checks.specs.Nearest.{HasOtherEnd, Edits, IsSwap, LeavesOut, lower, edits, AreBeyond}
use Rattle.config_checks.specs.Nearest.{IsFirstAt, AreFar, IsNearest}
use Rattle.config_checks.specs.Nearest.Edits.{swapped, counted}
use Rattle.config_checks.specs.Nearest.IsSwap.{at_front, further}
use Rattle.config_checks.specs.Nearest.LeavesOut.{skipped, kept}
use Rattle.config_checks.specs.Reading.Steps.{AreApart, AreRests}
use Rattle.config_checks.proofs.FirstLemmas.{IsFirst, first_once}

-- the row and the column of a place of the table differ by no more than the edits there
next_row_apart : (c before : ℕ → ℕ) (n : ℕ) → ((j : ℕ) → (n ≤ before j + j) × (j ≤ before j + n)) → (k : ℕ)
    → (suc n ≤ next_row c before (suc n) k + k) × (k ≤ next_row c before (suc n) k + suc n)
unfolding next_row
next_row_apart c before n apart zero = omega arith
next_row_apart c before n apart (suc k) =
    omega (arith, clamps, next_row_apart c before n apart k, apart (suc k), apart k)

rows_apart : (xs ys : List ℕ) (n : ℕ) (before : ℕ → ℕ) → ((j : ℕ) → (n ≤ before j + j) × (j ≤ before j + n))
    → (k : ℕ)
    → (n + length xs ≤ rows nat_eq xs ys n before k + k) × (k ≤ rows nat_eq xs ys n before k + (n + length xs))
unfolding rows
rows_apart [] ys n before apart k = omega (arith, apart k)
rows_apart (x ∷ xs) ys n before apart k =
    let more = rows_apart xs ys (suc n) (next_row (cost_at nat_eq x ys) before (suc n))
    (next_row_apart (cost_at nat_eq x ys) before n apart) k in
    omega (arith, more)

-- a swap does not change the length
swap_length : (a b : List ℕ) → IsSwap a b → length a ≡ length b
swap_length _ _ (at_front differ) = refl
swap_length _ _ (further {x} {xs} {ys} swap) = rw (swap_length xs ys swap) refl

-- the lengths of two texts differ by no more than the edits between them, if a swap is one edit
pub lengths_near : (a b : List ℕ) (n : ℕ) → Edits a b n → (length a ≤ n + length b) × (length b ≤ n + length a)
lengths_near a b n (swapped swap is) =
    let same = swap_length (lower a) (lower b) swap in
    omega (arith, same, is, length-map a to_ascii_lowercase, length-map b to_ascii_lowercase)
lengths_near a b n (counted not is) =
    let apart = rows_apart (lower a) (lower b) 0 (λ j. j) (λ j. omega arith) (length (lower b)) in
    omega (arith, is, apart, length-map a to_ascii_lowercase, length-map b to_ascii_lowercase)

-- ---- what follows the bytes that two texts both begin with

abbrev pub common : List ℕ → List ℕ → ℕ
common a b = prefix_len (λ p. p.0 == p.1) (zip a b)

one_suc : (n : ℕ) → 1 + n ≡ suc n
one_suc n = omega arith

both_begin : (x : ℕ) (a b : List ℕ) (n : ℕ) → AreRests a b (drop n a) (drop n b)
    → AreRests (x ∷ a) (x ∷ b) (drop (1 + n) (x ∷ a)) (drop (1 + n) (x ∷ b))
both_begin x a b n more = rw (one_suc n) record {
  front = x ∷ more.front;
  first = ap (λ l. x ∷ l) more.first;
  second = ap (λ l. x ∷ l) more.second;
  apart = more.apart;
}

pub rests_of : (a b : List ℕ) → AreRests a b (drop (common a b) a) (drop (common a b) b)
rests_of (x ∷ a) (y ∷ b) = elim (cases_Bool (x == y)) [
  | inl same ↦ rw (same, ← (eqb-true x y same)) (both_begin x a b (common a b) (rests_of a b))
  | inr differ ↦ rw differ record { front = []; first = refl; second = refl; apart = eqb-false x y differ }
]
rests_of a b = record { front = []; first = refl; second = refl; apart = tt }

apart_swapped : (x y : List ℕ) → AreApart x y → AreApart y x
apart_swapped [] [] apart = tt
apart_swapped [] (y ∷ ys) apart = tt
apart_swapped (x ∷ xs) [] apart = tt
apart_swapped (x ∷ xs) (y ∷ ys) apart = λ same. apart (sym same)

pub swapped_rests : {a b x y : List ℕ} → AreRests a b x y → AreRests b a y x
swapped_rests {x = x} {y = y} r =
    record { front = r.front; first = r.second; second = r.first; apart = apart_swapped x y r.apart }

-- ---- a relation that holds of two texts exactly if it holds of what follows a byte that both begin with

module _ (R : List ℕ → List ℕ → Type 0) (more : (x : ℕ) (a b : List ℕ) → R (x ∷ a) (x ∷ b) ↔ R a b) where
  behind : (front a b : List ℕ) → R (front ++ a) (front ++ b) ↔ R a b
  behind [] a b = (λ r. r, λ r. r)
  behind (x ∷ front) a b =
      let inner = behind front a b in let outer = more x (front ++ a) (front ++ b) in
      (λ r. inner.0 (outer.0 r), λ r. outer.1 (inner.1 r))

  of_rests : {a b x y : List ℕ} → AreRests a b x y → R a b ↔ R x y
  of_rests {x = x} {y = y} r = rw (r.first, r.second) (behind r.front x y)

-- ---- a swap

swap_rest : (f g : ℕ) (x y : List ℕ) → f ≡ g → IsSwap (f ∷ x) (g ∷ y) → IsSwap x y
swap_rest _ _ _ _ same (at_front differ) = absurd (differ same)
swap_rest _ _ _ _ same (further swap) = swap

pub swap_rests : {a b x y : List ℕ} → AreRests a b x y → IsSwap a b ↔ IsSwap x y
swap_rests = of_rests IsSwap (λ x a b. (swap_rest x x a b refl, further))

pair_swap : (x y : List ℕ) → AreApart x y → IsSwap x y
    → (get_or x 0 0 ≡ get_or y 1 0) × (get_or x 1 0 ≡ get_or y 0 0) × (drop 2 x ≡ drop 2 y)
pair_swap x y apart swap = grind arith

swap_pair : (x y : List ℕ) → AreApart x y → 2 ≤ length x → 2 ≤ length y → get_or x 0 0 ≡ get_or y 1 0
    → get_or x 1 0 ≡ get_or y 0 0 → drop 2 x ≡ drop 2 y → IsSwap x y
swap_pair (a ∷ b ∷ x) (c ∷ d ∷ y) apart some also e f same = rw (← e, ← f, ← same) (at_front (λ g. apart (g ∙ f)))
swap_pair x y apart some also e f same = absurd (omega (arith, some, also))

same_told : (r : Bool) (xs ys : List ℕ) → MatchBool r (xs ≡ ys) (xs ≢ ys) → IsTrue r ↔ (xs ≡ ys)
same_told r xs ys told = grind arith

-- if the first two bytes are swapped, the texts differ by a swap if and only if their rests are the same
pub pair_told : (x y : List ℕ) (r : Bool) → AreApart x y → 2 ≤ length x → 2 ≤ length y → get_or x 0 0 ≡ get_or y 1 0
    → get_or x 1 0 ≡ get_or y 0 0
    → r ≡ pointwise nat_eq (take (length x - 2) (drop 2 x)) (take (length y - 2) (drop 2 y)) → IsTrue r ↔ IsSwap x y
pair_told x y r apart some also e f told =
    let same = same_told r (drop 2 x) (drop 2 y) (told_text (drop 2 x) (drop 2 y) r (told
    ∙ ap (λ xs. pointwise nat_eq xs (take (length y - 2) (drop 2 y))) (take_rest x 2)
    ∙ ap (λ ys. pointwise nat_eq (drop 2 x) ys) (take_rest y 2))) in (
      λ yes. swap_pair x y apart some also e f (same.0 yes),
      λ swap. same.1 (pair_swap x y apart swap).2,
    )

-- ---- a run of bytes left out

left_word : (f : ℕ) (x y : List ℕ) (word : List ℕ) → f ∷ y ≡ word ++ f ∷ x → LeavesOut x y
left_word f x y [] e = skipped [] (cc)
left_word f x y (w ∷ word) e = skipped (word ++ f ∷ []) (let tails : y ≡ word ++ f ∷ x = cc in tails
    ∙ sym (append_assoc word (f ∷ []) x))

left_rest : (f g : ℕ) (x y : List ℕ) → f ≡ g → LeavesOut (f ∷ x) (g ∷ y) → LeavesOut x y
left_rest f g x y same (skipped word e) = left_word f x y word (ap (λ h. h ∷ y) same ∙ e)
left_rest _ _ _ _ same (kept left) = left

-- texts that do not begin with the same byte: one only leaves out what comes first
left_apart : (x y : List ℕ) → AreApart x y → LeavesOut x y → (word : List ℕ) × (y ≡ word ++ x)
left_apart x y apart (skipped word e) = (word, e)
left_apart _ _ apart (kept left) = absurd (apart refl)

pub left_rests : {a b x y : List ℕ} → AreRests a b x y → LeavesOut a b ↔ ((word : List ℕ) × (y ≡ word ++ x))
left_rests {x = x} {y = y} r =
    let rests = of_rests LeavesOut (λ x a b. (left_rest x x a b refl, kept)) r in
    (λ left. left_apart x y r.apart (rests.0 left), λ (word, e). rests.1 (skipped word e))

-- no other front of both texts is longer than that before what differs
longest : (f g x y u v : List ℕ) → AreApart x y → f ++ x ≡ g ++ u → f ++ y ≡ g ++ v → length g ≤ length f
longest f [] x y u v apart first second = omega arith
longest [] (b ∷ g) [] y u v apart first second = absurd (cc)
longest [] (b ∷ g) (c ∷ x) [] u v apart first second = absurd (cc)
longest [] (b ∷ g) (c ∷ x) (d ∷ y) u v apart first second = absurd (apart (cc))
longest (c ∷ f) (b ∷ g) x y u v apart first second =
    let shorter = longest f g x y u v apart (cc) (cc) in omega (arith, shorter)

parts_size : (a front x : List ℕ) → lower a ≡ front ++ x → length a ≡ length front + length x
parts_size a front x is = sym (length-map a to_ascii_lowercase) ∙ ap length is ∙ length-append front x

pub other_end : (a b x y : List ℕ) → AreRests (lower a) (lower b) (lower x) (lower y)
    → HasOtherEnd a b ↔ ((length x ≤ 3) × (length y ≤ 3) × (length x + 6 ≤ length a))
other_end a b x y r =
    let size_x : length (lower x) ≡ length x = length-map x to_ascii_lowercase in
    let size_y : length (lower y) ≡ length y = length-map y to_ascii_lowercase in
    let of_x : length a ≡ length r.front + length (lower x) = parts_size a r.front (lower x) r.first in
    let of_y : length b ≡ length r.front + length (lower y) = parts_size b r.front (lower y) r.second in
    let to : HasOtherEnd a b → (length x ≤ 3) × (length y ≤ 3) × (length x + 6 ≤ length a) =
    λ (g, u, v, first, second, long, end, other).
    let short = longest r.front g (lower x) (lower y) u v r.apart (sym r.first ∙ first) (sym r.second ∙ second) in
    let of_u : length a ≡ length g + length u = parts_size a g u first in
    let of_v : length b ≡ length g + length v = parts_size b g v second in (
      omega (arith, short, of_x, of_u, end, size_x),
      omega (arith, short, of_y, of_v, other, size_y),
      omega (arith, short, of_x, long, size_x),
    ) in
    let from : (length x ≤ 3) × (length y ≤ 3) × (length x + 6 ≤ length a) → HasOtherEnd a b =
    λ (end, other, long). (
      r.front,
      lower x,
      lower y,
      r.first,
      r.second,
      omega (arith, of_x, long, size_x),
      omega (arith, end, size_x),
      omega (arith, other, size_y),
    ) in
    (to, from)

-- there is at most one number of edits
pub one_count : (a b : List ℕ) (m n : ℕ) → Edits a b m → Edits a b n → m ≡ n
one_count a b m n is also = grind arith

-- ---- the nearest of the items so far

-- the items before place `i`, and the item there
pub take_more : {X : Type 0} (xs : List X) (i : ℕ) (x : X) → i < length xs → get_or xs i x ≡ x
    → take (i + 1) xs ≡ take i xs ++ x ∷ []
take_more xs i x below here = one_more_taken xs i x below ∙ ap (λ y. take i xs ++ y ∷ []) here

module _ {A : Type 0} (Apart : A → ℕ → Type 0) where
  abbrev pub IsNoNearer : ℕ → A → Type 0
  IsNoNearer least item = (m : ℕ) → Apart item m → least ≤ m

  abbrev Found : List A → Option (Bor A) → ℕ → Type 0
  Found seen best least = MatchOption best (least ≡ 4) (λ item. (least ≤ 3) × IsFirstAt Apart seen least item.now)

  -- no item so far is nearer than `least`, and the best is the first one as near; without a best one it is 4
  pub record IsBest (seen : List A) (best : Option (Bor A)) (least : ℕ) : Type 0 where
    pub none_nearer : All (IsNoNearer least) seen
    pub found : Found seen best least

  pub nothing : IsBest [] None 4
  nothing = record { none_nearer = λ k d inside. absurd (omega (arith, inside)); found = refl }

  at_most_4 : (seen : List A) (least : ℕ) (best : Option (Bor A)) → Found seen best least → least ≤ 4
  at_most_4 seen least best found = grind arith

  still_found : (seen more : List A) (least : ℕ) (best : Option (Bor A)) → Found seen best least
      → Found (seen ++ more) best least
  still_found seen more least None found = found
  still_found seen more least (Some item) found =
      let at = found.1 in
      let inside = at.inside in (
        found.0,
        record {
          place = at.place;
          inside = omega (arith, inside, length-append seen more);
          stands = get_or_append_left seen more item.now at.place inside ∙ at.stands;
          apart = at.apart;
          first = rw (take-append-le at.place seen more (omega (arith, inside))) at.first;
        },
      )

  -- far items do not change the best one
  pub passes : (seen more : List A) (least : ℕ) (best : Option (Bor A)) → IsBest seen best least → AreFar Apart more
      → IsBest (seen ++ more) best least
  passes seen more least best so_far far = record {
    none_nearer = All-append (IsNoNearer least) seen more so_far.none_nearer (λ k d inside m edits.
        let beyond = far k d inside m edits in let few = at_most_4 seen least best so_far.found in
        omega (arith, beyond, few));
    found = still_found seen more least best so_far.found;
  }

  pub far_one : (item : A) → ((n : ℕ) → Apart item n → 3 < n) → AreFar Apart (item ∷ [])
  far_one item far = All-from_recursion (λ item. (n : ℕ) → Apart item n → 3 < n) (item ∷ []) (far, tt)

  pub whole : (items : List A) (least : ℕ) (best : Option (Bor A)) → IsBest items best least
      → MatchOption best (AreFar Apart items) (λ item. IsNearest Apart items item.now)
  whole items least None so_far = rw so_far.found at so_far.none_nearer
  whole items least (Some item) so_far = record {
    edits = least;
    few = so_far.found.0;
    at = so_far.found.1;
    least = so_far.none_nearer;
  }

  -- if each item has at most one number of edits
  module _ (one : (item : A) (m n : ℕ) → Apart item m → Apart item n → m ≡ n) where
    pub keeps : (seen : List A) (least n : ℕ) (best : Option (Bor A)) (item : A) → IsBest seen best least
        → Apart item n
        → least ≤ n → IsBest (seen ++ item ∷ []) best least
    keeps seen least n best item so_far edits not = record {
      none_nearer = All-push (IsNoNearer least) seen item so_far.none_nearer (λ m also.
          rw (one item m n also edits) not);
      found = still_found seen (item ∷ []) least best so_far.found;
    }

    pub betters : (seen : List A) (least n : ℕ) (best : Option (Bor A)) (item : Bor A) → IsBest seen best least
        → Apart item.now n → n < least → IsBest (seen ++ item.now ∷ []) (Some item) n
    betters seen least n best item so_far edits below =
        let most = at_most_4 seen least best so_far.found in
        let beyond : AreBeyond Apart n seen =
        λ k d inside m also. let no_nearer = so_far.none_nearer k d inside m also in
        omega (arith, no_nearer, below) in
        record {
          none_nearer = All-push (IsNoNearer n) seen item.now
              (λ k d inside m also. let more = beyond k d inside m also in omega (arith, more))
              (λ m also. rw (one item.now m n also edits) (omega arith));
          found = (
            omega (arith, most, below),
            record {
              place = length seen;
              inside = omega (arith, length-append seen (item.now ∷ []));
              stands = get_or-append_seam seen item.now [] item.now;
              apart = edits;
              first = rw take-append_seam beyond;
            },
          );
        }

  -- ---- there is at most one nearest item

  -- no nearest item has more edits than another nearest item
  no_nearer : (items : List A) (a b : A) (p : IsNearest Apart items a) (q : IsNearest Apart items b)
      → p.edits ≤ q.edits
  no_nearer items a b p q =
      p.least q.at.place b q.at.inside q.edits (rw q.at.stands q.at.apart)

  at_first : (items : List A) (a : A) (n : ℕ) → IsFirstAt Apart items n a → IsFirst (λ x. Apart x n) items a
  at_first items a n f = record {
    place = f.place;
    inside = f.inside;
    stands = f.stands;
    is = f.apart;
    first = λ k d inside apart. let less = f.first k d inside n apart in omega (arith, less);
  }

  pub nearest_once : (items : List A) (a b : A) → IsNearest Apart items a → IsNearest Apart items b → a ≡ b
  nearest_once items a b p q =
      let less = no_nearer items a b p q in let more = no_nearer items b a q p in
      let same : p.edits ≡ q.edits = omega (arith, less, more) in
      first_once (λ x. Apart x q.edits) items a b (at_first items a q.edits (rw same at p.at))
      (at_first items b q.edits q.at)

  pub no_far : (items : List A) (item : A) → IsNearest Apart items item → ¬ (AreFar Apart items)
  no_far items item p far =
      let beyond = far p.at.place item p.at.inside p.edits (rw p.at.stands p.at.apart) in
      let few = p.few in
      omega (arith, beyond, few)
