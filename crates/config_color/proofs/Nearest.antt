-- The search for the least of the nearest numbers, whatever the distance is; and the cube, where the nearest
-- number has the nearest steps.
use Rattle.std.proofs.Common.{◌≡◌, ℕ, ◌+◌, ◌*◌, ◌-◌, ◌/◌, ◌%◌, ◌<◌, ◌≤◌, ◌⊎◌, inl, inr, arith, refl, true}
use Rattle.std.proofs.Common.{false, nat_lt}
use Rattle.std.proofs.Math.Nat.{eq-or-lt_of_le}
use Rattle.std.proofs.lemmas.Bool.Decides.{nat_tests}
use Rattle.config_color.specs.declared.depth.Shade.{Shade}
use Rattle.config_color.specs.Depth.{IsNearest}
use Rattle.config_color.specs.Reading.Depth.{IsBest, number_distance, step_distance}

-- the first number alone
pub best_alone : (far : ℕ → ℕ) (first : ℕ) → IsBest far first (first + 1) first
best_alone far first =
    record {
      from = omega arith;
      until = omega arith;
      nearest = λ m low high. let e : m ≡ first = omega arith in rw e (omega arith);
      least = λ m low high. absurd (omega arith);
    }

-- the next number is nearer than all before it
pub best_next : {far : ℕ → ℕ} {first end best apart least : ℕ} → IsBest far first end best → apart ≡ far end
    → least ≡ far best → apart < least → IsBest far first (end + 1) end
best_next {far} {first} {end} h p q nearer =
    record {
      from = let k = h.from in let j = h.until in omega arith;
      until = omega arith;
      nearest = λ m low high. at_or_before m low (eq-or-lt_of_le (omega arith));
      least = λ m low high. let k = h.nearest m low high in omega arith;
    } where
      at_or_before : (m : ℕ) → first ≤ m → (m ≡ end) ⊎ (m < end) → far end ≤ far m
      at_or_before m low (inl e) = rw e (omega arith)
      at_or_before m low (inr high) = let k = h.nearest m low high in omega arith

-- the next number is not nearer
pub best_stays : {far : ℕ → ℕ} {first end best apart least : ℕ} → IsBest far first end best → apart ≡ far end
    → least ≡ far best → least ≤ apart → IsBest far first (end + 1) best
best_stays {far} {first} {end} {best} h p q farther =
    record {
      from = h.from;
      until = let k = h.until in omega arith;
      nearest = λ m low high. at_or_before m low (eq-or-lt_of_le (omega arith));
      least = h.least;
    } where
      at_or_before : (m : ℕ) → first ≤ m → (m ≡ end) ⊎ (m < end) → far best ≤ far m
      at_or_before m low (inl e) = rw e (omega arith)
      at_or_before m low (inr high) = h.nearest m low high

-- the best number is the nearest to the shade
pub best_nearest : (s : Shade) (first last best : ℕ) → IsBest (number_distance s) first (last + 1) best
    → IsNearest first last s best
best_nearest s first last best h =
    record {
      within = (h.from, let k = h.until in omega arith);
      nearest = λ m low high. h.nearest m low (omega arith);
      least = h.least;
    }

-- of the numbers that a row and a column write, the nearest row and the nearest column write the nearest one
best_pair : (f g : ℕ → ℕ) (rows r u : ℕ) → IsBest f 0 rows r → IsBest g 0 6 u
    → IsBest (λ n. f (n / 6) + g (n % 6)) 0 (rows * 6) (r * 6 + u)
best_pair f g rows r u first second =
    record {
      from = omega arith;
      until = let i = first.until in let j = second.until in omega arith;
      nearest = λ m low high.
          let a = first.nearest (m / 6) (omega arith) (omega arith) in
          let b = second.nearest (m % 6) (omega arith) (omega arith) in
          rw (row, column) (omega (arith, a, b));
      least = λ m low less. before m less (eq-or-lt_of_le (omega (arith, less, second.until)));
    } where
      row : (r * 6 + u) / 6 ≡ r
      row = omega (arith, second.until)

      column : (r * 6 + u) % 6 ≡ u
      column = omega (arith, second.until)

      before : (m : ℕ) → m < r * 6 + u → (m / 6 ≡ r) ⊎ (m / 6 < r)
          → f ((r * 6 + u) / 6) + g ((r * 6 + u) % 6) < f (m / 6) + g (m % 6)
      before m less (inl e) =
          let b = second.least (m % 6) (omega arith) (omega arith) in rw (row, column, e) (omega (arith, b))
      before m less (inr h) =
          let a = first.least (m / 6) (omega arith) h in
          let b = second.nearest (m % 6) (omega arith) (omega arith) in rw (row, column) (omega (arith, a, b))

-- the same search from 16 on
best_after : (f g : ℕ → ℕ) (end best : ℕ) → ((m : ℕ) → m < end → f (16 + m) ≡ g m) → IsBest g 0 end best
    → IsBest f 16 (16 + end) (16 + best)
best_after f g end best same h =
    record {
      from = omega arith;
      until = omega (arith, h.until);
      nearest = λ m low high. at m low (omega arith) (h.nearest (m - 16) (omega arith) (omega arith));
      least = λ m low less.
          under m low (omega (arith, h.until)) (h.least (m - 16) (omega arith) (omega arith));
    } where
      at : (m : ℕ) → 16 ≤ m → m < 16 + end → g best ≤ g (m - 16) → f (16 + best) ≤ f m
      at m low high near =
          let e : 16 + (m - 16) ≡ m = omega arith in
          let k = rw e at (same (m - 16) (omega arith)) in rw (same best h.until, k) near

      under : (m : ℕ) → 16 ≤ m → m < 16 + end → g best < g (m - 16) → f (16 + best) < f m
      under m low high near =
          let e : 16 + (m - 16) ≡ m = omega arith in
          let k = rw e at (same (m - 16) (omega arith)) in rw (same best h.until, k) near

-- how far a number of the cube is from a shade, by its steps
cube_distance : (s : Shade) (m : ℕ) → m < 216
    → number_distance s (16 + m)
    ≡ step_distance s.red (m / 6 / 6) + step_distance s.green (m / 6 % 6) + step_distance s.blue (m % 6)
cube_distance s m small =
    let low : nat_lt (16 + m) 16 ≡ false = grind (arith, nat_tests) in
    let high : nat_lt (16 + m) 232 ≡ true = grind (arith, nat_tests) in
    let place : 16 + m - 16 ≡ m = omega arith in
    let red : m / 36 ≡ m / 6 / 6 = omega arith in rw (low, high, place, red) refl

-- the number of the nearest steps is the nearest of the cube
pub cube_best : (s : Shade) (r g u : ℕ) → IsBest (step_distance s.red) 0 6 r
    → IsBest (step_distance s.green) 0 6 g → IsBest (step_distance s.blue) 0 6 u
    → IsBest (number_distance s) 16 232 (16 + 36 * r + 6 * g + u)
cube_best s r g u red green blue =
    let front = best_pair (step_distance s.red) (step_distance s.green) 6 r g red green in
    let all = best_pair _ (step_distance s.blue) 36 (r * 6 + g) u front blue in
    let place : 16 + 36 * r + 6 * g + u ≡ 16 + ((r * 6 + g) * 6 + u) = omega arith in
    rw place (best_after (number_distance s) _ 216 _ (cube_distance s) all)
