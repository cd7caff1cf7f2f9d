-- The place sum is the number that std reads digit by digit from the left.
use Rattle.std.proofs.Common.{◌≡◌, ℕ, suc, ◌+◌, ◌*◌, ◌^◌, ◌≤◌, List, [], ◌∷◌, length, arith, ◌∙◌, ℤ, pos}
use Rattle.std.proofs.Common.{negsuc, ◌⊎◌, inl, inr, w64, FitsSigned}
use Rattle.std.proofs.lemmas.Bool.{cases_lt}
use Rattle.std.proofs.Math.Nat.{pow-zero, pow-succ'}
use Rattle.std.specs.Char.{digit_value}
use Rattle.std.specs.Str.Parse.{digits_value_after, digits_value}
use Rattle.config_text.specs.Numerals.{place_sum, IsInI64}
use Rattle.std.proofs.lemmas.Int.{ints}

pub digits_value_after_is : (base n : ℕ) (ds : List ℕ)
    → digits_value_after base n ds ≡ n * base ^ length ds + place_sum ds base
digits_value_after_is base n [] = none n base where
  none : (n base : ℕ) → n ≡ n * base ^ 0 + 0
  none n base = rw pow-zero (omega arith)
digits_value_after_is base n (c ∷ cs) =
    digits_value_after_is base (n * base + digit_value c) cs
    ∙ step n base (digit_value c) (length cs) (place_sum cs base) where
      step : (n base d k s : ℕ) → (n * base + d) * base ^ k + s ≡ n * base ^ suc k + (d * base ^ k + s)
      step n base d k s = rw pow-succ' (spread n base d (base ^ k) s) where
        spread : (n base d p s : ℕ) → (n * base + d) * p + s ≡ n * (base * p) + (d * p + s)
        spread n base d p s = omega arith

pub place_sum_is : (base : ℕ) (ds : List ℕ) → place_sum ds base ≡ digits_value base ds
place_sum_is base ds = omega (arith, digits_value_after_is base 0 ds)

-- further digits make a number no smaller
pub digits_value_after_ge : (base : ℕ) → 1 ≤ base → (ds : List ℕ) (n : ℕ) → n ≤ digits_value_after base n ds
digits_value_after_ge base h [] n = omega arith
digits_value_after_ge base h (c ∷ cs) n =
    let l = digits_value_after_ge base h cs (n * base + digit_value c) in
    step l where
      step : {m : ℕ} → n * base + digit_value c ≤ m → n ≤ m
      step l = grind arith

-- a number that fits 64 bits with a sign is in range
pub in_range_from_fits : (z : ℤ) → FitsSigned w64 z → IsInI64 z
in_range_from_fits z f = record { low = omega (arith, ints); high = omega (arith, ints) }

-- a number is in range or it is not
pub range_told : (z : ℤ) → IsInI64 z ⊎ (¬ (IsInI64 z))
range_told (pos n) =
    elim (cases_lt n 9223372036854775808) [
      | inl h ↦ inl record { low = omega (arith, ints); high = omega (arith, ints) }
      | inr h ↦ inr (λ r. omega (arith, ints, r.high))
    ]
range_told (negsuc n) =
    elim (cases_lt n 9223372036854775808) [
      | inl h ↦ inl record { low = omega (arith, ints); high = omega (arith, ints) }
      | inr h ↦ inr (λ r. omega (arith, ints, r.low))
    ]
