-- What the comparisons, the hash and the clones of a type promise.
use Rattle.std.specs.Prelude.{◌≡◌, ◌↔◌, Bool, IsTrue, Option, Some}
use Rattle.std.specs.Cmp.{IsTotalOrder}
use Rattle.std.specs.Ordering.{is_eq}
use Rattle.std.specs.declared.cmp.Ordering.{Ordering}

-- `==` says whether two values are the same; `cmp` and `partial_cmp` return their order, which is total and
-- agrees with `==`; equal values hash equally
pub record HasOrder {V H : Type 0} (same : V → V → Type 0) (order : V → V → Ordering)
    (eq : V → V → Bool) (cmp : V → V → Ordering) (partial_cmp : V → V → Option Ordering)
    (hash_input : V → H) : Type 0 where
  pub equal : (v w : V) → (IsTrue (eq v w)) ↔ (same v w)
  pub ordered : (v w : V) → cmp v w ≡ order v w
  pub partial : (v w : V) → partial_cmp v w ≡ Some (order v w)
  pub total : IsTotalOrder cmp
  pub agrees : (v w : V) → eq v w ≡ is_eq (cmp v w)
  pub hashes : (v w : V) → IsTrue (eq v w) → hash_input v ≡ hash_input w

-- `==` is true exactly if the two values are the same
abbrev pub Equates : {V : Type 0} → (V → V → Type 0) → (V → V → Bool) → Type 0
Equates {V} same eq = (v w : V) → (IsTrue (eq v w)) ↔ (same v w)

-- a clone is the same value as its original, and cloning never fails
pub record IsCopied {V : Type 0} (is_clone : V → V → Type 0) (is_infallible : V → Type 0) : Type 0 where
  pub same : (v w : V) → is_clone v w → w ≡ v
  pub always : (v : V) → is_infallible v
