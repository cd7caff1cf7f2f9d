-- Runs within sixteen bytes that are looked at at once.
use Rattle.std.proofs.Common.{◌≡◌, ◌≢◌, ℕ, suc, ◌+◌, ◌%◌, ◌^◌, ◌<◌, ◌≤◌, eqb, cond, Bool, true, not, List, []}
use Rattle.std.proofs.Common.{◌∷◌, map, length, get_or, drop, replicate, Fits, w8, refl, sym, ap, ap₂, ◌∙◌, subst, arith}
use Rattle.std.proofs.lemmas.Bool.{agree_below, agree_below_at, eq-eqb, ne_eqb, cond-true, cond-false}
use Rattle.std.proofs.lemmas.Simd.{map-map, mask_l-mod, length-chunk, get_or-chunk, chunk-drop, first_set_mask_l}
use Rattle.std.proofs.lemmas.List.{length-map}
use Rattle.std.proofs.lemmas.List.Folds.{prefix_len-append}
use Rattle.std.proofs.lemmas.List.Sums.{prefix_len-le-length}
use Rattle.std.specs.List.{prefix_len}
use lib.Lanes.{zip2, mask_l, top}
use Rattle.config_file.specs.Reading.Scans.{block, first_set}

lane_by_lane : (h : ℕ → ℕ → ℕ) (f g : ℕ → ℕ) (v : List ℕ) → zip2 h (map f v) (map g v) ≡ map (λ x. h (f x) (g x)) v
lane_by_lane h f g [] = refl
lane_by_lane h f g (x ∷ v) = ap (λ r. h (f x) (g x) ∷ r) (lane_by_lane h f g v)

-- an operation on two vectors that were each computed lane by lane from v
pub both : (h : ℕ → ℕ → ℕ) (f g : ℕ → ℕ) (v : List ℕ) {a b : List ℕ} → a ≡ map f v → b ≡ map g v
    → zip2 h a b ≡ map (λ x. h (f x) (g x)) v
both h f g v p q = ap₂ (zip2 h) p q ∙ lane_by_lane h f g v

pub constant : (v : List ℕ) (n y : ℕ) → length v ≡ n → replicate n y ≡ map (λ _. y) v
constant [] n y e = ap (λ k. replicate k y) (sym e)
constant (x ∷ v) n y e = ap (λ k. replicate k y) (sym e) ∙ ap (λ r. y ∷ r) (constant v (length v) y refl)

-- tests that agree on each byte have the same run
same_run : (p q : ℕ → Bool) (v : List ℕ) → ((k : ℕ) → k < length v → q (get_or v k 0) ≡ p (get_or v k 0))
    → prefix_len q v ≡ prefix_len p v
same_run p q [] agree = refl
same_run p q (x ∷ v) agree =
    ap₂ (λ b n. cond b (1 + n) 0) (agree 0 (omega arith)) (same_run p q v (λ k below. agree (suc k) (omega arith)))

-- the run ends at the first lane whose highest bit is set, if that is so just where the test fails
pub run_is : (p : ℕ → Bool) (text : List ℕ) (at : ℕ) (f : ℕ → ℕ) {z : List ℕ} {r : ℕ} → at + 16 ≤ length text
    → ((k : ℕ) → Fits w8 (get_or text k 0)) → r ≡ first_set (mask_l (map (top 7) z) % 2 ^ 64)
    → z ≡ map f (block at text) → agree_below (λ x. not (top 7 (f x))) p 256 ≡ true
    → r ≡ prefix_len p (block at text)
run_is p text at f room fits found lanes all =
    let v = block at text in
    let stops : ℕ → Bool = λ x. top 7 (f x) in
    let long : length v ≡ 16 = length-chunk at 16 text room in
    let mask = ap (λ l. mask_l l % 2 ^ 64) (ap (map (top 7)) lanes ∙ map-map (top 7) f v)
    ∙ mask_l-mod (map stops v) 64 (omega (arith, length-map v stops, long)) in
    found ∙ ap first_set mask ∙ first_set_mask_l stops v 16 long (omega arith)
    ∙ same_run p (λ x. not (stops x)) v (λ k below.
    agree_below_at (λ x. not (stops x)) p 256 (get_or v k 0) all
    (subst (λ b. b < 256) (sym (get_or-chunk at 16 text k 0 (omega (arith, long)))) (fits (at + k)).fits))

module _ (p : ℕ → Bool) (text : List ℕ) (at r : ℕ) (room : at + 16 ≤ length text)
    (is : r ≡ prefix_len p (block at text)) where
  long : length (block at text) ≡ 16
  long = length-chunk at 16 text room

  pub in_block : r ≤ 16
  in_block = omega (arith, is, long, prefix_len-le-length p (block at text))

  passed : prefix_len p (drop at text) ≡ cond (eqb r 16) (16 + prefix_len p (drop (at + 16) text)) r
  passed = ap (prefix_len p) (chunk-drop at 16 text) ∙ prefix_len-append p (block at text) (drop (at + 16) text)
      ∙ ap₂ (λ k n. cond (eqb k n) (n + prefix_len p (drop (at + 16) text)) k) (sym is) long

  -- the run goes on behind a block of which each byte passes
  pub whole_block : r ≡ 16 → prefix_len p (drop at text) ≡ 16 + prefix_len p (drop (at + 16) text)
  whole_block whole = passed ∙ cond-true (eqb r 16) _ _ (eq-eqb r 16 whole)

  pub short_block : r < 16 → prefix_len p (drop at text) ≡ r
  short_block short =
      let other : r ≢ 16 = λ whole. omega (arith, whole, short) in
      passed ∙ cond-false (eqb r 16) _ _ (ne_eqb r 16 other)
