-- Keys that follow what Git lists of their section, and texts that are looked at by a block at each end.
use Rattle.std.proofs.Common.{◌≡◌, ◌+◌, ◌-◌, ◌*◌, ◌%◌, ◌^◌, ◌<◌, ◌≤◌, ◌++◌, ◌∙◌, ℕ, zero, suc, List, []}
use Rattle.std.proofs.Common.{◌∷◌, Option, Some, Ok, Err, Bool, true, false, not, cond, eqb, w8, refl, sym}
use Rattle.std.proofs.Common.{ap, ap₂, arith, length, map, take, drop, replicate}
use Rattle.std.specs.Prelude.{OnOk, Result, is_ok, if◌then◌else◌}
use Rattle.std.specs.Char.{to_ascii_lowercase}
use Rattle.std.proofs.lemmas.Bool.{eqb-true, agree_below, agree_below_at}
use Rattle.std.proofs.lemmas.List.{append_assoc, append-nil, length-drop, map-append, take-append-drop}
use Rattle.std.proofs.lemmas.List.{take-map, take-take, take_all}
use Rattle.std.proofs.lemmas.Simd.{tops_compared, mask_l-mod, length-zip2, length-chunk}
use Rattle.std.proofs.Math.Seq.{take-append-add}
use lib.Lanes.{Each1, chunk, zip2, mask_l, sel_l, top}
use Rattle.config_file.specs.Header.{Section}
use Rattle.config_file.specs.Listing.{IsListed, IsListedSection, in_section}

pub front_alone : (section : Section) (front : List ℕ)
    → ((listed : List ℕ) → IsListed (Some section) [] listed → front ≡ [] ++ listed)
    → (listed : List ℕ) → IsListedSection section listed → front ≡ listed
front_alone section front is listed lists = is (listed ++ []) (in_section lists) ∙ append-nil listed

key_after : (section : Section) (key old front whole new listed : List ℕ)
    → ((listed : List ℕ) → IsListedSection section listed → front ≡ listed) → whole ≡ old ++ front
    → new ≡ whole ++ map to_ascii_lowercase key → IsListed (Some section) key listed → new ≡ old ++ listed
key_after section key old front whole new listed is begins same (in_section {listed = begin} lists) =
    same ∙ ap (λ w. w ++ map to_ascii_lowercase key) (begins ∙ ap (λ f. old ++ f) (is begin lists))
    ∙ append_assoc old begin (map to_ascii_lowercase key)

pub front_and_key : {E : Type 0} (result : Result (Unit {0}) E) (under : Option Section) (section : Section)
    (key old front whole new listed : List ℕ) → under ≡ Some section
    → ((listed : List ℕ) → IsListedSection section listed → front ≡ listed) → whole ≡ old ++ front
    → OnOk result (new ≡ whole ++ map to_ascii_lowercase key) → IsListed under key listed
    → OnOk result (new ≡ old ++ listed)
front_and_key (Err e) under section key old front whole new listed some is begins same lists = tt
front_and_key (Ok u) under section key old front whole new listed some is begins same lists =
    key_after section key old front whole new listed is begins same (rw some at lists)

first_agrees : (x y rest : ℕ) (same : Bool) → eqb x y ≡ same → cond (not same) 1 0 + 2 * rest ≡ 0
    → (x ≡ y) × (rest ≡ 0)
first_agrees x y rest true is none = (eqb-true x y is, omega arith)
first_agrees x y rest false is none = absurd (omega arith)

no_lane_differs : (xs ys : List ℕ) → length xs ≡ length ys → mask_l (zip2 (λ a b. not (eqb a b)) xs ys) ≡ 0
    → xs ≡ ys
no_lane_differs [] [] long none = refl
no_lane_differs [] (y ∷ ys) long none = absurd (omega arith)
no_lane_differs (x ∷ xs) [] long none = absurd (omega arith)
no_lane_differs (x ∷ xs) (y ∷ ys) long none =
    let agrees = first_agrees x y (mask_l (zip2 (λ a b. not (eqb a b)) xs ys)) (eqb x y) refl none in
    ap₂ (λ a l. a ∷ l) agrees.0 (no_lane_differs xs ys (omega arith) agrees.1)

same_lanes : (xs ys : List ℕ) → length xs ≡ length ys → length xs ≤ 64
    → mask_l (map (top 7) (zip2 (λ a b. cond (not (eqb a b)) 255 0) xs ys)) % 2 ^ 64 ≡ 0 → xs ≡ ys
same_lanes xs ys long small none =
    let lanes = zip2 (λ a b. not (eqb a b)) xs ys in
    let lanes_long : length lanes ≡ length xs = length-zip2 (λ a b. not (eqb a b)) xs ys long in
    no_lane_differs xs ys long (sym (mask_l-mod lanes 64 (omega (arith, lanes_long, small)))
    ∙ ap (λ l. mask_l l % 2 ^ 64) (sym (tops_compared w8 (λ a b. not (eqb a b)) xs ys)) ∙ none)

pub same_blocks : (at n : ℕ) (one other : List ℕ) → at + n ≤ length one → length one ≡ length other → n ≤ 64
    → mask_l (map (top 7) (zip2 (λ a b. cond (not (eqb a b)) 255 0) (chunk at n one) (chunk at n other)))
    % 2 ^ 64 ≡ 0 → chunk at n one ≡ chunk at n other
same_blocks at n one other room long small =
    let block = length-chunk at n one room in
    let other_block = length-chunk at n other (omega (arith, room, long)) in
    same_lanes (chunk at n one) (chunk at n other) (block ∙ sym other_block) (omega (arith, block, small))

pub same_ends : (n : ℕ) (one other : List ℕ) → length one ≡ length other → n ≤ length one → length one ≤ n + n
    → take n one ≡ take n other → take n (drop (length one - n) one) ≡ take n (drop (length one - n) other)
    → one ≡ other
same_ends n one other long within meet front end =
    let back = length one - n in
    let before : take back one ≡ take back other =
    sym (take-take back n one (omega arith)) ∙ ap (take back) front ∙ take-take back n other (omega arith) in
    let after : drop back one ≡ drop back other =
    sym (take_all n (drop back one) (omega (arith, length-drop back one))) ∙ end
    ∙ take_all n (drop back other) (omega (arith, length-drop back other)) in
    sym (take-append-drop back one) ∙ ap₂ (λ a b. a ++ b) before after ∙ take-append-drop back other

-- an addition, a comparison and a subtraction that put each byte into lower case
module _ (add below subtract : ℕ → ℕ → ℕ)
    (all : agree_below (λ x. eqb (add x (cond (top 7 (below (subtract x 65) 26)) 32 0))
    (to_ascii_lowercase x)) (λ x. true) 256 ≡ true) where
  pub lower_lanes : (n : ℕ) (xs : List ℕ) → length xs ≡ n → Each1 (λ x. x < 256) xs
      → zip2 add xs (sel_l (map (top 7) (zip2 below (zip2 subtract xs (replicate n 65)) (replicate n 26)))
      (replicate n 32) (replicate n 0)) ≡ map to_ascii_lowercase xs
  lower_lanes n [] long bytes = refl
  lower_lanes zero (x ∷ xs) long bytes = absurd (omega arith)
  lower_lanes (suc n) (x ∷ xs) long bytes =
      let lowered : ℕ → ℕ = λ x. add x (cond (top 7 (below (subtract x 65) 26)) 32 0) in
      let agrees : lowered x ≡ to_ascii_lowercase x = eqb-true (lowered x) (to_ascii_lowercase x)
      (agree_below_at (λ x. eqb (lowered x) (to_ascii_lowercase x)) (λ x. true) 256 x all bytes.0) in
      ap₂ (λ a l. a ∷ l) agrees (lower_lanes n xs (omega arith) bytes.1)

appended_ends : (f : ℕ → ℕ) (n : ℕ) (old name : List ℕ) → n ≤ length name → length name ≤ n + n
    → take (length old + (length name - n)) (old ++ map f (take n name))
    ++ map f (take n (drop (length name - n) name)) ≡ old ++ map f name
appended_ends f n old name within meet =
    let back = length name - n in
    let front : take back (map f (take n name)) ≡ map f (take back name) =
    take-map f back (take n name) ∙ ap (map f) (take-take back n name (omega arith)) in
    let end : take n (drop back name) ≡ drop back name =
    take_all n (drop back name) (omega (arith, length-drop back name)) in
    let joined : map f (take back name) ++ map f (drop back name) ≡ map f name =
    sym (map-append f (take back name) (drop back name)) ∙ ap (map f) (take-append-drop back name) in
    ap₂ (λ a b. a ++ map f b) (take-append-add old (map f (take n name)) back ∙ ap (λ l. old ++ l) front) end
    ∙ append_assoc old (map f (take back name)) (map f (drop back name)) ∙ ap (λ l. old ++ l) joined

pub pushed_ends : {E : Type 0} (result : Result (Unit {0}) E) (f : ℕ → ℕ) (n start : ℕ)
    (old name first cut new : List ℕ) → start ≡ length old → n ≤ length name → length name ≤ n + n
    → first ≡ old ++ map f (take n name) → cut ≡ take (start + (length name - n)) first
    → new ≡ (if is_ok result then cut ++ map f (take n (drop (length name - n) name)) else cut)
    → OnOk result (new ≡ old ++ map f name)
pushed_ends (Err e) f n start old name first cut new starts within meet begins cuts ends = tt
pushed_ends (Ok u) f n start old name first cut new starts within meet begins cuts ends =
    let back = length name - n in
    let is_cut = cuts ∙ ap₂ (λ k l. take (k + back) l) starts begins in
    ends ∙ ap (λ l. l ++ map f (take n (drop back name))) is_cut ∙ appended_ends f n old name within meet
