-- The rule lets Git find one thing in a system, and read one list of files.
use Rattle.std.proofs.Common.{◌≡◌, ◌∙◌, ℕ, List, inl, inr, sym, subst}
use Rattle.config_search.specs.System.{System}
use Rattle.config_search.specs.Search.{Sought, Ends, Above, at_root, at_end, is_there, is_further, Seeks, by_variable, in_start, in_above, without_path}
use Rattle.config_search.specs.Files.{File, IsOfSystem, AreFiles}

pub above-one : (system : System) (start : List ℕ) {folder : List ℕ} {a b : Sought}
    → Above system start folder a → Above system start folder b → a ≡ b
above-one system start (at_root n p) (at_root m q) = cc
above-one system start (at_root n p) (at_end v m t q) = cc
above-one system start (at_root n p) (is_there v h m t f q) = cc
above-one system start (at_root n p) (is_further v m t f q) = cc
above-one system start (at_end u n s p) (at_root m q) = cc
above-one system start (at_end u n s p) (at_end v m t q) = cc
above-one system start (at_end u n s p) (is_there v h m t f q) =
    let same : u ≡ v = cc in absurd (t (subst (λ (x : List ℕ). Ends system start x) same s))
above-one system start (at_end u n s p) (is_further v m t f q) =
    let same : u ≡ v = cc in absurd (t (subst (λ (x : List ℕ). Ends system start x) same s))
above-one system start (is_there u g n s e p) (at_root m q) = cc
above-one system start (is_there u g n s e p) (at_end v m t q) =
    let same : v ≡ u = cc in absurd (s (subst (λ (x : List ℕ). Ends system start x) same t))
above-one system start (is_there u g n s e p) (is_there v h m t f q) =
    let same : u ≡ v = cc in cc
above-one system start (is_there u g n s e p) (is_further v m t f q) =
    let same : u ≡ v = cc in cc
above-one system start (is_further u n s e p) (at_root m q) = cc
above-one system start (is_further u n s e p) (at_end v m t q) =
    let same : v ≡ u = cc in absurd (s (subst (λ (x : List ℕ). Ends system start x) same t))
above-one system start (is_further u n s e p) (is_there v h m t f q) =
    let same : u ≡ v = cc in cc
above-one system start {b = b} (is_further u n s e p) (is_further v m t f q) =
    let same : v ≡ u = cc in
    above-one system start p (subst (λ (x : List ℕ). Above system start x b) same q)

pub seeks-one : (system : System) (start : List ℕ) {a b : Sought} → Seeks system start a → Seeks system start b → a ≡ b
seeks-one system start (by_variable s e p) (by_variable t f q) =
    let same : s ≡ t = cc in cc
seeks-one system start (by_variable s e p) (in_start h f g q) = cc
seeks-one system start (by_variable s e p) (in_above l f g r q) = cc
seeks-one system start (by_variable s e p) (without_path f g r q) = cc
seeks-one system start (in_start i d e p) (by_variable t f q) = cc
seeks-one system start (in_start i d e p) (in_start h f g q) = cc
seeks-one system start (in_start i d e p) (in_above l f g r q) = cc
seeks-one system start (in_start i d e p) (without_path f g r q) = cc
seeks-one system start (in_above k d e o p) (by_variable t f q) = cc
seeks-one system start (in_above k d e o p) (in_start h f g q) = cc
seeks-one system start {b = b} (in_above k d e o p) (in_above l f g r q) =
    let same : l ≡ k = cc in
    above-one system start p (subst (λ (x : List ℕ). Above system start x b) same q)
seeks-one system start (in_above k d e o p) (without_path f g r q) = cc
seeks-one system start (without_path d e o p) (by_variable t f q) = cc
seeks-one system start (without_path d e o p) (in_start h f g q) = cc
seeks-one system start (without_path d e o p) (in_above l f g r q) = cc
seeks-one system start (without_path d e o p) (without_path f g r q) = cc

of_system-one : (system : System) (a b : List File) → IsOfSystem system a → IsOfSystem system b → a ≡ b
of_system-one system a b (inl p) (inl q) = p.1 ∙ sym q.1
of_system-one system a b (inl p) (inr q) = absurd (q.0 p.0)
of_system-one system a b (inr p) (inl q) = absurd (p.0 q.0)
of_system-one system a b (inr p) (inr q) = p.1 ∙ sym q.1

pub files-one : (system : System) (others a b : List File) → AreFiles system others a → AreFiles system others b → a ≡ b
files-one system others a b (first, p, is) (second, q, at) =
    let same : first ≡ second = of_system-one system first second p q in cc
