-- The deciding entry, from facts about the borrowed entry at each index.
use Rattle.std.proofs.Common.{◌≡◌, ◌≢◌, ◌<◌, ◌≤◌, ◌+◌, ℕ, zero, suc, List, [], ◌∷◌, Some, Bor, length, get_or}
use Rattle.std.proofs.Common.{refl, subst, ◌∙◌, ap, arith}
use Rattle.std.specs.List.{slice_get, HoldsAt, AllWithin}
use Rattle.std.proofs.lemmas.Option.{slice_get-map, slice_get-get_or, slice_get_within, get_or_from_slice_get}
use Rattle.std.proofs.lemmas.Option.{same_Some, none-some}
use Rattle.config_text.specs.Settings.{entry_texts, IsNamed, IsAbsent, Decides, Finds, decided}
use Rattle.config_text.specs.Settings.{DecidingIsRefused}
use Rattle.config_text.specs.Value.{IsRefused}

-- if the entry at an index has this name, there is a borrowed entry at the index with this name
named_entry : (es : List (Bor (List ℕ) × Bor (List ℕ))) (n : List ℕ) (j : ℕ) (t : List ℕ)
    → IsNamed (entry_texts es) n j t
    → (e : Bor (List ℕ) × Bor (List ℕ)) × (slice_get es j ≡ Some e) × (e.0.now ≡ n)
named_entry [] n j t named = absurd (none-some (n, t) named)
named_entry (e ∷ es) n zero t named = (e, refl, ap (λ p. p.0) (same_Some _ _ named))
named_entry (e ∷ es) n (suc j) t named = named_entry es n j t named

-- no entry from index `low` on has the name
not_named : (es : List (Bor (List ℕ) × Bor (List ℕ))) (n : List ℕ) (low : ℕ)
    → AllWithin (λ e. e.0.now ≢ n) es low (length es)
    → (j : ℕ) (t : List ℕ) → low ≤ j → ¬ (IsNamed (entry_texts es) n j t)
not_named es n low none j t above named =
    let found = named_entry es n j t named in
    none j found.0 above (slice_get_within es j found.0 found.1)
    (ap (λ e. e.0.now) (get_or_from_slice_get es j found.0 found.0 found.1) ∙ found.2)

-- what a search from the end finds is the deciding entry
pub decides_at : (es : List (Bor (List ℕ) × Bor (List ℕ))) (n : List ℕ) (i : ℕ)
    (d : Bor (List ℕ) × Bor (List ℕ))
    → i < length es → HoldsAt (λ e. e.0.now ≡ n) es i → AllWithin (λ e. e.0.now ≢ n) es (i + 1) (length es)
    → Decides (entry_texts es) n i (get_or es i d).1.now
decides_at es n i d within hit later =
    record { named = named; last = λ j u above. not_named es n (i + 1) later j u (omega arith) } where
      named : IsNamed (entry_texts es) n i (get_or es i d).1.now
      named = let e = slice_get-get_or es i d within in rw (slice_get-map, e, hit d)

-- a search that finds nothing shows that no entry has the name
pub absent_by : (es : List (Bor (List ℕ) × Bor (List ℕ))) (n : List ℕ)
    → AllWithin (λ e. e.0.now ≢ n) es 0 (length es) → IsAbsent (entry_texts es) n
absent_by es n nowhere j t = not_named es n 0 nowhere j t (omega arith)

-- the result is what the text of the deciding entry reads to
pub finds_at : {V : Type 0} (grammar : List ℕ → V → Type 0) (es : List (List ℕ × List ℕ)) (n : List ℕ)
    (default : V) (i : ℕ) (t u : List ℕ) (v : V)
    → Decides es n i u → t ≡ u → grammar t v → Finds grammar es n default v
finds_at grammar es n default i t u v decides is reads =
    decided i u decides (subst (λ x. grammar x v) is reads)

pub refuses_at : {V : Type 0} (grammar : List ℕ → V → Type 0) (es : List (List ℕ × List ℕ)) (n : List ℕ)
    (i : ℕ) (t u : List ℕ)
    → Decides es n i u → t ≡ u → IsRefused grammar t → DecidingIsRefused grammar es n i u
refuses_at grammar es n i t u decides is refused =
    record { decides = decides; refused = subst (IsRefused grammar) is refused }
