-- If the texts of entries are replaced by others with the same values, each name keeps its result.
use Rattle.std.proofs.Common.{◌≡◌, ◌⊎◌, inl, inr, ℕ, zero, suc, List, [], ◌∷◌, Some, sym, subst, ap, ◌∙◌}
use Rattle.std.specs.List.{AllZip}
use Rattle.std.proofs.lemmas.Option.{same_Some, none-some}
use Rattle.config_text.specs.Settings.{IsNamed, Decides, Finds, decided, absent, DecidingIsRefused}
use Rattle.config_text.specs.Settings.{IsReplaced, kept, replaced, SameAnswers}

-- two texts are the same, or have the same value
abbrev SameText : {V : Type 0} → (List ℕ → V → Type 0) → List ℕ → List ℕ → Type 0
SameText {V} grammar t u = (t ≡ u) ⊎ ((v : V) × grammar t v × grammar u v)

abbrev SameEntry : {V : Type 0} → (List ℕ → V → Type 0) → List ℕ × List ℕ → List ℕ × List ℕ → Type 0
SameEntry grammar e f = (e.0 ≡ f.0) × SameText grammar e.1 f.1

same_entry : {V : Type 0} (grammar : List ℕ → V → Type 0) (canonical : List ℕ → Type 0)
    (e f : List ℕ × List ℕ) → IsReplaced grammar canonical e f → SameEntry grammar e f
same_entry grammar canonical e f (kept same) = (ap (λ p. p.0) same, inl (ap (λ p. p.1) same))
same_entry grammar canonical e f (replaced v names had is has) = (names, inr (v, had, has))

entry_back : {V : Type 0} (grammar : List ℕ → V → Type 0) (e f : List ℕ × List ℕ) → SameEntry grammar e f
    → SameEntry grammar f e
entry_back grammar e f (names, inl same) = (sym names, inl (sym same))
entry_back grammar e f (names, inr both) = (sym names, inr (both.0, both.2, both.1))

same_entries : {V : Type 0} (grammar : List ℕ → V → Type 0) (canonical : List ℕ → Type 0)
    (es fs : List (List ℕ × List ℕ))
    → AllZip (IsReplaced grammar canonical) es fs → AllZip (SameEntry grammar) es fs
same_entries grammar canonical [] [] all = tt
same_entries grammar canonical [] (f ∷ fs) all = absurd all
same_entries grammar canonical (e ∷ es) [] all = absurd all
same_entries grammar canonical (e ∷ es) (f ∷ fs) all =
    (same_entry grammar canonical e f all.0, same_entries grammar canonical es fs all.1)

entries_back : {V : Type 0} (grammar : List ℕ → V → Type 0) (es fs : List (List ℕ × List ℕ))
    → AllZip (SameEntry grammar) es fs → AllZip (SameEntry grammar) fs es
entries_back grammar [] [] all = tt
entries_back grammar [] (f ∷ fs) all = absurd all
entries_back grammar (e ∷ es) [] all = absurd all
entries_back grammar (e ∷ es) (f ∷ fs) all = (entry_back grammar e f all.0, entries_back grammar es fs all.1)

-- a name is at the same places in both lists, with the same text or a text of the same value
named_on : {V : Type 0} (grammar : List ℕ → V → Type 0) (es fs : List (List ℕ × List ℕ))
    → AllZip (SameEntry grammar) es fs
    → (n : List ℕ) (i : ℕ) (t : List ℕ) → IsNamed es n i t
    → (u : List ℕ) × IsNamed fs n i u × SameText grammar t u
named_on grammar [] fs all n i t named = absurd (none-some (n, t) named)
named_on grammar (e ∷ es) [] all n i t named = absurd all
named_on grammar (e ∷ es) (f ∷ fs) all n zero t named =
    let is = same_Some e (n, t) named in
    let name : f.0 ≡ n = sym all.0.0 ∙ ap (λ p. p.0) is in
    (f.1, ap (λ m. Some (m, f.1)) name, subst (λ x. SameText grammar x f.1) (ap (λ p. p.1) is) all.0.1)
named_on grammar (e ∷ es) (f ∷ fs) all n (suc i) t named = named_on grammar es fs all.1 n i t named

decides_on : {V : Type 0} (grammar : List ℕ → V → Type 0) (es fs : List (List ℕ × List ℕ))
    → AllZip (SameEntry grammar) es fs
    → (n : List ℕ) (i : ℕ) (t : List ℕ) → Decides es n i t
    → (u : List ℕ) × Decides fs n i u × SameText grammar t u
decides_on grammar es fs all n i t decides =
    let here = named_on grammar es fs all n i t decides.named in (
      here.0,
      record {
        named = here.1;
        last = λ j u above named.
            let there = named_on grammar fs es (entries_back grammar es fs all) n j u named in
            decides.last j there.0 above there.1;
      },
      here.2,
    )

finds_on : {V : Type 0} (grammar : List ℕ → V → Type 0)
    → ((t : List ℕ) (v w : V) → grammar t v → grammar t w → v ≡ w)
    → (es fs : List (List ℕ × List ℕ)) → AllZip (SameEntry grammar) es fs
    → (n : List ℕ) (default v : V) → Finds grammar es n default v → Finds grammar fs n default v
finds_on {V} grammar one es fs all n default v (decided i t decides has) =
    let on = decides_on grammar es fs all n i t decides in with_text on.0 on.1 on.2 where
      with_text : (u : List ℕ) → Decides fs n i u → SameText grammar t u → Finds grammar fs n default v
      with_text u on (inl same) = decided i u on (subst (λ x. grammar x v) same has)
      with_text u on (inr both) = decided i u on (subst (grammar u) (one t both.0 v both.1 has) both.2)
finds_on grammar one es fs all n default v (absent nowhere is) =
    absent (λ i t named. let there = named_on grammar fs es (entries_back grammar es fs all) n i t named in
    nowhere i there.0 there.1) is

refuses_on : {V : Type 0} (grammar : List ℕ → V → Type 0) (es fs : List (List ℕ × List ℕ))
    → AllZip (SameEntry grammar) es fs
    → (n : List ℕ) (i : ℕ) (t : List ℕ) → DecidingIsRefused grammar es n i t
    → DecidingIsRefused grammar fs n i t
refuses_on grammar es fs all n i t refuses = let on = decides_on grammar es fs all n i t refuses.decides in
    with_text on.0 on.1 on.2 where
      with_text : (u : List ℕ) → Decides fs n i u → SameText grammar t u → DecidingIsRefused grammar fs n i t
      with_text u on (inl same) = record {
        decides = subst (Decides fs n i) (sym same) on;
        refused = refuses.refused;
      }
      with_text u on (inr both) = absurd (refuses.refused both.0 both.1)

pub replaced_answers : {V : Type 0} (grammar : List ℕ → V → Type 0) (canonical : List ℕ → Type 0)
    → ((t : List ℕ) (v w : V) → grammar t v → grammar t w → v ≡ w)
    → (es fs : List (List ℕ × List ℕ)) → AllZip (IsReplaced grammar canonical) es fs
    → SameAnswers grammar es fs
replaced_answers grammar canonical one es fs all =
    let on = same_entries grammar canonical es fs all in
    let back = entries_back grammar es fs on in
    record {
      values = λ n default v. (
        finds_on grammar one es fs on n default v,
        finds_on grammar one fs es back n default v,
      );
      refusals = λ n i t. (refuses_on grammar es fs on n i t, refuses_on grammar fs es back n i t);
    }
