-- One entry decides, so a name has at most one result.
use Rattle.std.proofs.Common.{◌≡◌, inl, inr, ℕ, List, Some, sym, subst, ap, ◌∙◌}
use Rattle.std.specs.List.{slice_get}
use Rattle.std.proofs.lemmas.Bool.{cases_order}
use Rattle.std.proofs.lemmas.Option.{same_Some}
use Rattle.config_text.specs.Settings.{Decides, Finds, decided, absent, DecidingIsRefused, OneAnswer}

pub decides_once : (es : List (List ℕ × List ℕ)) (n : List ℕ) (i j : ℕ) (t u : List ℕ) → Decides es n i t
    → Decides es n j u → (i ≡ j) × (t ≡ u)
decides_once es n i j t u first second = elim (cases_order i j) [
  | inl same ↦ (
    same,
    ap (λ p. p.1)
        (same_Some (n, t) (n, u) (sym first.named
        ∙ subst (λ k. slice_get es k ≡ Some (n, u)) (sym same) second.named)),
  )
  | inr (inl below) ↦ absurd (first.last j u below second.named)
  | inr (inr above) ↦ absurd (second.last i t above first.named)
]

pub one_answer_by : {V : Type 0} (grammar : List ℕ → V → Type 0)
    → ((t : List ℕ) (v w : V) → grammar t v → grammar t w → v ≡ w)
    → (es : List (List ℕ × List ℕ)) → OneAnswer grammar es
one_answer_by {V} grammar one es =
    record {
      value = value;
      refusal = λ n i j t u p q. decides_once es n i j t u p.decides q.decides;
      apart = apart;
    } where
      value : (n : List ℕ) (default v w : V) → Finds grammar es n default v → Finds grammar es n default w → v ≡ w
      value n default v w (decided i t p reads) (decided j u q also) =
          one t v w reads (subst (λ x. grammar x w) (sym (decides_once es n i j t u p q).1) also)
      value n default v w (decided i t p reads) (absent nowhere is) = absurd (nowhere i t p.named)
      value n default v w (absent nowhere is) (decided j u q also) = absurd (nowhere j u q.named)
      value n default v w (absent nowhere is) (absent none also) = is ∙ sym also

      apart : (n : List ℕ) (default v : V) (i : ℕ) (t : List ℕ) → Finds grammar es n default v
          → ¬ (DecidingIsRefused grammar es n i t)
      apart n default v i t (decided j u q reads) refuses =
          refuses.refused v (subst (λ x. grammar x v) (decides_once es n j i u t q refuses.decides).1 reads)
      apart n default v i t (absent nowhere is) refuses = nowhere i t refuses.decides.named
