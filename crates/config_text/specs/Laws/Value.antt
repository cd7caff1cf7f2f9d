-- If a function computes a grammar, a text has at most one value, and is accepted or refused.
use Rattle.std.proofs.Common.{◌≡◌, ℕ, ◌⊎◌, inl, inr, List, Option, Some, None, Bool, true, false, refl, sym}
use Rattle.std.proofs.Common.{ap, ◌∙◌}
use Rattle.std.specs.Str.{bytes_eq}
use Rattle.std.proofs.lemmas.Slice.Eq.{bytes_eq-Decides}
use Rattle.std.specs.Bool.{Decides}
use Rattle.config_text.specs.Value.{IsAccepted, IsRefused, HasText, Reads, IsTextOf, HasMeaning}

-- the function computes the grammar: it returns the value that the grammar gives a text, otherwise `None`
pub record IsValueOf {V : Type 0} (grammar : List ℕ → V → Type 0)
    (value_of : List ℕ → Option V) : Type 0 where
  pub found : (t : List ℕ) (v : V) → grammar t v → value_of t ≡ Some v
  pub derived : (t : List ℕ) (v : V) → value_of t ≡ Some v → grammar t v

-- a text is the word or it is not
pub text_told : (t w : List ℕ) → (t ≡ w) ⊎ (¬ (t ≡ w))
text_told t w = told (bytes_eq t w) (bytes_eq-Decides t w) where
  told : (b : Bool) → Decides b (t ≡ w) → (t ≡ w) ⊎ (¬ (t ≡ w))
  told true d = inl (d.0 refl)
  told false d = inr (λ h. let e = d.1 h in cc)

pub decided_by : {V : Type 0} {grammar : List ℕ → V → Type 0} {value_of : List ℕ → Option V}
    → IsValueOf grammar value_of
    → (t : List ℕ) → IsAccepted grammar t ⊎ IsRefused grammar t
decided_by {V} {grammar} {value_of} law t = told (value_of t) refl where
  told : (o : Option V) → value_of t ≡ o → IsAccepted grammar t ⊎ IsRefused grammar t
  told (Some v) e = inl (v, law.derived t v e)
  told None e = inr (λ v h. cc (e, law.found t v h))

pub one_value_by : {V : Type 0} {grammar : List ℕ → V → Type 0} {value_of : List ℕ → Option V}
    → IsValueOf grammar value_of
    → (t : List ℕ) (v w : V) → grammar t v → grammar t w → v ≡ w
one_value_by law t v w p q = cc (law.found t v p, law.found t w q)

-- an exact reader returns what the function returns
pub read_by : {V : Type 0} {grammar : List ℕ → V → Type 0} {value_of : List ℕ → Option V}
    → IsValueOf grammar value_of
    → (t : List ℕ) (r : Option V) → Reads grammar t r → r ≡ value_of t
read_by {V} {grammar} {value_of} law t (Some v) h = cc (law.found t v h)
read_by {V} {grammar} {value_of} law t None h = told (value_of t) refl where
  told : (o : Option V) → value_of t ≡ o → None ≡ value_of t
  told None e = cc
  told (Some v) e = absurd (h v (law.derived t v e))

pub reads_by : {V : Type 0} {grammar : List ℕ → V → Type 0} {value_of : List ℕ → Option V}
    → IsValueOf grammar value_of
    → (t : List ℕ) (r : Option V) → r ≡ value_of t → Reads grammar t r
reads_by law t (Some v) e = law.derived t v (cc (e))
reads_by law t None e = λ v h. cc (e, law.found t v h)

-- the text has a value, and is the text that this value is shown as
pub record IsShown {V : Type 0} (grammar : List ℕ → V → Type 0) (shown : V → List ℕ)
    (t : List ℕ) : Type 0 where
  pub value : V
  pub reads_to : grammar t value
  pub same : t ≡ shown value

-- a value has at most one canonical text, if each canonical text is the shown text of a value that it has
pub one_text_by : {V : Type 0} {grammar : List ℕ → V → Type 0} {shown : V → List ℕ}
    {canonical : List ℕ → Type 0}
    → ((t : List ℕ) (v w : V) → grammar t v → grammar t w → v ≡ w)
    → ((t : List ℕ) → canonical t → IsShown grammar shown t)
    → (s t : List ℕ) (v : V) → canonical s → canonical t → grammar s v → grammar t v → s ≡ t
one_text_by {V} {grammar} {shown} {canonical} one law s t v p q r u = as_shown s p r
    ∙ sym (as_shown t q u) where
      as_shown : (t : List ℕ) → canonical t → grammar t v → t ≡ shown v
      as_shown t p r = let k = law t p in k.same ∙ ap shown (one t k.value v k.reads_to r)

pub canonical_reads_by : {V : Type 0} {grammar : List ℕ → V → Type 0} {shown : V → List ℕ}
    {canonical : List ℕ → Type 0}
    → ((t : List ℕ) → canonical t → IsShown grammar shown t) → (t : List ℕ) → canonical t
    → IsAccepted grammar t
canonical_reads_by law t p = let k = law t p in (k.value, k.reads_to)

-- a text with a value means this value, and the text that the value is shown as
pub means_shown : {V : Type 0} {grammar : List ℕ → V → Type 0} {canonical : List ℕ → Type 0}
    {displayed : V → List ℕ}
    → ((t : List ℕ) (v w : V) → grammar t v → grammar t w → v ≡ w)
    → ((s t : List ℕ) (v : V) → canonical s → canonical t → grammar s v → grammar t v → s ≡ t)
    → ((v : V) → HasText grammar v → IsTextOf grammar canonical v (displayed v))
    → (t : List ℕ) (v : V) → grammar t v → HasMeaning grammar canonical t v (displayed v)
means_shown {displayed = displayed} one_value one_text shown t v h =
    let text = shown v (t, h) in record {
      derived = h;
      one_value = λ w k. one_value t w v k h;
      text = text;
      only_text = λ r p k. one_text r (displayed v) v p text.canonical_text k text.reads_to;
    }

-- it is decided whether this holds
abbrev pub Told : Type 0 → Type 0
Told P = P ⊎ (¬ P)

pub either_told : {P Q : Type 0} → Told P → Told Q → Told (P ⊎ Q)
either_told (inl p) q = inl (inl p)
either_told (inr p) (inl q) = inl (inr q)
either_told (inr p) (inr q) = inr (λ h. elim h [ inl x ↦ p x | inr y ↦ q y ])
