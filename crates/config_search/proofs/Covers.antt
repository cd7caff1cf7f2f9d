-- Whether a value names a folder: what decides each part of that decides the whole.
use Rattle.std.proofs.Common.{◌≡◌, ◌≢◌, ◌∙◌, ◌⊎◌, inl, inr, ℕ, Bool, List, ◌++◌, Option, None, Some, true, false, Decides, MatchOption, ap, append_assoc, codes, refl, subst, sym}
use Rattle.std.specs.Str.{bytes_eq}
use Rattle.std.proofs.lemmas.Bool.{true≢false}
use Rattle.std.proofs.lemmas.Bool.Decides.{Decides-like}
use Rattle.std.proofs.lemmas.List.{append_cancel_right}
use Rattle.std.proofs.lemmas.Slice.Eq.{bytes_eq-Decides}
use Rattle.config_search.specs.System.{System}
use Rattle.config_search.specs.Names.{begins, inside}
use Rattle.config_search.specs.Trust.{IsBelow, IsAbove, Covers, IsPathTo, NamesFolder, Spells}
use Rattle.config_search.proofs.Names.{other_two}
use Rattle.config_search.proofs.Spelled.{spells_one}

pub yes : {P : Type 0} → P → Decides true P
yes holds = (λ e. holds, λ p. refl)

pub no : {P : Type 0} → ¬ P → Decides false P
no fails = (λ e. absurd (true≢false (sym e)), λ p. absurd (fails p))

-- two texts differ, of which a test says so
pub differ : {x y : List ℕ} {is : Bool} → is ≡ bytes_eq x y → is ≡ false → x ≢ y
differ {x} {y} tells not same = true≢false (sym ((bytes_eq-Decides x y).1 same) ∙ sym tells ∙ not)

-- a text that may be there, and another thing that is said of it, or of there being none
pub option_then : {A N M : Type 0} {P Q : A → Type 0} (found : Option A) → (N → M) → ((a : A) → P a → Q a)
    → MatchOption found N P → MatchOption found M Q
option_then None none some is = none is
option_then (Some a) none some is = some a is

-- a name without one slash at its end
abbrev pub IsWithoutSlash : List ℕ → List ℕ → Type 0
IsWithoutSlash name front = (name ≡ front ++ codes "/") ⊎ (((f : List ℕ) → name ≢ f ++ codes "/") × (name ≡ front))

-- what is below a folder goes on after its name and a slash
pub goes_below : (top front folder : List ℕ) → IsWithoutSlash top front → IsBelow top folder
    → (rest : List ℕ) × (folder ≡ (front ++ codes "/") ++ rest)
goes_below top front folder (inl cut) (before, rest, inl same, at) = (
  codes "/" ++ rest,
  at ∙ ap (λ (b : List ℕ). (b ++ codes "/") ++ rest) (sym same ∙ cut)
      ∙ append_assoc (front ++ codes "/") (codes "/") rest,
)
goes_below top front folder (inl cut) (before, rest, inr same, at) = (
  rest,
  at ∙ ap (λ (b : List ℕ). (b ++ codes "/") ++ rest)
      (append_cancel_right before front (codes "/") (sym same ∙ cut)),
)
goes_below top front folder (inr cut) (before, rest, inl same, at) =
    (rest, at ∙ ap (λ (b : List ℕ). (b ++ codes "/") ++ rest) (sym same ∙ cut.1))
goes_below top front folder (inr cut) (before, rest, inr same, at) = absurd (cut.0 before same)

-- a folder that goes on after the name without a slash is not below it
pub not_after : (top front folder after : List ℕ) → IsWithoutSlash top front → folder ≡ front ++ after
    → ((rest : List ℕ) → after ≢ codes "/" ++ rest) → ¬ (IsBelow top folder)
not_after top front folder after cut goes none below =
    let (rest, at) = goes_below top front folder cut below in
    none rest (other_two folder front (codes "/") rest after goes at)

pub covers_below : (system : System) (path above folder : List ℕ) (is : Bool) → path ≡ above ++ codes "/*"
    → Decides is (IsAbove system above folder) → Decides is (Covers system path folder)
covers_below system path above folder is ends = Decides-like is (λ it. inl (above, ends, it)) (λ covers. elim covers [
  | inl (other, so, it) ↦ subst (λ (a : List ℕ). IsAbove system a folder)
      (append_cancel_right other above (codes "/*") (sym so ∙ ends)) it
  | inr (none, at) ↦ absurd (none above ends)
])

-- a value that spells a path names a folder as the path does
pub names_by : (system : System) (start value path folder : List ℕ) (is : Bool) → value ≢ codes "*"
    → Spells system value path → Decides is (IsPathTo system start path folder)
    → Decides is (NamesFolder system start value folder)
names_by system start value path folder is other spells =
    Decides-like is (λ to. inr (path, spells, to)) (λ names. elim names [
      | inl star ↦ absurd (other star)
      | inr (also, so, to) ↦ subst (λ (p : List ℕ). IsPathTo system start p folder)
          (spells_one system value also path so spells) to
    ])

pub names_none : (system : System) (start value folder : List ℕ) → value ≢ codes "*"
    → ((path : List ℕ) → ¬ (Spells system value path)) → ¬ (NamesFolder system start value folder)
names_none system start value folder other none (inl star) = other star
names_none system start value folder other none (inr (path, spells, to)) = none path spells

pub path_here : (system : System) (start path folder : List ℕ) (is : Bool) → path ≡ codes "."
    → Decides is (Covers system (inside start (codes ".")) folder) → Decides is (IsPathTo system start path folder)
path_here system start path folder is dot = Decides-like is (λ covers. inl (dot, covers)) (λ to. elim to [
  | inl (so, covers) ↦ covers
  | inr (root, covers) ↦ absurd (true≢false (sym root ∙ ap (begins (codes "/")) dot))
])

pub path_root : (system : System) (start path folder : List ℕ) (is : Bool) → path ≢ codes "."
    → begins (codes "/") path ≡ true → Decides is (Covers system path folder)
    → Decides is (IsPathTo system start path folder)
path_root system start path folder is other root = Decides-like is (λ covers. inr (root, covers)) (λ to. elim to [
  | inl (dot, covers) ↦ absurd (other dot)
  | inr (so, covers) ↦ covers
])

pub path_none : (system : System) (start path folder : List ℕ) → path ≢ codes "."
    → begins (codes "/") path ≡ false → ¬ (IsPathTo system start path folder)
path_none system start path folder other plain (inl (dot, covers)) = other dot
path_none system start path folder other plain (inr (root, covers)) = true≢false (sym root ∙ plain)
