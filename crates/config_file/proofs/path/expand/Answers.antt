use Rattle.std.proofs.Common.{◌≡◌, ◌≢◌, true, false, ℕ, List, [], ◌∷◌, ◌++◌, drop, Option, None, Some}
use Rattle.std.proofs.Common.{MatchOption, refl, inl, inr}
use Rattle.std.proofs.lemmas.Bool.Decides.{eqb_tells}
use Rattle.config_path.specs.Interpolation.{HasForm, IsOneName, below}
use Rattle.config_path.specs.Interpolation.Form.{below_home as home_form, below_prefix as prefix_form}
use Rattle.config_file.specs.declared.path.Expanded.{Expanded}
use Rattle.config_file.specs.Path.{Expands, below_home, below_prefix, other}
use Rattle.config_file.specs.Path.{BeginsUnknown, user, no_home, no_prefix, is_rest}
use Rattle.config_file.proofs.path.expand.Goals as goal

-- the directory, if it is known, is followed by the value without its front
abbrev IsCut : Option (List ℕ) → ℕ → List ℕ → Option Expanded → Type 0
IsCut dir front value result = MatchOption result (dir ≡ None)
    (λ parts. (dir ≡ Some parts.directory.now) × (parts.rest.now ≡ drop front value))

abbrev IsExpanded : (home install : Option (List ℕ)) → List ℕ → Option Expanded → Type 0
IsExpanded home install value result = MatchOption result (BeginsUnknown home install value)
    (λ parts. Expands home install value (parts.directory.now ++ parts.rest.now))

home_rest : (rest : Option (List ℕ)) → is_rest (below [] rest) ≡ true
home_rest None = refl
home_rest (Some rest) = refl

at_home : (home install : Option (List ℕ)) (value : List ℕ) (rest : Option (List ℕ)) (result : Option Expanded)
    → HasForm value (home_form rest) → IsCut home 1 value result → IsExpanded home install value result
at_home home install value rest None e cut = no_home (below [] rest) e cut
at_home home install value rest (Some parts) e cut =
    below_home parts.directory.now (below [] rest) e (home_rest rest) cut.0 (rw (cut.1, e) refl)

at_prefix : (home install : Option (List ℕ)) (value rest : List ℕ) (result : Option Expanded)
    → HasForm value (prefix_form rest) → IsCut install 9 value result → IsExpanded home install value result
at_prefix home install value rest None e cut = no_prefix rest e cut
at_prefix home install value rest (Some parts) e cut =
    below_prefix parts.directory.now rest e cut.0 (rw (cut.1, e) refl)

user_rest : (name : List ℕ) (rest : Option (List ℕ)) → name ≢ [] → IsOneName name
    → is_rest (below name rest) ≡ false
user_rest [] rest some one = absurd (some refl)
user_rest (b ∷ name) None some one = elim (eqb_tells b 47) [ inl h ↦ absurd (one.0 h.1) | inr h ↦ h.0 ]
user_rest (b ∷ name) (Some rest) some one = elim (eqb_tells b 47) [ inl h ↦ absurd (one.0 h.1) | inr h ↦ h.0 ]

pub returns-in-BelowHome : goal.returns-in-BelowHome
returns-in-BelowHome c = at_home _ _ _ _ _ c.in-BelowHome.ensures c.below.ensures

pub returns-in-BelowPrefix : goal.returns-in-BelowPrefix
returns-in-BelowPrefix c = at_prefix _ _ _ _ _ c.in-BelowPrefix.ensures c.below-in-BelowPrefix.ensures

pub returns-in-BelowUser : goal.returns-in-BelowUser
returns-in-BelowUser c = let h = c.in-BelowUser.ensures in user _ h.0 (user_rest _ _ h.1 h.2)

pub returns-in-Empty : goal.returns-in-Empty
returns-in-Empty c = elim c.in-Empty.is [
  | inl is ↦ let e = rw is at c.form_of.ensures in other (λ rest f. cc) (λ rest f. cc) refl
  | inr is ↦ let h = rw is.1 at c.form_of.ensures in other h.3 h.2 refl
]
