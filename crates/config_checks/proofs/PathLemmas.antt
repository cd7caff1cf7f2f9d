-- Paths that begin with a home directory.
use Rattle.std.proofs.Common.{◌≡◌, ◌↔◌, IsTrue, ℕ, List, Bool, true, false, Some, sym, subst, ◌∙◌}
use Rattle.config_path.specs.Interpolation.{Form, HasForm}
use Rattle.config_path.specs.Laws.Interpolation.{one_form}
use Rattle.config_path.specs.Path.{Marked}
use Rattle.config_checks.specs.declared.paths.KnownUsers.{KnownUsers}
use Rattle.config_checks.specs.Paths.{LacksHome, IsPathOfForm, IsHomeless}

one_kept : (t : List ℕ) (a b : Bool) (k m : List ℕ) → Marked t a k → Marked t b m → k ≡ m
one_kept t true true k m p q = cc
one_kept t true false k m p q = absurd (q.1 k p)
one_kept t false true k m p q = absurd (p.1 m q)
one_kept t false false k m p q = p.0 ∙ sym q.0

-- a text is a path of only one form
one_form_of : (t : List ℕ) (f g : Form) → IsPathOfForm t f → IsPathOfForm t g → f ≡ g
one_form_of t f g p q =
    one_form p.1 f g p.3 (subst (λ path. HasForm path g) (one_kept t q.0 p.0 q.1 p.1 q.2 p.2) q.3)

-- the form of a path decides
pub homeless_if : (users : KnownUsers) (t : List ℕ) (form : Form) (b : Bool) → IsPathOfForm t form
    → (IsTrue b ↔ LacksHome users form) → IsTrue b ↔ IsHomeless (Some users) t
homeless_if users t form b is lacks = (
  λ yes. (form, is, lacks.0 yes),
  λ homeless. lacks.1 (subst (LacksHome users) (one_form_of t homeless.0 form homeless.1 is) homeless.2),
)
