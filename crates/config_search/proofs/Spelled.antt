-- A value of `safe.directory` spells one path at most.
use Rattle.std.proofs.Common.{◌≡◌, ◌∙◌, inl, inr, ℕ, List, ◌++◌, Option, None, ap, codes, sym}
use Rattle.std.proofs.lemmas.Bool.{true≢false}
use Rattle.std.proofs.lemmas.Option.{none-some}
use Rattle.config_file.specs.Path.{Expands, below_home, below_prefix, other, BeginsUnknown, user, no_home, no_prefix, is_rest}
use Rattle.config_search.specs.System.{System}
use Rattle.config_search.specs.Trust.{Spells, SpellsOther}
use Rattle.config_search.specs.declared.TheConstants.{VARIABLE}
use Rattle.config_search.proofs.Names.{same_rest}

home_or_prefix : {value a b : List ℕ} → value ≡ codes "~" ++ a → value ≡ codes "%(prefix)/" ++ b → ⊥
home_or_prefix e f = cc

one_path : {home install : Option (List ℕ)} {value p q : List ℕ} → Expands home install value p
    → Expands home install value q → p ≡ q
one_path (below_home a r e is h f) (below_home b s g so i k) = cc
one_path (below_home a r e is h f) (below_prefix b s g i k) = absurd (home_or_prefix e g)
one_path (below_home a r e is h f) (other m n k) = absurd (m r e)
one_path (below_prefix a r e h f) (below_home b s g so i k) = absurd (home_or_prefix g e)
one_path (below_prefix a r e h f) (below_prefix b s g i k) = cc
one_path (below_prefix a r e h f) (other m n k) = absurd (n r e)
one_path (other m n k) (below_home a r e is h f) = absurd (m r e)
one_path (other m n k) (below_prefix a r e h f) = absurd (n r e)
one_path (other m n e) (other o p f) = cc

known_or_unknown : {home install : Option (List ℕ)} {value p : List ℕ} → Expands home install value p
    → BeginsUnknown home install value → ⊥
known_or_unknown {value = value} (below_home a r e is h f) (user s g u) =
    true≢false (sym is ∙ ap is_rest (same_rest (codes "~") value r s e g) ∙ u)
known_or_unknown (below_home a r e is h f) (no_home s g u) = none-some a (sym u ∙ h)
known_or_unknown (below_home a r e is h f) (no_prefix s g u) = home_or_prefix e g
known_or_unknown (below_prefix a r e h f) (user s g u) = home_or_prefix g e
known_or_unknown (below_prefix a r e h f) (no_home s g u) = home_or_prefix g e
known_or_unknown (below_prefix a r e h f) (no_prefix s g u) = none-some a (sym u ∙ h)
known_or_unknown (other m n k) (user s g u) = m s g
known_or_unknown (other m n k) (no_home s g u) = m s g
known_or_unknown (other m n k) (no_prefix s g u) = n s g

of_one : (system : System) {home install : Option (List ℕ)} {value p q : List ℕ} → Expands home install value p
    → SpellsOther system value q → ⊥
of_one system {value = value} (below_home a r e is h f) (s, own, g, u, at, so) =
    true≢false (sym is ∙ ap is_rest (same_rest (codes "~") value r s e g) ∙ u)
of_one system (below_prefix a r e h f) (s, own, g, u, at, so) = home_or_prefix g e
of_one system (other m n k) (s, own, g, u, at, so) = m s g

pub spells_one : (system : System) (value p q : List ℕ) → Spells system value p → Spells system value q → p ≡ q
spells_one system value p q (inl is) (inl so) = one_path is so
spells_one system value p q (inl is) (inr so) = absurd (of_one system is so)
spells_one system value p q (inr is) (inl so) = absurd (of_one system so is)
spells_one system value p q (inr (r, a, e, u, h, is)) (inr (s, b, f, v, i, so)) =
    let same : r ≡ s = same_rest (codes "~") value r s e f in cc

-- a value that begins with an unknown folder spells what it spells below that of another user
pub spells_unknown : (system : System) (value : List ℕ) → BeginsUnknown (system VARIABLE (codes "HOME")) None value
    → ((path : List ℕ) → ¬ (SpellsOther system value path)) → (path : List ℕ) → ¬ (Spells system value path)
spells_unknown system value begins none path (inl is) = known_or_unknown is begins
spells_unknown system value begins none path (inr is) = none path is
