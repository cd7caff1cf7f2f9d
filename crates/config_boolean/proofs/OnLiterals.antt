-- Booleans of literal texts: a function that computes them, and that it computes the grammar.
use Rattle.std.proofs.Common.{◌≡◌, ℕ, ◌⊎◌, Bool, true, false, cond, ◌||◌, List, [], map, codes, Option, Some}
use Rattle.std.proofs.Common.{None, refl, subst}
use Rattle.std.specs.Prelude.{⊤, bytes_eq}
use Rattle.std.specs.Bool.{Decides}
use Rattle.std.specs.Char.{to_ascii_lowercase}
use Rattle.std.specs.Option.{option_map}
use Rattle.std.proofs.lemmas.Bool.Decides.{Decides-or, not_from_Decides}
use Rattle.std.proofs.lemmas.Option.{none-some, same_Some}
use Rattle.std.proofs.lemmas.Slice.Eq.{bytes_eq-Decides}
use Rattle.config_boolean.specs.declared.boolean.Boolean.{Boolean}
use Rattle.config_boolean.specs.Boolean.{Affirms, Denies, BooleanText}
use Rattle.config_boolean.specs.Boolean.BooleanText.{affirmed, denied, counted}
use Rattle.config_boolean.specs.Laws.Boolean.{boolean_one_value, boolean_refused as no_boolean, nonzero}
use Rattle.config_boolean.specs.Laws.Boolean.{nonzero_is}
use Rattle.config_integer.specs.declared.amount.Amount.{Amount}
use Rattle.config_integer.proofs.OnLiterals.{integer_on_literals, amount_of, amount_text}
use Rattle.config_integer.proofs.OnLiterals.{amount_refused as no_amount}
use Rattle.config_text.specs.SameWord.{SameWord}
use Rattle.config_text.specs.Value.{IsRefused}
use Rattle.config_text.specs.Laws.Value.{IsValueOf}
use Rattle.config_text.proofs.OnLiterals.{value_by}

-- what a proof unfolds to compute `boolean_of` of a literal
unfoldable pub boolean_on_literals : ⊤
unfolding integer_on_literals
boolean_on_literals = tt

-- whether a text is the word, ignoring ASCII case
abbrev pub is_word : List ℕ → List ℕ → Bool
is_word t w = bytes_eq (map to_ascii_lowercase t) (map to_ascii_lowercase w)

abbrev pub affirms : List ℕ → Bool
affirms t = is_word t (codes "yes") || (is_word t (codes "on") || is_word t (codes "true"))

abbrev pub denies : List ℕ → Bool
denies t = bytes_eq t [] || (is_word t (codes "no") || (is_word t (codes "off") || is_word t (codes "false")))

abbrev boolean : Bool → Boolean
boolean b = record { 0 = b }

-- a function that reads boolean texts: the truth value of a word, or whether an amount is not zero
abbrev pub boolean_of : List ℕ → Option Boolean
boolean_of t =
    cond (affirms t) (Some (boolean true))
    (cond (denies t) (Some (boolean false))
    (option_map (λ n. boolean (nonzero n.0)) (amount_of t)))

is_word-Decides : (t w : List ℕ) → Decides (is_word t w) (SameWord t w)
is_word-Decides t w = bytes_eq-Decides (map to_ascii_lowercase t) (map to_ascii_lowercase w)

one_of_three : (t u v w : List ℕ)
    → Decides (is_word t u || (is_word t v || is_word t w)) (SameWord t u ⊎ SameWord t v ⊎ SameWord t w)
one_of_three t u v w =
    Decides-or (is_word t u) (is_word t v || is_word t w) (is_word-Decides t u)
    (Decides-or (is_word t v) (is_word t w) (is_word-Decides t v) (is_word-Decides t w))

affirms-Decides : (t : List ℕ) → Decides (affirms t) (Affirms t)
affirms-Decides t = one_of_three t (codes "yes") (codes "on") (codes "true")

denies-Decides : (t : List ℕ) → Decides (denies t) (Denies t)
denies-Decides t =
    Decides-or _ _ (bytes_eq-Decides t []) (one_of_three t (codes "no") (codes "off") (codes "false"))

boolean_derived : (t : List ℕ) (v : Boolean) → boolean_of t ≡ Some v → BooleanText t v
boolean_derived t v e = told (affirms t) (denies t) (amount_of t) refl refl refl e where
  told : (a d : Bool) (o : Option Amount) → affirms t ≡ a → denies t ≡ d → amount_of t ≡ o
      → cond a (Some (boolean true))
      (cond d (Some (boolean false)) (option_map (λ n. boolean (nonzero n.0)) o))
      ≡ Some v
      → BooleanText t v
  told true d o p q r e = subst (BooleanText t) (same_Some _ v e) (affirmed ((affirms-Decides t).0 p) refl)
  told false true o p q r e = subst (BooleanText t) (same_Some _ v e) (denied ((denies-Decides t).0 q) refl)
  told false false (Some n) p q r e =
      subst (BooleanText t) (same_Some _ v e) (counted n (amount_text t n r) (nonzero_is n.0))
  told false false None p q r e = absurd (none-some v e)

boolean_none : (t : List ℕ) → boolean_of t ≡ None → IsRefused BooleanText t
boolean_none t e = told (affirms t) (denies t) (amount_of t) refl refl refl e where
  told : (a d : Bool) (o : Option Amount) → affirms t ≡ a → denies t ≡ d → amount_of t ≡ o
      → cond a (Some (boolean true))
      (cond d (Some (boolean false)) (option_map (λ n. boolean (nonzero n.0)) o))
      ≡ None
      → IsRefused BooleanText t
  told true d o p q r e = cc
  told false true o p q r e = cc
  told false false (Some n) p q r e = cc
  told false false None p q r e =
      no_boolean t (not_from_Decides _ (affirms-Decides t) p) (not_from_Decides _ (denies-Decides t) q)
      (no_amount t r)

-- `boolean_of` computes the grammar of booleans
pub boolean_of_is : IsValueOf BooleanText boolean_of
boolean_of_is = value_by boolean_one_value boolean_derived boolean_none

-- a text has the value that `boolean_of` returns for it, and is refused if `boolean_of` returns `None`
pub boolean_text : (t : List ℕ) (v : Boolean) → boolean_of t ≡ Some v → BooleanText t v
boolean_text = boolean_derived

pub boolean_refused : (t : List ℕ) → boolean_of t ≡ None → IsRefused BooleanText t
boolean_refused = boolean_none
