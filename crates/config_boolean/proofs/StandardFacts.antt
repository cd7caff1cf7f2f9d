-- What git-config(1) says about booleans, with its own examples. A definition with a wrong word fails here.
use Rattle.std.proofs.Common.{◌≡◌, ℕ, Bool, true, false, List, [], ◌∷◌, map, codes, refl}
use Rattle.config_boolean.specs.declared.boolean.Boolean.{Boolean}
use Rattle.config_boolean.specs.Boolean.{BooleanText, boolean_shown}
use Rattle.config_boolean.proofs.OnLiterals.{boolean_on_literals, boolean_of_is}
use Rattle.config_text.proofs.OnLiterals.{AreRead, AreRefused, all_read, all_refused}

abbrev boolean : Bool → Boolean
boolean b = record { 0 = b }

-- "Boolean true literals are yes, on, true, and 1", and "these are all case-insensitive"
abbrev literals_of_true : List (List ℕ × Boolean)
literals_of_true =
    (codes "yes", boolean true)
    ∷ (codes "on", boolean true)
    ∷ (codes "true", boolean true)
    ∷ (codes "1", boolean true)
    ∷ (codes "YES", boolean true)
    ∷ (codes "On", boolean true)
    ∷ (codes "tRuE", boolean true)
    ∷ []

pub true_is_read : AreRead BooleanText literals_of_true
unfolding boolean_on_literals
true_is_read = all_read boolean_of_is literals_of_true refl

-- "Boolean false literals are no, off, false, 0 and the empty string"
abbrev literals_of_false : List (List ℕ × Boolean)
literals_of_false =
    (codes "no", boolean false)
    ∷ (codes "off", boolean false)
    ∷ (codes "false", boolean false)
    ∷ (codes "0", boolean false)
    ∷ (codes "", boolean false)
    ∷ (codes "NO", boolean false)
    ∷ (codes "Off", boolean false)
    ∷ (codes "fAlSe", boolean false)
    ∷ []

pub false_is_read : AreRead BooleanText literals_of_false
unfolding boolean_on_literals
false_is_read = all_read boolean_of_is literals_of_false refl

-- other numbers as Git reads them: `git -c a.b=-2 config --type=bool a.b` prints `true`
abbrev numbers : List (List ℕ × Boolean)
numbers =
    (codes "2", boolean true)
    ∷ (codes "-2", boolean true)
    ∷ (codes "1k", boolean true)
    ∷ (codes "0k", boolean false)
    ∷ []

pub numbers_are_read : AreRead BooleanText numbers
unfolding boolean_on_literals
numbers_are_read = all_read boolean_of_is numbers refl

-- the texts that Git prints
pub booleans_are_shown : map boolean_shown (boolean true ∷ boolean false ∷ []) ≡ codes "true" ∷ codes "false"
    ∷ []
booleans_are_shown = refl

-- texts that are almost a boolean text
abbrev no_booleans : List (List ℕ)
no_booleans = codes "y" ∷ codes "of" ∷ codes "truee" ∷ codes " true" ∷ []

pub no_booleans_are_refused : AreRefused BooleanText no_booleans
unfolding boolean_on_literals
no_booleans_are_refused = all_refused boolean_of_is no_booleans refl
