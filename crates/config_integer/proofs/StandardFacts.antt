-- What git-config(1) says about integers, with examples. A definition with a wrong letter, factor or base
-- fails here. Not on that page, but as Git and C read them, are `0x`, `0b`, a leading `0`, `g`, signs, both
-- ends of the range, and the refused texts.
use Rattle.std.proofs.Common.{◌≡◌, ℕ, ℤ, pos, negsuc, List, [], ◌∷◌, map, codes, Option, Some, None, refl}
use Rattle.config_integer.specs.declared.integer.Integer.{Integer}
use Rattle.config_integer.specs.declared.suffix.Suffix.{Suffix}
use Rattle.config_integer.specs.declared.suffix.Suffix.TheVariants.{Kibi, Mebi, Gibi}
use Rattle.config_integer.specs.declared.amount.Amount.{Amount}
use Rattle.config_integer.specs.Integer.{IntegerText}
use Rattle.config_integer.specs.Suffix.{suffix_shown}
use Rattle.config_integer.specs.Amount.{AmountText, AmountFault}
use Rattle.config_integer.specs.Laws.Integer.{integer_of_is}
use Rattle.config_integer.proofs.OnLiterals.{integer_on_literals, amount_of_is, product_overflows}
use Rattle.config_text.specs.declared.errors.Fault.TheVariants as faults
use Rattle.config_text.proofs.OnLiterals.{AreRead, AreRefused, all_read, all_refused}

abbrev integer : ℤ → Option Suffix → Integer
integer z s = record { value = z; suffix = s }

abbrev amount : ℤ → Amount
amount z = record { 0 = z }

-- a number and its suffix, kept apart; as in C, `0x` marks hexadecimal digits and a leading `0` octal ones
abbrev integers : List (List ℕ × Integer)
integers =
    (codes "0", integer (pos 0) None)
    ∷ (codes "1k", integer (pos 1) (Some Kibi))
    ∷ (codes "10M", integer (pos 10) (Some Mebi))
    ∷ (codes "1g", integer (pos 1) (Some Gibi))
    ∷ (codes "0x10k", integer (pos 16) (Some Kibi))
    ∷ (codes "010", integer (pos 8) None)
    ∷ (codes "0Xff", integer (pos 255) None)
    ∷ (codes "0xFF", integer (pos 255) None)
    ∷ (codes "0b11", integer (pos 3) None)
    ∷ (codes "0B1", integer (pos 1) None)
    ∷ (codes "+1", integer (pos 1) None)
    ∷ (codes "-1", integer (negsuc 0) None)
    ∷ (codes "-9223372036854775808", integer (negsuc 9223372036854775807) None)
    ∷ (codes "9223372036854775807k", integer (pos 9223372036854775807) (Some Kibi))
    ∷ []

pub integers_are_read : AreRead IntegerText integers
unfolding integer_on_literals
integers_are_read = all_read integer_of_is integers refl

-- the letters that are shown
pub letters_are_shown : map suffix_shown (Kibi ∷ Mebi ∷ Gibi ∷ []) ≡ codes "k" ∷ codes "m" ∷ codes "g" ∷ []
letters_are_shown = refl

-- `k`, `M`, .. "to mean scale the number by 1024, by 1024x1024", in either case
abbrev amounts : List (List ℕ × Amount)
amounts =
    (codes "1k", amount (pos 1024))
    ∷ (codes "1K", amount (pos 1024))
    ∷ (codes "1m", amount (pos 1048576))
    ∷ (codes "10M", amount (pos 10485760))
    ∷ (codes "1g", amount (pos 1073741824))
    ∷ (codes "2G", amount (pos 2147483648))
    ∷ (codes "0x10k", amount (pos 16384))
    ∷ (codes "-1", amount (negsuc 0))
    ∷ []

pub amounts_are_read : AreRead AmountText amounts
unfolding integer_on_literals
amounts_are_read = all_read amount_of_is amounts refl

-- no such suffix, two suffixes, a space, a suffix alone, and the empty text; no digit of the base, no digit,
-- two signs, and a number beyond each end of the range
abbrev no_integers : List (List ℕ)
no_integers =
    codes "10x" ∷ codes "1kb" ∷ codes "1 k" ∷ codes "k" ∷ codes ""
    ∷ codes "08" ∷ codes "0x" ∷ codes "0b2" ∷ codes "--1"
    ∷ codes "9223372036854775808" ∷ codes "-9223372036854775809" ∷ []

pub no_integers_are_refused : AreRefused IntegerText no_integers
unfolding integer_on_literals
no_integers_are_refused = all_refused integer_of_is no_integers refl

-- the product is out of range
pub too_large : AmountFault (codes "9223372036854775807k") faults.Overflow
unfolding integer_on_literals
too_large =
    product_overflows (λ _. ⊥) (codes "9223372036854775807k")
    (integer (pos 9223372036854775807) (Some Kibi)) refl refl
