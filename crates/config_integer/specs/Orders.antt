-- The orders of suffixes, integers and amounts.
use Rattle.std.specs.Option.{option_cmp}
use Rattle.std.specs.Ordering.{nat_cmp, int_cmp, then_cmp, on}
use Rattle.std.specs.declared.cmp.Ordering.{Ordering}
use Rattle.config_integer.specs.declared.integer.Integer.{Integer}
use Rattle.config_integer.specs.declared.amount.Amount.{Amount}
use Rattle.config_integer.specs.declared.suffix.Suffix.{Suffix}
use Rattle.config_integer.specs.Suffix.{factor}

-- the order of suffixes: by the factor
abbrev pub suffix_order : Suffix → Suffix → Ordering
suffix_order = on factor nat_cmp

-- the order of integers: by the number, then by the suffix, with `None` first
abbrev pub integer_order : Integer → Integer → Ordering
integer_order = then_cmp (on (λ v. v.value) int_cmp) (on (λ v. v.suffix) (option_cmp suffix_order))

-- the order of amounts: by the number
abbrev pub amount_order : Amount → Amount → Ordering
amount_order = on (λ v. v.0) int_cmp
