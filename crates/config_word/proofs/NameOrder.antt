-- The order of names, case by case.
use Rattle.std.proofs.Common.{◌≡◌, refl, ap}
use Rattle.std.specs.Ordering.{nat_cmp, ordering_then}
use Rattle.std.specs.declared.cmp.Ordering.{Ordering}
use Rattle.std.specs.declared.cmp.Ordering.TheVariants.{Less, Equal, Greater}
use Rattle.config_word.specs.declared.name.Name.{Name}
use Rattle.config_word.specs.declared.name.Name.TheVariants as names
use Rattle.config_word.specs.contracts.name.NameOrd.TheImpl.{ghosts}
use Rattle.config_word.specs.Orders.{name_order}

-- a comparison that is followed by `Equal` decides alone
then_Equal : (o : Ordering) → o ≡ ordering_then o Equal
then_Equal Less = refl
then_Equal Equal = refl
then_Equal Greater = refl

-- names are compared by their places, and then by their numbers
pub name_same : (m n : Name) → ghosts.cmp m n ≡ name_order m n
name_same names.Normal names.Normal = refl
name_same names.Default names.Default = refl
name_same names.Black names.Black = refl
name_same names.BrightBlack names.BrightBlack = refl
name_same names.Red names.Red = refl
name_same names.BrightRed names.BrightRed = refl
name_same names.Green names.Green = refl
name_same names.BrightGreen names.BrightGreen = refl
name_same names.Yellow names.Yellow = refl
name_same names.BrightYellow names.BrightYellow = refl
name_same names.Blue names.Blue = refl
name_same names.BrightBlue names.BrightBlue = refl
name_same names.Magenta names.Magenta = refl
name_same names.BrightMagenta names.BrightMagenta = refl
name_same names.Cyan names.Cyan = refl
name_same names.BrightCyan names.BrightCyan = refl
name_same names.White names.White = refl
name_same names.BrightWhite names.BrightWhite = refl
name_same (names.Ansi j) (names.Ansi k) = then_Equal (nat_cmp j k)
name_same (names.Rgb r g b) (names.Rgb s h c) =
    ap (λ o. ordering_then (nat_cmp r s) (ordering_then (nat_cmp g h) o)) (then_Equal (nat_cmp b c))
name_same _ _ = refl
