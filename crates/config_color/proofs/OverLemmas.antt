-- Lemmas for one color over another: which bits stay.
use Rattle.std.proofs.Common.{◌≡◌, ℕ, ◌-◌, ◌^◌, ◌<◌, ◌⊎◌, ◌↔◌, inl, inr, Option, None}
use Rattle.std.proofs.Common.{Some, refl, sym, ◌∙◌, arith, min}
use Rattle.std.proofs.Common.{w32}
use Rattle.bitflags.specs.Sets.{without}
use Rattle.std.proofs.lemmas.Bool.Decides.{leb_tells}
use Rattle.std.proofs.lemmas.Nat.Bits.{bit_at-lt, bit_at_and}
use Rattle.std.proofs.lemmas.Nat.Bits.{bit_at_above, bit_at_not, same_from_bits}
use Rattle.std.specs.Int.{bit_at}
use Rattle.std.specs.Int.RustNames.{bit_or}
use Rattle.std.specs.Option.{option_or}
use Rattle.config_color.specs.declared.color.Color.{Color}
use Rattle.config_word.specs.declared.name.Name.{Name}
use Rattle.config_word.specs.declared.attribute.Attribute.{Attribute}
use Rattle.config_word.specs.Attribute.{HasOpposites}
use Rattle.config_word.proofs.Opposites.{either, iff_trans, or_bit}
use Rattle.config_color.specs.Color.{ColorText, PartFits}
use Rattle.config_color.specs.Laws.Color.{same_color}
use Rattle.config_color.specs.Laws.ColorShown.{bit_told, color_has_text, parts_fit}
use Rattle.config_color.specs.Composition.{IsOver, Stays}
use Rattle.config_text.specs.Value.{HasText}

-- a bit of `base` without the opposites of the bits of `top` is set exactly if it stays
stays_bit : (base top : ℕ) (out : Attribute) (i : ℕ) → base < 2 ^ 32 → out.0 < 2 ^ 32 → HasOpposites top out
    → (bit_at (without 32 base out.0) i ≡ 1) ↔ Stays base top i
stays_bit base top out i small fits law = (to, from) where
  taken_out : ℕ
  taken_out = out.0

  both : bit_at (without 32 base taken_out) i ≡ min (bit_at base i) (bit_at (2 ^ 32 - 1 - taken_out) i)
  both = bit_at_and base (2 ^ 32 - 1 - taken_out) i

  in_range : bit_at base i ≡ 1 → i < 32
  in_range h = elim (leb_tells 32 i) [
    | inl l ↦ absurd (omega (arith, bit_at_above base 32 i small l.1, h))
    | inr l ↦ l.1
  ]

  kept : bit_at base i ≡ 1 → bit_at (2 ^ 32 - 1 - taken_out) i ≡ 1 - bit_at taken_out i
  kept h = bit_at_not w32 taken_out i fits (in_range h)

  to : bit_at (without 32 base taken_out) i ≡ 1 → Stays base top i
  to h =
      let set : bit_at base i ≡ 1 = omega (arith, both, h, bit_at-lt base i) in (
        set,
        λ other o t. let found = (law i).1 (other, o, t) in omega (arith, found, kept set, both, h),
      )

  from : Stays base top i → bit_at (without 32 base taken_out) i ≡ 1
  from (set, stays) =
      elim (bit_told taken_out i) [
        | inr e ↦ omega (arith, both, kept set, e, set)
        | inl e ↦ let found = (law i).0 e in absurd (stays found.0 found.1 found.2)
      ]

-- one color over another has a text if both have one
pub over_has_text : (base top c : Color) → IsOver base top c → HasText ColorText base → HasText ColorText top
    → HasText ColorText c
over_has_text base top c k (s, p) (t, q) =
    let low = parts_fit s base p in
    let high = parts_fit t top q in
    let base_law = (color_has_text base low.0 low.1).0 (s, p) in
    let top_law = (color_has_text top high.0 high.1).0 (t, q) in
    (color_has_text c (rw k.front (fits top.foreground base.foreground high.0 low.0))
    (rw k.back (fits top.background base.background high.1 low.1))).1 (
      λ bit h. elim ((k.bits bit).0 h) [ inl set ↦ top_law.0 bit set | inr stays ↦ base_law.0 bit stays.0 ],
      λ e. let none = both top.foreground base.foreground (sym k.front ∙ e) in
          cc (k.back, top_law.1 none.0, base_law.1 none.1),
    ) where
      fits : (a b : Option Name) → PartFits a → PartFits b → PartFits (option_or a b)
      fits None b f g = g
      fits (Some n) b f g = f

      both : (a b : Option Name) → option_or a b ≡ None → (a ≡ None) × (b ≡ None)
      both None b e = (refl, e)
      both (Some n) b e = absurd (cc)

-- the attributes of one color over another, from what the calls return
pub attributes_over : (base top : ℕ) (out : Attribute) (stays all : ℕ) → base < 2 ^ 32 → out.0 < 2 ^ 32
    → HasOpposites top out → stays ≡ without 32 base out.0 → all ≡ bit_or top stays
    → (bit : ℕ) → (bit_at all bit ≡ 1) ↔ ((bit_at top bit ≡ 1) ⊎ Stays base top bit)
attributes_over base top out stays all small fits opposite left united bit =
    rw (united, left)
    (iff_trans (or_bit top (without 32 base out.0) bit)
    (either (λ h. h, λ h. h) (stays_bit base top out bit small fits opposite)))

-- a bit that is set in both of two sets or in neither is the same in both
same_bit : (a b : ℕ) → a < 2 → b < 2 → (a ≡ 1 → b ≡ 1) → (b ≡ 1 → a ≡ 1) → a ≡ b
same_bit a b h k to from = grind arith

pub one_layering : (base top c d : Color) → IsOver base top c → IsOver base top d → c ≡ d
one_layering base top c d x y =
    same_color c d (x.front ∙ sym y.front) (x.back ∙ sym y.back)
    (same_from_bits c.attributes.0 d.attributes.0 (λ i.
    same_bit (bit_at c.attributes.0 i) (bit_at d.attributes.0 i) (bit_at-lt c.attributes.0 i) (bit_at-lt d.attributes.0 i)
    (λ h. (y.bits i).1 ((x.bits i).0 h)) (λ h. (x.bits i).1 ((y.bits i).0 h))))
