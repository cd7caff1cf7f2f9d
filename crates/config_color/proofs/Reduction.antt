-- What is left of a color: there is only one such color, and it still has a text.
use Rattle.std.proofs.Common.{◌≡◌, ℕ, ◌<◌, ◌≤◌, Option, None, Some, arith, refl, sym, ap, subst, ◌∙◌}
use Rattle.std.proofs.Common.{MatchOption}
use Rattle.config_color.specs.declared.color.Color.{Color}
use Rattle.config_color.specs.declared.depth.Depth.{Depth}
use Rattle.config_color.specs.declared.depth.Depth.TheVariants.{Ansi16, Ansi256, TrueColor}
use Rattle.config_color.specs.declared.depth.Shade.{Shade}
use Rattle.config_word.specs.declared.name.Name.{Name}
use Rattle.config_word.specs.declared.name.Name.TheVariants.{Ansi}
use Rattle.config_word.specs.Name.{NameFits}
use Rattle.config_color.specs.Color.{AreKnown, ColorText, PartFits}
use Rattle.config_word.specs.declared.attribute.Attribute.{Attribute}
use Rattle.config_color.specs.Depth.{IsNearest, ReducedColor, ReducedName, ReducedPart, replaced, replacements}
use Rattle.config_color.specs.Laws.Color.{same_color}
use Rattle.config_color.specs.Laws.ColorShown.{color_has_text, parts_fit}
use Rattle.config_text.specs.Value.{HasText}

last_fits : (depth : Depth) → (replacements depth).1 ≤ 255
last_fits Ansi16 = omega arith
last_fits Ansi256 = omega arith
last_fits TrueColor = omega arith

-- what is left of a name that has to be replaced by the nearest to this shade, or stays
abbrev Left : Depth → Name → Option Shade → Name → Type 0
Left depth n shade m =
    MatchOption shade (m ≡ n) (λ s.
    (k : ℕ) × (m ≡ Ansi k) × IsNearest (replacements depth).0 (replacements depth).1 s k)

-- the numbers of what is left of a name are bytes, if those of the name are
name_fits : (depth : Depth) (n m : Name) → NameFits n → ReducedName depth n m → NameFits m
name_fits depth n m fits h = by_shade (replaced depth n) h where
  by_shade : (o : Option Shade) → Left depth n o m → NameFits m
  by_shade None e = rw e fits
  by_shade (Some s) h =
      let last = last_fits depth in
      let within = h.2.within.1 in
      let fits : NameFits (Ansi h.0) = omega arith in rw h.1 fits

part_fits : (depth : Depth) (p q : Option Name) → PartFits p → ReducedPart depth p q → PartFits q
part_fits depth None q fits h = subst PartFits (sym h) tt
part_fits depth (Some n) q fits h = subst PartFits (sym h.1) (name_fits depth n h.0 fits h.2)

-- nothing is left exactly of nothing
nothing_left : (depth : Depth) (p q : Option Name) → ReducedPart depth p q → p ≡ None → q ≡ None
nothing_left depth None q h e = h
nothing_left depth (Some n) q h e = absurd (cc)

nothing_was : (depth : Depth) (p q : Option Name) → ReducedPart depth p q → q ≡ None → p ≡ None
nothing_was depth None q h e = refl
nothing_was depth (Some n) q h e = absurd (let k = h.1 in cc)

-- what is left of a color with a text has a text
pub still_text : (depth : Depth) (c d : Color) → ReducedColor depth c d → HasText ColorText c
    → HasText ColorText d
still_text depth c d h has =
    let fits = parts_fit has.0 c has.1 in
    let told = (color_has_text c fits.0 fits.1).0 has in
    (color_has_text d (part_fits depth _ _ fits.0 h.foreground) (part_fits depth _ _ fits.1 h.background)).1 (
      subst AreKnown (ap (λ (a : Attribute). a.0) (sym h.attributes)) told.0,
      λ none. nothing_left depth _ _ h.background (told.1 (nothing_was depth _ _ h.foreground none)),
    )

-- of two numbers that are nearest none is lesser
none_lesser : (first last : ℕ) (s : Shade) (n m : ℕ) → IsNearest first last s n → IsNearest first last s m
    → ¬ (n < m)
none_lesser first last s n m p q less =
    absurd (omega (arith, p.nearest m q.within.0 q.within.1, q.least n p.within.0 less))

-- there is only one nearest number
pub one_nearest : (first last : ℕ) (s : Shade) (n m : ℕ) → IsNearest first last s n
    → IsNearest first last s m → n ≡ m
one_nearest first last s n m p q =
    let low = none_lesser first last s n m p q in
    let high = none_lesser first last s m n q p in
    omega (arith, low, high)

one_name : (depth : Depth) (n m o : Name) → ReducedName depth n m → ReducedName depth n o → m ≡ o
one_name depth n m o p q = by_shade (replaced depth n) p q where
  by_shade : (shade : Option Shade) → Left depth n shade m → Left depth n shade o → m ≡ o
  by_shade None p q = p ∙ sym q
  by_shade (Some s) p q =
      p.1 ∙ ap Ansi (one_nearest (replacements depth).0 (replacements depth).1 s p.0 q.0 p.2 q.2) ∙ sym q.1

one_part : (depth : Depth) (p q r : Option Name) → ReducedPart depth p q → ReducedPart depth p r → q ≡ r
one_part depth None q r h k = h ∙ sym k
one_part depth (Some n) q r h k = h.1 ∙ ap Some (one_name depth n h.0 k.0 h.2 k.2) ∙ sym k.1

-- a color is reduced to one color
pub one_reduced : (depth : Depth) (c d e : Color) → ReducedColor depth c d → ReducedColor depth c e → d ≡ e
one_reduced depth c d e p q =
    same_color d e (one_part depth _ _ _ p.foreground q.foreground)
    (one_part depth _ _ _ p.background q.background)
    (ap (λ (a : Attribute). a.0) (p.attributes ∙ sym q.attributes))
