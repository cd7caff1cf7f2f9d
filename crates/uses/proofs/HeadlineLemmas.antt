-- The headline follows from what a text means, and from how joined texts are read.
use Rattle.std.proofs.Common.{◌≡◌, ◌↔◌, ◌⊎◌, ◌++◌, inl, inr, codes, ℕ, List, Option, None, Some}
use Rattle.std.proofs.Common.{arith, refl, ap}
use Rattle.config_text.specs.Value.{IsRefused, IsTextOf, Means, Reads}
use Rattle.config_color.specs.declared.color.Color.{Color}
use Rattle.config_color.specs.Color.{ColorText}
use Rattle.config_color.specs.Composition.{Composes, Joined, HaveTooManyNames}
use Rattle.config_color.specs.Laws.Composition.{joined_reads, joined_refused, reads_joined}
use Rattle.config_color.specs.Laws.Split.{space_byte}
use Rattle.config_color.specs.contracts.color.ColorValue.TheImpl.Laws as color
use Rattle.uses.specs.Headline.{Headline, JoinedHeadline}

pub says_headline : {V : Type 0} {grammar : List ℕ → V → Type 0} {canonical : List ℕ → Type 0}
    → ((v w : V) (s t : List ℕ) → IsTextOf grammar canonical v s → IsTextOf grammar canonical w t
    → (v ≡ w) ↔ (s ≡ t))
    → (text : List ℕ) (value : Option V) (normalized : Option (List ℕ))
    → Means grammar canonical text value normalized → Headline grammar canonical text value normalized
says_headline values text value normalized means = record {
  accepted = λ v. grind arith;
  only_text = λ s. grind arith;
  at_most = λ s e. grind arith;
  same = λ other s w h p k. grind arith;
}

pub says_joined : (front back text joined : List ℕ) (color : Option Color) → text ≡ joined
    → Reads ColorText text color
    → ((c : Color) → (ColorText joined c) ↔ (Joined front back c))
    → (IsRefused ColorText joined)
    ↔ (IsRefused ColorText front ⊎ IsRefused ColorText back ⊎ HaveTooManyNames front back)
    → JoinedHeadline front back color
says_joined front back text joined (Some d) e is read refused =
    let found : ColorText joined d = rw e at is in record {
      read = λ c. (
        λ k. let same : d ≡ c = cc (k) in (read c).0 (rw same at found),
        λ j. ap Some (color.one_value-law joined d c found ((read c).1 j)),
      );
      refused = (λ k. absurd (cc), λ h. absurd (refused.1 h d found));
    }
says_joined front back text joined None e is read refused =
    let none : IsRefused ColorText joined = rw e at is in record {
      read = λ c. (λ k. absurd (cc), λ j. absurd (none c ((read c).1 j)));
      refused = (λ k. refused.0 none, λ h. refl);
    }

-- the joined text is read as what `compose` returns for the colors of its parts
both_read : (front back : List ℕ) (a b : Color) (color : Option Color) → ColorText front a → ColorText back b
    → Composes a b color → Reads ColorText (front ++ codes " " ++ back) color
both_read front back a b (Some d) p q (_, _, k, _) =
    joined_reads front (codes " ") back d space_byte (a, b, p, q, k)
both_read front back a b None p q none = (joined_refused front (codes " ") back space_byte).1 (told none) where
  told : Composes a b None → IsRefused ColorText front ⊎ IsRefused ColorText back ⊎ HaveTooManyNames front back
  told (inl n) = absurd (n (front, p))
  told (inr (inl n)) = absurd (n (back, q))
  told (inr (inr many)) = inr (inr (a, b, p, q, many.0))

-- what is read as the joined text says what the headline says
as_joined : (front back : List ℕ) (color : Option Color) → Reads ColorText (front ++ codes " " ++ back) color
    → JoinedHeadline front back color
as_joined front back color is =
    says_joined front back _ (front ++ codes " " ++ back) color refl is
    (λ d. (reads_joined front (codes " ") back d space_byte, joined_reads front (codes " ") back d space_byte))
    (joined_refused front (codes " ") back space_byte)

pub says_composed : (front back : List ℕ) (a b : Color) (color : Option Color) → ColorText front a
    → ColorText back b
    → Composes a b color → JoinedHeadline front back color
says_composed front back a b color p q k = as_joined front back color (both_read front back a b color p q k)

pub says_refused : (front back : List ℕ) → IsRefused ColorText front ⊎ IsRefused ColorText back
    → JoinedHeadline front back None
says_refused front back r = as_joined front back None ((joined_refused front (codes " ") back space_byte).1 (told r))
  where
    told : IsRefused ColorText front ⊎ IsRefused ColorText back
        → IsRefused ColorText front ⊎ IsRefused ColorText back ⊎ HaveTooManyNames front back
    told (inl h) = inl h
    told (inr h) = inr (inl h)
