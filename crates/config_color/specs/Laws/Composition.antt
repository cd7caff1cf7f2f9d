-- The laws of composition: the color of a joined text is the composition of its parts' colors, and what this
-- means for `same`.
use Rattle.std.proofs.Common.{◌≡◌, ℕ, ◌+◌, ◌<◌, ◌≤◌, ◌↔◌, ◌⊎◌, inl, inr, List, [], ◌∷◌, ◌++◌, length, codes}
use Rattle.std.proofs.Common.{Option, Some, None, IfSome, Bool, IsTrue, refl, sym, ap, ◌∙◌}
use Rattle.std.proofs.Common.{length-append, arith}
use Rattle.std.proofs.lemmas.Option.{some_pair_parts}
use Rattle.std.proofs.lemmas.Bool.Decides.{leb_tells}
use Rattle.std.specs.Int.RustNames.{bit_or}
use Rattle.std.specs.Option.{option_to_list}
use Rattle.config_color.specs.declared.color.Color.{Color}
use Rattle.config_word.specs.declared.name.Name.{Name}
use Rattle.config_color.specs.Color.{Placed, ColorText}
use Rattle.config_color.specs.Laws.Color.{read_words, text_read, WordsRead-join, WordsRead-split}
use Rattle.config_color.specs.Laws.Color.{WordsRead-one, Placed-words, Placed-short, Placed-one, placing}
use Rattle.config_color.specs.Laws.Color.{color_with, same_color, color_one_value, color_decided}
use Rattle.config_color.specs.Reading.Color.{places_of}
use Rattle.config_color.specs.Composition.{color_names, Composition, Composes, Joined, HaveTooManyNames}
use Rattle.config_color.specs.Composition.{HasTooManyNames, SameWords}
use Rattle.config_color.specs.Space.{Space}
use Rattle.config_text.specs.Value.{IsAccepted, IsRefused, HasText, Compares}
use Rattle.config_color.specs.Reading.Split.{words}
use Rattle.config_color.specs.Laws.Split.{words_joined, space_byte}

-- a color that has a text has no background without a foreground
pub background_beside : (t : List ℕ) (c : Color) → ColorText t c → c.foreground ≡ None → c.background ≡ None
background_beside t c h e = beside h.names c.foreground c.background h.placed e where
  beside : (ns : List Name) (f b : Option Name) → Placed ns f b → f ≡ None → b ≡ None
  beside [] f b p e = p.1
  beside (n ∷ []) f b p e = p.1
  beside (n ∷ m ∷ []) f b p e = absurd (cc)
  beside (n ∷ m ∷ o ∷ ns) f b p e = absurd p

-- if white space joins two texts, the composition of their colors is the color of the joined text
pub joined_reads : (front space back : List ℕ) (c : Color) → Space space → Joined front back c
    → ColorText (front ++ space ++ back) c
joined_reads front space back c s (a, b, p, q, k) = record {
  names = p.names ++ q.names;
  read = text_read (front ++ space ++ back)
      (rw (words_joined front space back s, k.united)
      (WordsRead-join (read_words p.read) (read_words q.read)));
  placed = rw (
    ← (Placed-words p.names a.foreground a.background p.placed),
    ← (Placed-words q.names b.foreground b.background q.placed),
  )
      k.placed;
}

-- the color of a joined text is the composition of the colors of its parts
pub reads_joined : (front space back : List ℕ) (c : Color) → Space space
    → ColorText (front ++ space ++ back) c → Joined front back c
reads_joined front space back c s h =
    let read = rw (words_joined front space back s) at (read_words h.read) in
    let r = WordsRead-split (words front) (words back) read in
    let short : length r.0 + length r.1 ≤ 2 =
    omega (
      arith,
      Placed-short h.names c.foreground c.background h.placed,
      ap length r.6,
      length-append r.0 r.1,
    ) in
    let (f, g, p) = placing r.0 (omega arith) in
    let (d, e, q) = placing r.1 (omega arith) in
    let names : h.names ≡ color_names (color_with f g r.2) ++ color_names (color_with d e r.3) =
    rw (Placed-words r.0 f g p, Placed-words r.1 d e q) r.6 in (
      color_with f g r.2,
      color_with d e r.3,
      record { names = r.0; read = text_read front r.4; placed = p },
      record { names = r.1; read = text_read back r.5; placed = q },
      record { placed = rw names at h.placed; united = r.7 },
    )

-- a joined text is refused exactly if a part is refused or there are too many names
pub joined_refused : (front space back : List ℕ) → Space space
    → (IsRefused ColorText (front ++ space ++ back))
    ↔ (IsRefused ColorText front ⊎ IsRefused ColorText back ⊎ HaveTooManyNames front back)
joined_refused front space back s = (λ r. told r (color_decided front) (color_decided back), refuse) where
  told : IsRefused ColorText (front ++ space ++ back)
      → IsAccepted ColorText front ⊎ IsRefused ColorText front
      → IsAccepted ColorText back ⊎ IsRefused ColorText back
      → IsRefused ColorText front ⊎ IsRefused ColorText back ⊎ HaveTooManyNames front back
  told r (inr p) q = inl p
  told r (inl p) (inr q) = inr (inl q)
  told r (inl (a, p)) (inl (b, q)) =
      let names = color_names a ++ color_names b in
      elim (leb_tells (length names) 2) [
        | inl l ↦
            let k = placing names l.1 in
            let c = color_with k.0 k.1 (bit_or a.attributes.0 b.attributes.0) in
            absurd
            (r c (joined_reads front space back c s (a, b, p, q, record { placed = k.2; united = refl })))
        | inr l ↦ inr (inr (a, b, p, q, l.1))
      ]

  refuse : IsRefused ColorText front ⊎ IsRefused ColorText back ⊎ HaveTooManyNames front back
      → IsRefused ColorText (front ++ space ++ back)
  refuse h c t = parted h (reads_joined front space back c s t) where
    parted : IsRefused ColorText front ⊎ IsRefused ColorText back ⊎ HaveTooManyNames front back
        → Joined front back c
        → ⊥
    parted (inl r) (a, b, p, q, k) = r a p
    parted (inr (inl r)) (a, b, p, q, k) = r b q
    parted (inr (inr (v, w, t, u, l))) (a, b, p, q, k) =
        let same : color_names v ++ color_names w ≡ color_names a ++ color_names b =
        ap (λ (v : Color). color_names v ++ color_names w) (color_one_value front v a t p)
        ∙ ap (λ (w : Color). color_names a ++ color_names w) (color_one_value back w b u q) in
        omega (
          arith,
          l,
          ap length same,
          Placed-short (color_names a ++ color_names b) c.foreground c.background k.placed,
        )

-- two texts have the same color exactly if their words have the same names and bits
pub same_words : (a b : List ℕ) (v w : Color) → ColorText a v → ColorText b w → (v ≡ w) ↔ (SameWords a b)
same_words a b v w p q = (agree, meet) where
  agree : v ≡ w → SameWords a b
  agree e =
      let names : q.names ≡ p.names = sym (Placed-words q.names w.foreground w.background q.placed)
      ∙ (ap color_names (sym e) ∙ Placed-words p.names v.foreground v.background p.placed) in
      let bits : w.attributes.0 ≡ v.attributes.0 = cc in
      record {
        names = p.names;
        bits = v.attributes.0;
        first = p.read;
        second = rw (names, bits) at q.read;
      }

  meet : SameWords a b → v ≡ w
  meet s =
      let m = WordsRead-one (read_words p.read) (read_words s.first) in
      let o = WordsRead-one (read_words q.read) (read_words s.second) in
      let placed = Placed-one p.names v.foreground v.background w.foreground w.background p.placed
      (rw (m.0 ∙ sym o.0) q.placed) in
      same_color v w placed.0 placed.1 (m.1 ∙ sym o.1)

-- `same` returns true for two color texts exactly if their words have the same names and bits
pub compares_words : (a b : List ℕ) (result : Option Bool) → Compares ColorText a b result
    → IfSome result (λ same. IsTrue same ↔ (SameWords a b))
compares_words a b None refused = tt
compares_words a b (Some same) (v, w, compared) =
    let law = same_words a b v w compared.first compared.second in
    (λ e. law.0 (compared.equal.0 e), λ s. compared.equal.1 (law.1 s))

-- a composition of colors that have a text has a text
pub composition_has_text : (a b c : Color) → HasText ColorText a → HasText ColorText b → Composition a b c
    → HasText ColorText c
composition_has_text a b c (s, p) (t, q) k =
    (s ++ codes " " ++ t, joined_reads s (codes " ") t c space_byte (a, b, p, q, k))

pub some_none : (n : Name) → Some n ≡ None → ⊥
some_none n e = cc

-- `places_of` gives the foreground and background of the names of two colors
places_some : (f b g d : Option Name) (h i : Option Name) → (f ≡ None → b ≡ None) → (g ≡ None → d ≡ None)
    → places_of f b g d ≡ Some (h, i)
    → Placed ((option_to_list f ++ option_to_list b) ++ (option_to_list g ++ option_to_list d)) h i
places_some None (Some o) g d h i p q e = absurd (some_none o (p refl))
places_some f b None (Some m) h i p q e = absurd (some_none m (q refl))
places_some (Some n) None (Some o) (Some m) h i p q e = absurd (cc)
places_some (Some n) (Some o) (Some m) d h i p q e = absurd (cc)
places_some None b (Some n) (Some m) h i p q e = some_pair_parts _ _ _ _ (sym e)
places_some (Some n) (Some o) None None h i p q e = some_pair_parts _ _ _ _ (sym e)
places_some f b g d h i p q e = some_pair_parts _ _ _ _ (sym e)

-- if `places_of` gives `None`, there are more than two names
places_none : (f b g d : Option Name) → (f ≡ None → b ≡ None) → (g ≡ None → d ≡ None)
    → places_of f b g d ≡ None
    → 2 < length ((option_to_list f ++ option_to_list b) ++ (option_to_list g ++ option_to_list d))
places_none f b None (Some m) p q e = absurd (some_none m (q refl))
places_none None b g d p q e = absurd (cc)
places_none (Some n) None g None p q e = absurd (cc)
places_none (Some n) (Some o) None d p q e = absurd (cc)
places_none (Some n) b g d p q e = omega arith

pub places_compose : (a b : Color) (f g : Option Name) → HasText ColorText a → HasText ColorText b
    → places_of a.foreground a.background b.foreground b.background ≡ Some (f, g)
    → Placed (color_names a ++ color_names b) f g
places_compose a b f g (s, p) (t, q) e =
    places_some a.foreground a.background b.foreground b.background f g (background_beside s a p)
    (background_beside t b q) e

pub places_refuse : (a b : Color) → HasText ColorText a → HasText ColorText b
    → places_of a.foreground a.background b.foreground b.background ≡ None → HasTooManyNames a b
places_refuse a b (s, p) (t, q) e =
    let l = places_none a.foreground a.background b.foreground b.background (background_beside s a p)
    (background_beside t b q) e in (
      l,
      λ c k. absurd (omega (
        arith,
        Placed-short (color_names a ++ color_names b) c.foreground c.background k.placed,
      )),
    )

-- no composition has a text where `compose` returns `None`
none_given : (a b d : Color) → Composes a b None → Composes a b (Some d) → ⊥
none_given a b d (inl none) (p, q, k, t) = none p
none_given a b d (inr (inl none)) (p, q, k, t) = none q
none_given a b d (inr (inr many)) (p, q, k, t) = many.1 d k

-- `compose` has only one result for two colors
pub composes_one : (a b : Color) (r s : Option Color) → Composes a b r → Composes a b s → r ≡ s
composes_one a b None None p q = refl
composes_one a b None (Some d) p q = absurd (none_given a b d p q)
composes_one a b (Some c) None p q = absurd (none_given a b c q p)
composes_one a b (Some c) (Some d) (_, _, k, t) (_, _, m, u) =
    let placed = Placed-one (color_names a ++ color_names b) c.foreground c.background d.foreground
    d.background k.placed m.placed in
    ap Some (same_color c d placed.0 placed.1 (k.united ∙ sym m.united))
