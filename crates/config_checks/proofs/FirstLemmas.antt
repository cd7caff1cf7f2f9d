-- The first item of a list of which something holds.
use Rattle.std.proofs.Common.{◌≡◌, ◌+◌, ◌<◌, ℕ, List, ◌++◌, length, take, get_or, sym, ap, ◌∙◌, arith}
use Rattle.std.proofs.lemmas.List.{get_or-take, get_or_default, length-take, length-append, take-append-le}
use Rattle.std.proofs.lemmas.List.{get_or_append_left, get_or-append-add}
use Rattle.std.proofs.lemmas.List.Elements.{All-append}
use Rattle.std.proofs.Math.Seq.{take-append-add}
use Rattle.std.specs.List.{All, Any}

module _ {A : Type 0} (P : A → Type 0) where
  pub record IsFirst (xs : List A) (x : A) : Type 0 where
    pub place : ℕ
    pub inside : place < length xs
    pub stands : get_or xs place x ≡ x
    pub is : P x
    pub first : All (λ y. ¬ (P y)) (take place xs)

  one_before : (xs : List A) (x y : A) (p : IsFirst xs x) (q : IsFirst xs y) → ¬ (p.place < q.place)
  one_before xs x y p q before =
      q.first p.place x (omega (arith, length-take {A = A}, before, q.inside))
      (rw (get_or-take q.place xs p.place x before ∙ p.stands) p.is)

  pub first_once : (xs : List A) (x y : A) → IsFirst xs x → IsFirst xs y → x ≡ y
  first_once xs x y p q =
      let less = one_before xs x y p q in let more = one_before xs y x q p in
      let same : p.place ≡ q.place = omega (arith, less, more) in
      sym p.stands ∙ ap (λ n. get_or xs n x) same ∙ get_or_default xs q.place x y q.inside ∙ q.stands

  pub not_none : (xs : List A) (x : A) → IsFirst xs x → ¬ (All (λ y. ¬ (P y)) xs)
  not_none xs x p none = none p.place x p.inside (rw p.stands p.is)

  pub first_within : (xs ys zs : List A) (x : A) → All (λ y. ¬ (P y)) xs → IsFirst ys x
      → IsFirst ((xs ++ ys) ++ zs) x
  first_within xs ys zs x none p =
      let inside = p.inside in
      let below : length xs + p.place < length (xs ++ ys) = omega (arith, inside, length-append xs ys) in
      record {
        place = length xs + p.place;
        inside = omega (arith, below, length-append (xs ++ ys) zs);
        stands = get_or_append_left (xs ++ ys) zs x (length xs + p.place) below
            ∙ get_or-append-add xs ys p.place x ∙ p.stands;
        is = p.is;
        first = rw (
          take-append-le (length xs + p.place) (xs ++ ys) zs (omega (arith, below)),
          take-append-add xs ys p.place,
        )
            (All-append (λ y. ¬ (P y)) xs (take p.place ys) none p.first);
      }

  pub any_within : (xs ys zs : List A) → Any P ys → Any P ((xs ++ ys) ++ zs)
  any_within xs ys zs (place, x, inside, stands, is) =
      let below : length xs + place < length (xs ++ ys) = omega (arith, inside, length-append xs ys) in (
        length xs + place,
        x,
        omega (arith, below, length-append (xs ++ ys) zs),
        get_or_append_left (xs ++ ys) zs x (length xs + place) below ∙ get_or-append-add xs ys place x ∙ stands,
        is,
      )
