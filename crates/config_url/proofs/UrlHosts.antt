-- Labels of hosts, and numbers of ports.
use Rattle.std.proofs.Common.{◌≡◌, ◌≤◌, ◌+◌, ◌-◌, ◌*◌, ◌∙◌, ◌↔◌, inl, inr, ℕ, Bool, true, false, List, []}
use Rattle.std.proofs.Common.{◌∷◌, ◌==◌, length, refl, sym, arith, IsTrue, suc}
use Rattle.std.specs.Char.{is_ascii_digit}
use Rattle.std.specs.List.{list_all, AllZip}
use Rattle.std.proofs.lemmas.Bool.{and_parts, cases_Bool, false≢true}
use Rattle.std.proofs.lemmas.Bool.Decides.{nat_tests}
use Rattle.config_url.specs.Url.{StandsFor, pieces, onto, number_after}

abbrev pub Stands : List ℕ → List ℕ → Type 0
Stands pattern host = AllZip StandsFor (pieces 46 pattern) (pieces 46 host)

abbrev Some_pieces : List (List ℕ) → Type 0
Some_pieces ps = (p : List ℕ) × (rest : List (List ℕ)) × (ps ≡ p ∷ rest)

onto_some : (b : ℕ) (ps : List (List ℕ)) → Some_pieces (onto b ps)
onto_some b [] = (b ∷ [], [], refl)
onto_some b (p ∷ ps) = (b ∷ p, ps, refl)

pieces_some : (b : ℕ) (h : List ℕ) → Some_pieces (pieces 46 (b ∷ h))
unfolding pieces
pieces_some b h = elim (cases_Bool (b == 46)) [
  | inl e ↦ rw e ([], pieces 46 h, refl)
  | inr e ↦ rw e (onto_some b (pieces 46 h))
]

pub stands_none : Stands [] []
unfolding pieces
stands_none = tt

pub none_stand : (b : ℕ) (h : List ℕ) → ¬ (Stands [] (b ∷ h))
unfolding pieces
none_stand b h all = let (p, rest, e) = pieces_some b h in rw e at all

pub stand_none : (b : ℕ) (p : List ℕ) → ¬ (Stands (b ∷ p) [])
unfolding pieces
stand_none b p all = let (w, rest, e) = pieces_some b p in rw e at all

not_zero : (n : ℕ) → (suc n == 0) ≡ false
not_zero n = grind (arith, nat_tests)

pub stands_at_end : (wanted left pattern host : List ℕ) (r : Bool)
    → (Stands wanted left ↔ Stands pattern host)
    → (length wanted == 0) ≡ true → r ≡ (length left == 0) → (IsTrue r ↔ Stands pattern host)
stands_at_end [] [] pattern host r same e f = (λ t. same.0 stands_none, λ s. f)
stands_at_end [] (b ∷ h) pattern host r same e f =
    (λ t. absurd (false≢true (sym (not_zero (length h)) ∙ sym f ∙ t)), λ s. absurd (none_stand b h (same.1 s)))
stands_at_end (b ∷ p) left pattern host r same e f = absurd (false≢true (sym (not_zero (length p)) ∙ e))

pub stands_half : (wanted left pattern host : List ℕ) → (Stands wanted left ↔ Stands pattern host)
    → (length wanted == 0) ≡ false → (length left == 0) ≡ true → (IsTrue false ↔ Stands pattern host)
stands_half [] left pattern host same e f = absurd (false≢true (sym e))
stands_half (b ∷ p) [] pattern host same e f =
    (λ t. absurd (false≢true t), λ s. absurd (stand_none b p (same.1 s)))
stands_half (b ∷ p) (c ∷ h) pattern host same e f = absurd (false≢true (sym (not_zero (length h)) ∙ f))

pub number_grows : (n : ℕ) (digits : List ℕ) → n ≤ number_after n digits
unfolding number_after
number_grows n [] = omega arith
number_grows n (d ∷ digits) = let more = number_grows (n * 10 + (d - 48)) digits in omega (arith, more)

pub number_next : (n d : ℕ) (text rest : List ℕ) → text ≡ d ∷ rest
    → number_after n text ≡ number_after (n * 10 + (d - 48)) rest
unfolding number_after
number_next n d text rest e = rw e refl

pub number_done : (n : ℕ) (text : List ℕ) → text ≡ [] → number_after n text ≡ n
unfolding number_after
number_done n text e = rw e refl

pub digits_next : (d : ℕ) (text rest : List ℕ) → text ≡ d ∷ rest → list_all is_ascii_digit text ≡ true
    → (is_ascii_digit d ≡ true) × (list_all is_ascii_digit rest ≡ true)
digits_next d text rest e all =
    and_parts (is_ascii_digit d) (list_all is_ascii_digit rest) (rw e at all)
