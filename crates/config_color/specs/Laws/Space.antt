-- The bytes of the spellings of white space.
use Rattle.std.proofs.Common.{◌≡◌, ℕ, ◌+◌, ◌<◌, ◌≤◌, ◌⊎◌, inl, inr, Bool, true, false, ◌||◌, nat_le, List, []}
use Rattle.std.proofs.Common.{◌∷◌, ◌++◌, length, get_or, drop, refl, ap, arith}
use Rattle.std.proofs.lemmas.Bool.Decides.{leb_tells, nat_tests}
use Rattle.std.proofs.lemmas.List.{get_or-drop}
use Rattle.config_color.specs.Reading.Split.{IsWithoutSpace}
use Rattle.config_color.specs.Reading.Color.{ArePlain}
use Rattle.config_text.specs.Laws.OneOf.{all-one}
use Rattle.config_color.specs.Space.{spellings, Space}

pub narrow_bytes : (a : ℕ) → Space (a ∷ []) → ((9 ≤ a) × (a ≤ 13)) ⊎ (a ≡ 32)
unfolding spellings
narrow_bytes a h = grind arith

pub double_bytes : (a b : ℕ) → Space (a ∷ b ∷ []) → (a ≡ 194) × ((b ≡ 133) ⊎ (b ≡ 160))
unfolding spellings
double_bytes a b h = grind arith

pub triple_bytes : (a b c : ℕ) → Space (a ∷ b ∷ c ∷ [])
    → ((a ≡ 225) × (b ≡ 154) × (c ≡ 128))
    ⊎ ((a ≡ 226) × (b ≡ 128) × (((128 ≤ c) × (c ≤ 138)) ⊎ (c ≡ 168) ⊎ (c ≡ 169) ⊎ (c ≡ 175)))
    ⊎ ((a ≡ 226) × (b ≡ 129) × (c ≡ 159)) ⊎ ((a ≡ 227) × (b ≡ 128) × (c ≡ 128))
unfolding spellings
triple_bytes a b c h = grind arith

pub bytes_narrow : (a : ℕ) → (9 ≤ a) × (a ≤ 13) ⊎ (a ≡ 32) → Space (a ∷ [])
unfolding spellings
bytes_narrow a h = grind arith

pub bytes_general : (c : ℕ) → (128 ≤ c) × (c ≤ 138) ⊎ (c ≡ 168) ⊎ (c ≡ 169) ⊎ (c ≡ 175)
    → Space (226 ∷ 128 ∷ c ∷ [])
unfolding spellings
bytes_general c h = grind arith

pub bytes_triple : (a b c : ℕ)
    → (a ≡ 225) × (b ≡ 154) × (c ≡ 128) ⊎ (a ≡ 226) × (b ≡ 129) × (c ≡ 159) ⊎ (a ≡ 227) × (b ≡ 128)
    × (c ≡ 128)
    → Space (a ∷ b ∷ c ∷ [])
unfolding spellings
bytes_triple a b c h = grind arith

-- the text begins with a spelling of one, two or three bytes
pub data Begins (text : List ℕ) : Type 0 where
  one : (a : ℕ) (rest : List ℕ) → text ≡ a ∷ rest → Space (a ∷ []) → Begins text
  two : (a b : ℕ) (rest : List ℕ) → text ≡ a ∷ b ∷ rest → Space (a ∷ b ∷ []) → Begins text
  three : (a b c : ℕ) (rest : List ℕ) → text ≡ a ∷ b ∷ c ∷ rest → Space (a ∷ b ∷ c ∷ []) → Begins text

-- no spelling is empty
pub no_empty : Space [] → ⊥
unfolding spellings
no_empty h = grind arith

-- no spelling has more than three bytes
no_longer : (a b c d : ℕ) (more : List ℕ) → Space (a ∷ b ∷ c ∷ d ∷ more) → ⊥
unfolding spellings
no_longer a b c d more h = grind arith

pub begins : (text space rest : List ℕ) → Space space → text ≡ space ++ rest → Begins text
begins text [] rest h e = absurd (no_empty h)
begins text (a ∷ []) rest h e = one a rest e h
begins text (a ∷ b ∷ []) rest h e = two a b rest e h
begins text (a ∷ b ∷ c ∷ []) rest h e = three a b c rest e h
begins text (a ∷ b ∷ c ∷ d ∷ more) rest h e = absurd (no_longer a b c d more h)

-- a text does not begin with a spelling if neither its first byte nor its first two or three bytes are one
pub begins_not : (text : List ℕ) → (1 ≤ length text → ¬ (Space (get_or text 0 0 ∷ [])))
    → (2 ≤ length text → ¬ (Space (get_or text 0 0 ∷ get_or text 1 0 ∷ [])))
    → (3 ≤ length text → ¬ (Space (get_or text 0 0 ∷ get_or text 1 0 ∷ get_or text 2 0 ∷ [])))
    → (space rest : List ℕ) → Space space → ¬ (text ≡ space ++ rest)
begins_not text p q r space rest h e = refuted text p q r (begins text space rest h e) where
  refuted : (text : List ℕ) → (1 ≤ length text → ¬ (Space (get_or text 0 0 ∷ [])))
      → (2 ≤ length text → ¬ (Space (get_or text 0 0 ∷ get_or text 1 0 ∷ [])))
      → (3 ≤ length text → ¬ (Space (get_or text 0 0 ∷ get_or text 1 0 ∷ get_or text 2 0 ∷ []))) → Begins text
      → ⊥
  refuted text p q r (one a rest e s) = (rw e at p) (omega arith) s
  refuted text p q r (two a b rest e s) = (rw e at q) (omega arith) s
  refuted text p q r (three a b c rest e s) = (rw e at r) (omega arith) s

-- whether the first byte is at most 32 or at least 194
abbrev is_start : List ℕ → Bool
is_start [] = false
is_start (a ∷ more) = nat_le a 32 || nat_le 194 a

space_start : (a : ℕ) (more : List ℕ) → Space (a ∷ more) → nat_le a 32 || nat_le 194 a ≡ true
unfolding spellings
space_start a more s = all-one is_start spellings (a ∷ more) refl s

-- a text whose first byte is between 32 and 194 does not begin with a spelling
pub start_not : (text : List ℕ) → 32 < get_or text 0 0 → get_or text 0 0 < 194
    → (space rest : List ℕ) → Space space → ¬ (text ≡ space ++ rest)
start_not text low high [] rest s e = no_empty s
start_not text low high (a ∷ more) rest s e =
    let first : get_or text 0 0 ≡ a = ap (λ t. get_or t 0 0) e in
    let start = space_start a more s in grind (arith, nat_tests)

pub bytes_double : (a b : ℕ) → a ≡ 194 → (b ≡ 133) ⊎ (b ≡ 160) → Space (a ∷ b ∷ [])
unfolding spellings
bytes_double a b h k = grind arith

-- a run of plain bytes has no white space
pub plain_run : (text : List ℕ) (from to : ℕ) → IsWithoutSpace text from → ArePlain text from to
    → IsWithoutSpace text to
plain_run text from to clear plain k below space rest s =
    elim (leb_tells from k) [
      | inl h ↦
          let e : k + 0 ≡ k = omega arith in
          let byte : (32 < get_or (drop k text) 0 0) × (get_or (drop k text) 0 0 < 194) =
          rw (get_or-drop k text 0 0, e) (plain k h.1 below) in
          start_not (drop k text) byte.0 byte.1 space rest s
      | inr h ↦ clear k h.1 space rest s
    ]
