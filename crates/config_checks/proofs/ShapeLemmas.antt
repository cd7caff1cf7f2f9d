-- Texts cut at their last colon, which is the only such cut, and fields of which every other one is a color.
use Rattle.std.proofs.Common.{◌≡◌, ◌≢◌, ◌<◌, ◌+◌, ◌&&◌, Bool, true, false, not, ℕ, List, [], ◌∷◌, ◌++◌}
use Rattle.std.proofs.Common.{Option, Some, None, length, take, drop, get_or, refl, sym, ap, subst, ◌∙◌, arith, Bor}
use Rattle.std.proofs.lemmas.List.{length-drop, drop_more, get_or-drop, take-append-drop, same_from_push}
use Rattle.std.proofs.lemmas.List.Sums.{list_all-from_AllPass}
use Rattle.std.proofs.lemmas.Bool.Decides.{nat_tests}
use Rattle.std.specs.Prelude.{MatchOption, IsTrue, ◌↔◌}
use Rattle.std.specs.List.{list_all, HoldsAt, AllWithin}
use Rattle.config_checks.specs.Shapes.{BeginsWith, HasSides, HaveSides, is_no_colon, Follows, Alternate}
use Rattle.config_checks.specs.Shapes.Alternate.{nothing, next}
use Rattle.config_checks.specs.Reading.Steps.{Turn}
use Rattle.config_checks.specs.Reading.Steps.Turn.{start, turn}

pub lacks_front : (text front : List ℕ) (r : Option (Bor (List ℕ)))
    → MatchOption r ((rest : List ℕ) → text ≢ front ++ rest) (λ rest. text ≡ front ++ rest.now)
    → MatchOption r (¬ (BeginsWith text front)) (λ rest. text ≡ front ++ rest.now)
lacks_front text front None lacks = λ begins. lacks begins.0 begins.1
lacks_front text front (Some rest) is = is

no_colon : (b : ℕ) → b ≢ 58 → is_no_colon b ≡ true
no_colon b other = grind (arith, nat_tests)

pub no_colons : (text : List ℕ) → AllWithin (λ b. b ≢ 58) text 0 (length text) → list_all is_no_colon text ≡ true
no_colons text never =
    list_all-from_AllPass is_no_colon text
    (λ k d within. no_colon (get_or text k d) (never k d (omega arith) within))

pub last_colon : (text : List ℕ) (i : ℕ) → i < length text → HoldsAt (λ b. b ≡ 58) text i
    → AllWithin (λ b. b ≢ 58) text (i + 1) (length text)
    → (text ≡ take i text ++ 58 ∷ drop (i + 1) text) × (list_all is_no_colon (drop (i + 1) text) ≡ true)
last_colon text i within here later =
    let rest = drop (i + 1) text in
    let none : list_all is_no_colon rest ≡ true =
    list_all-from_AllPass is_no_colon rest
    (λ k d inside. rw (get_or-drop (i + 1) text k d)
    (no_colon (get_or text (i + 1 + k) d)
    (later (i + 1 + k) d (omega arith) (omega (arith, length-drop (i + 1) text))))) in
    let next : drop i text ≡ 58 ∷ rest = drop_more text i 0 within ∙ ap (λ b. b ∷ rest) (here 0) in
    (sym (take-append-drop i text) ∙ ap (λ t. take i text ++ t) next, none)

-- a text with a colon is none without
has_colon : (front rest : List ℕ) → list_all is_no_colon (front ++ 58 ∷ rest) ≡ true → ⊥
has_colon [] rest all = absurd (cc)
has_colon (b ∷ front) rest all = has_colon front rest (grind arith)

-- the cut at the last colon is the only one
pub sides_once : (s s' g g' : List ℕ) → s ++ 58 ∷ g ≡ s' ++ 58 ∷ g' → list_all is_no_colon g ≡ true
    → list_all is_no_colon g' ≡ true → (s ≡ s') × (g ≡ g')
sides_once [] [] g g' same p q = (refl, cc)
sides_once [] (b ∷ s') g g' same p q =
    let inner : g ≡ s' ++ 58 ∷ g' = cc in absurd (has_colon s' g' (rw inner at p))
sides_once (b ∷ s) [] g g' same p q =
    let inner : s ++ 58 ∷ g ≡ g' = cc in absurd (has_colon s g (rw (sym inner) at q))
sides_once (b ∷ s) (d ∷ s') g g' same p q =
    let (first, last) = sides_once s s' g g' (cc) p q in
    let byte : b ≡ d = cc in (rw (byte, first) refl, last)

-- a text has the sides of one cut
pub one_cut : (t : List ℕ) (s s' : List ℕ) (g g' : Option (List ℕ)) → HasSides t s g → HasSides t s' g'
    → (s ≡ s') × (g ≡ g')
one_cut t s s' None None p q = (p.0 ∙ sym q.0, refl)
one_cut t s s' None (Some g') p q = absurd (has_colon s' g' (rw q.0 at p.1))
one_cut t s s' (Some g) None p q = absurd (has_colon s g (rw p.0 at q.1))
one_cut t s s' (Some g) (Some g') p q =
    let (first, last) = sides_once s s' g g' (sym p.0 ∙ q.0) p.1 q.1 in (first, ap (λ x. Some x) last)

-- what is decided for one cut is decided for the text
pub by_cut : (Are : List ℕ → Option (List ℕ) → Type 0) (t s : List ℕ) (g : Option (List ℕ)) (is : Bool)
    → HasSides t s g
    → (IsTrue is ↔ Are s g) → (IsTrue is ↔ HaveSides Are t)
by_cut Are t s g is cut decides = (
  λ yes. (s, g, cut, decides.0 yes),
  λ have. let (first, last) = one_cut t have.0 s have.1 g have.2 cut in
      decides.1 (subst (Are s) last (subst (λ x. Are x have.1) first have.3)),
)

-- ---- colors by age

-- a field that may follow is the next one, and no other is
last_field : (color other : Bool) (fields all : List (List ℕ)) (field : List ℕ) → Alternate other all
    → other ≡ not color
    → all ≡ fields ++ field ∷ [] → Alternate color fields × Follows color field
last_field color _ [] _ field nothing end same = absurd (cc)
last_field color _ (first ∷ fields) _ field nothing end same = absurd (cc)
last_field color _ fields _ field (next before had last alternate follows) end same =
    let (first, also) = same_from_push had fields last field same in
    let turn : before ≡ color = grind arith in (
      subst (λ c. Alternate c fields) turn (subst (Alternate before) first alternate),
      subst (λ c. Follows c field) turn (subst (Follows before) also follows),
    )

pub next_field : (is may color : Bool) (fields : List (List ℕ)) (field : List ℕ)
    → IsTrue is ↔ Alternate color fields
    → IsTrue may ↔ Follows color field → IsTrue (is && may) ↔ Alternate (not color) (fields ++ field ∷ [])
next_field true true color fields field so_far follows =
    (λ yes. next color fields field (so_far.0 refl) (follows.0 refl), λ all. refl)
next_field true false color fields field so_far follows =
    (λ yes. absurd (cc), λ all. follows.1 (last_field color (not color) fields _ field all refl refl).1)
next_field false may color fields field so_far follows =
    (λ yes. absurd (cc), λ all. so_far.1 (last_field color (not color) fields _ field all refl refl).0)

-- fields have one turn
one_turn : (color other : Bool) (fields all : List (List ℕ)) → Turn color fields → Alternate other all
    → all ≡ fields → other ≡ color
one_turn _ _ _ _ start nothing same = refl
one_turn _ _ _ _ start (next color [] field all follows) same = absurd (cc)
one_turn _ _ _ _ start (next color (first ∷ fields) field all follows) same = absurd (cc)
one_turn _ _ _ _ (turn color [] field turns) nothing same = absurd (cc)
one_turn _ _ _ _ (turn color (first ∷ fields) field turns) nothing same = absurd (cc)
one_turn _ _ _ _ (turn color fields field turns) (next other had last all follows) same =
    let (first, also) = same_from_push had fields last field same in
    ap not (one_turn color other fields had turns all first)

pub whole_fields : (is color : Bool) (fields : List (List ℕ)) → IsTrue is ↔ Alternate color fields
    → Turn color fields
    → IsTrue (is && color) ↔ Alternate true fields
whole_fields true true fields so_far turns = (λ yes. so_far.0 refl, λ all. refl)
whole_fields true false fields so_far turns =
    (λ yes. absurd (cc), λ all. let same = one_turn false true fields fields turns all refl in absurd (cc))
whole_fields false color fields so_far turns = (
  λ yes. absurd (cc),
  λ all. let same = one_turn color true fields fields turns all refl in
      so_far.1 (subst (λ c. Alternate c fields) same all),
)
