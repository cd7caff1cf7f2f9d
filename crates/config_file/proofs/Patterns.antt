-- What patterns match, by how they begin.
use Rattle.std.proofs.Common.{◌≡◌, ◌≢◌, ℕ, Bool, true, false, List, [], ◌∷◌, refl, sym, ap, ◌∙◌, arith, inl}
use Rattle.std.proofs.Common.{inr, ◌⊎◌, ◌==◌, length, ◌<◌, ◌↔◌, IsTrue}
use Rattle.std.proofs.lemmas.Bool.{true≢false}
use Rattle.config_file.specs.Runs.{Run}
use Rattle.config_file.specs.Bytes.{left_bracket, backslash}
use Rattle.config_file.specs.Set.{slash, folded, StandsForByte}
use Rattle.config_file.proofs.OneRun.{run_only}
use Rattle.config_file.proofs.Sets.{set_shortens}
use Rattle.config_file.specs.Pattern.{star, is_star, stands_for, crosses, is_passed, Item, byte, escaped, set}
use Rattle.config_file.specs.Pattern.{Passes, Matches, MatchesLater, MatchesStars, MatchesNoDirectory}
use Rattle.config_file.specs.Pattern.{LacksStar, ends, one, stars, no_directory, no_more, passes}

-- ---- items

pub stands_for_backslash : (i : Bool) (c b : ℕ) → c ≡ backslash → stands_for i c b ≡ true → ⊥
stands_for_backslash i c b e is = true≢false (sym (rw e at is))

pub stands_for_bracket : (i : Bool) (c b : ℕ) → c ≡ left_bracket → stands_for i c b ≡ true → ⊥
stands_for_bracket i c b e is = true≢false (sym (rw e at is))

pub no_star_item : {i : Bool} {b : ℕ} {pattern rest : List ℕ} → Item i (star ∷ pattern) b rest → ⊥
no_star_item (byte is) = true≢false (sym is)
no_star_item (escaped e f) = absurd (omega arith)
no_star_item (set e is) = absurd (omega arith)

pub item_shortens : {i : Bool} {b : ℕ} {pattern r : List ℕ} → Item i pattern b r → length r < length pattern
item_shortens (byte is) = omega arith
item_shortens (escaped e f) = omega arith
item_shortens (set e stands) = let short = set_shortens stands in omega arith

pub byte_item : {i : Bool} {b c : ℕ} {more : List ℕ} (pattern : List ℕ) → pattern ≡ c ∷ more
    → stands_for i c b ≡ true → Item i pattern b more
byte_item pattern at is = rw at (byte is)

pub escaped_item : {i : Bool} {b c : ℕ} {more rest : List ℕ} (pattern : List ℕ) → pattern ≡ c ∷ more
    → c ≡ backslash
    → more ≡ folded i b ∷ rest → Item i pattern b rest
escaped_item pattern at is e = rw (at, e) (escaped is refl)

pub set_item : {i : Bool} {b c : ℕ} {more rest : List ℕ} (pattern : List ℕ) → pattern ≡ c ∷ more
    → c ≡ left_bracket
    → StandsForByte i more b rest → Item i pattern b rest
set_item pattern at is stands = rw at (set is stands)

pub empty_no_item : {i : Bool} {b : ℕ} {rest : List ℕ} → Item i [] b rest → ⊥
empty_no_item item = let short = item_shortens item in omega arith

pub no_item : {i : Bool} {b : ℕ} (pattern rest : List ℕ) → pattern ≡ [] → ¬ (Item i pattern b rest)
no_item pattern rest e item = empty_no_item (rw e at item)

byte_inv : {i : Bool} {b c : ℕ} {more rest : List ℕ} → Item i (c ∷ more) b rest → c ≢ backslash
    → c ≢ left_bracket
    → stands_for i c b ≡ true
byte_inv (byte is) plain closed = is
byte_inv (escaped is e) plain closed = absurd (plain is)
byte_inv (set is stands) plain closed = absurd (closed is)

escape_inv : {i : Bool} {b c : ℕ} {more rest : List ℕ} → Item i (c ∷ more) b rest → c ≡ backslash
    → more ≡ folded i b ∷ rest
escape_inv {i = i} {b = b} {c = c} (byte is) e = absurd (stands_for_backslash i c b e is)
escape_inv (escaped {rest = rest} is e) f = ap (λ x. x ∷ rest) e
escape_inv (set is stands) e = absurd (omega arith)

set_inv : {i : Bool} {b c : ℕ} {more rest : List ℕ} → Item i (c ∷ more) b rest → c ≡ left_bracket
    → StandsForByte i more b rest
set_inv {i = i} {b = b} {c = c} (byte is) e = absurd (stands_for_bracket i c b e is)
set_inv (escaped is e) f = absurd (omega arith)
set_inv (set is stands) e = stands

pub no_escaped_item : {i : Bool} {b c : ℕ} {more : List ℕ} (pattern rest : List ℕ) → pattern ≡ c ∷ more
    → c ≡ backslash
    → ((r : List ℕ) → more ≢ folded i b ∷ r) → ¬ (Item i pattern b rest)
no_escaped_item pattern rest e is never item = never rest (escape_inv (rw e at item) is)

pub no_set_item : {i : Bool} {b c : ℕ} {more : List ℕ} (pattern rest : List ℕ) → pattern ≡ c ∷ more
    → c ≡ left_bracket
    → ((r : List ℕ) → ¬ (StandsForByte i more b r)) → ¬ (Item i pattern b rest)
no_set_item pattern rest e is never item = never rest (set_inv (rw e at item) is)

pub no_byte_item : {i : Bool} {b c : ℕ} {more : List ℕ} (pattern rest : List ℕ) → pattern ≡ c ∷ more
    → c ≢ backslash
    → c ≢ left_bracket → stands_for i c b ≡ false → ¬ (Item i pattern b rest)
no_byte_item pattern rest e plain closed never item =
    true≢false (sym (byte_inv (rw e at item) plain closed) ∙ never)

-- ---- patterns that do not begin with a star

pub one_inv : {i starts : Bool} {b : ℕ} {pattern text : List ℕ} → Matches i starts pattern (b ∷ text)
    → LacksStar pattern
    → (rest : List ℕ) × Item i pattern b rest × Matches i (b == slash) rest text
one_inv (one rest item more) lacks = (rest, item, more)
one_inv (stars {pattern = pattern} more rest left is run passed match) lacks =
    absurd (lacks pattern (ap (λ x. x ∷ pattern) is))
one_inv (no_directory {pattern = pattern} more rest is run crossing match) lacks =
    absurd (lacks pattern (ap (λ x. x ∷ pattern) is))

pub end_inv : {i starts : Bool} {pattern : List ℕ} → Matches i starts pattern [] → LacksStar pattern
    → pattern ≡ []
end_inv ends lacks = refl
end_inv (stars {pattern = pattern} more rest left is run passed match) lacks =
    absurd (lacks pattern (ap (λ x. x ∷ pattern) is))
end_inv (no_directory {pattern = pattern} more rest is run crossing match) lacks =
    absurd (lacks pattern (ap (λ x. x ∷ pattern) is))

-- ---- stars

pub stars_inv : {i starts : Bool} {pattern more rest text : List ℕ} → Run is_star pattern more rest
    → Matches i starts (star ∷ pattern) text
    → MatchesNoDirectory i (crosses starts more rest) rest text ⊎ MatchesLater i (crosses starts more rest) rest text
stars_inv run (one rest item match) = absurd (no_star_item item)
stars_inv run (stars more2 rest2 left is run2 passed match) =
    let same = run_only run run2 in rw (same.0, same.1) (inr (left, passed, match))
stars_inv run (no_directory more2 rest2 is run2 crossing match) =
    let same = run_only run run2 in rw (same.0, same.1) (inl (rest2, crossing, refl, match))

pub stars_no_directory : {i starts : Bool} {pattern more text : List ℕ} (rest : List ℕ)
    → Run is_star pattern more rest
    → MatchesNoDirectory i (crosses starts more rest) rest text → MatchesStars i starts pattern text
stars_no_directory {more = more} rest run (after, crossing, e, match) =
    no_directory more after refl (rw e at run) (rw e at crossing) match

pub stars_later : {i starts : Bool} {pattern more rest text : List ℕ} → Run is_star pattern more rest
    → MatchesLater i (crosses starts more rest) rest text → MatchesStars i starts pattern text
stars_later {more = more} {rest = rest} run (left, passed, match) = stars more rest left refl run passed match

-- ---- what stars pass

pub later_here : {i crossing : Bool} {pattern at : List ℕ} → Matches i false pattern at
    → MatchesLater i crossing pattern at
later_here {at = at} match = (at, no_more, match)

pub later_step : {i crossing : Bool} {b : ℕ} {pattern rest : List ℕ} (at : List ℕ) → at ≡ b ∷ rest
    → is_passed crossing b ≡ true
    → MatchesLater i crossing pattern rest → MatchesLater i crossing pattern at
later_step at e is (left, passed, match) = rw e (left, passes is passed, match)

passes_inv : {crossing : Bool} {b : ℕ} {rest left : List ℕ} → Passes crossing (b ∷ rest) left
    → (left ≡ b ∷ rest) ⊎ ((is_passed crossing b ≡ true) × Passes crossing rest left)
passes_inv no_more = inl refl
passes_inv (passes is more) = inr (is, more)

passes_none : {crossing : Bool} {left : List ℕ} → Passes crossing [] left → left ≡ []
passes_none no_more = refl

later_inv : {i crossing : Bool} {b : ℕ} {pattern rest : List ℕ} (at : List ℕ) → at ≡ b ∷ rest
    → ¬ (Matches i false pattern at)
    → MatchesLater i crossing pattern at
    → (is_passed crossing b ≡ true) × MatchesLater i crossing pattern rest
later_inv at e never (left, passed, match) =
    elim (passes_inv (rw e at passed)) [
      | inl same ↦ absurd (never (rw (same ∙ sym e) at match))
      | inr more ↦ (more.0, (left, more.1, match))
    ]

pub later_back : {i crossing : Bool} {b : ℕ} {pattern rest : List ℕ} (at : List ℕ) → at ≡ b ∷ rest
    → ¬ (Matches i false pattern at)
    → MatchesLater i crossing pattern at → MatchesLater i crossing pattern rest
later_back at e never later = (later_inv at e never later).1

pub later_stops : {i crossing : Bool} {b : ℕ} {pattern rest : List ℕ} (at : List ℕ) → at ≡ b ∷ rest
    → ¬ (Matches i false pattern at)
    → is_passed crossing b ≡ false → ¬ (MatchesLater i crossing pattern at)
later_stops at e never stops later = true≢false (sym ((later_inv at e never later).0) ∙ stops)

pub later_ends : {i crossing : Bool} {pattern : List ℕ} (at : List ℕ) → at ≡ []
    → ¬ (Matches i false pattern at)
    → ¬ (MatchesLater i crossing pattern at)
later_ends at e never (left, passed, match) = never (rw (passes_none (rw e at passed) ∙ sym e) at match)

-- ---- results of tests

pub no_match : {P : Type 0} (b : Bool) → b ≡ false → IsTrue b ↔ P → ¬ P
no_match b e same whole = true≢false (sym (same.1 whole) ∙ e)
