-- How far a pattern has matched a text, and why an earlier star need not be tried again.
use Rattle.std.proofs.Common.{◌≡◌, ◌≢◌, ℕ, Bool, true, false, ◌==◌, List, [], ◌∷◌, refl, sym, ap, ◌∙◌, arith}
use Rattle.std.proofs.Common.{drop, eqb-true, inl, inr, ◌↔◌, length, ◌≤◌, ◌<◌}
use Rattle.std.proofs.lemmas.Bool.{true≢false}
use Rattle.config_file.specs.Runs.{Run}
use Rattle.config_file.specs.Set.{slash}
use Rattle.config_file.specs.Pattern.{star, is_star, stands_for, crosses, is_passed, Item, byte, Passes}
use Rattle.config_file.specs.Pattern.{Matches, MatchesLater, MatchesStars, MatchesNoDirectory, LacksStar}
use Rattle.config_file.specs.Pattern.{ends, one, no_more, passes}
use Rattle.config_file.specs.Reading.Places.{Further, next, beyond, FromHere, Follows, size, MatchesDeep}
use Rattle.config_file.specs.Reading.Places.{FindsStar, FindsDeep}
use Rattle.config_file.specs.declared.pattern.Found.{Found}
use Rattle.config_file.specs.declared.pattern.FilePlace.{FilePlace}
use Rattle.config_file.specs.declared.pattern.Found.TheVariants.{Whole, Nothing, Stars}
use Rattle.config_file.proofs.Bounds.{run_shortens}
use Rattle.config_file.proofs.Patterns.{no_star_item, empty_no_item, one_inv, end_inv, stars_inv}
use Rattle.config_file.proofs.Patterns.{stars_no_directory, stars_later, later_here}
use Rattle.config_file.proofs.Same.{item_same}

-- ---- tests

passed_any : (c : Bool) (b : ℕ) → is_passed false b ≡ true → is_passed c b ≡ true
passed_any true b e = refl
passed_any false b e = e

slash_stands : (i : Bool) → stands_for i slash slash ≡ true
slash_stands true = refl
slash_stands false = refl

item_lacks : {i : Bool} {b : ℕ} {pattern rest : List ℕ} → Item i pattern b rest → LacksStar pattern
item_lacks item tail e = no_star_item (rw e at item)

-- ---- items

past_item : {i c starts : Bool} {b : ℕ} {pattern rest : List ℕ} (text : List ℕ) → Item i pattern b rest
    → is_passed c b ≡ true
    → Matches i starts pattern text → Further i c (b == slash) rest text
past_item [] item is match = absurd (empty_no_item (rw (end_inv match (item_lacks item)) at item))
past_item (e ∷ text) item is match =
    let (rest2, item2, more) = one_inv match (item_lacks item) in
    let same = item_same item2 item in
    next (rw (sym same.1) at is) (λ t. eqb-true e slash (same.1 ∙ t)) (rw same.1 at (rw same.0 at more))

further_item : {i c starts : Bool} {b : ℕ} {pattern rest text : List ℕ} → Item i pattern b rest
    → is_passed c b ≡ true
    → Further i c starts pattern text → Further i c (b == slash) rest text
further_item item is (next {text = text} passed slashes match) = beyond passed (past_item text item is match)
further_item item is (beyond passed more) = beyond passed (further_item item is more)

after_one : {i c starts : Bool} {b : ℕ} {pattern rest text : List ℕ} → Item i pattern b rest
    → Further i c starts pattern (b ∷ text) → Further i c (b == slash) rest text
after_one item (next {text = text} passed slashes match) = past_item text item passed match
after_one item (beyond passed more) = further_item item passed more

pub here_one : {i starts : Bool} {b : ℕ} {pattern rest text : List ℕ} → Item i pattern b rest
    → Matches i starts pattern (b ∷ text) → Matches i (b == slash) rest text
here_one item match =
    let (rest2, item2, more) = one_inv match (item_lacks item) in rw (item_same item2 item).0 at more

follows_one : {i starts : Bool} {b : ℕ} {pattern rest text : List ℕ} → Item i pattern b rest
    → Follows i starts pattern (b ∷ text) (b == slash) rest text
follows_one {rest = rest} item = record {
  here = (λ m. here_one item m, λ m. one rest item m);
  later = λ c from. elim from [ inl m ↦ inl (here_one item m) | inr more ↦ inr (after_one item more) ];
}

pub follows_more : {i starts starts2 : Bool} {b : ℕ} {pattern text pattern2 rest text2 : List ℕ} (at : List ℕ)
    → Follows i starts pattern text starts2 pattern2 at
    → at ≡ b ∷ text2 → Item i pattern2 b rest → Follows i starts pattern text (b == slash) rest text2
follows_more {starts2 = starts2} at before e item =
    let first = rw e at before in
    let second = follows_one {starts = starts2} item in record {
      here = (λ m. second.here.0 (first.here.0 m), λ m. first.here.1 (second.here.1 m));
      later = λ c from. second.later c (first.later c from);
    }

pub stops_at_end : {i starts : Bool} {pattern : List ℕ} (at : List ℕ) → at ≡ [] → LacksStar pattern
    → (Matches i starts pattern at) ↔ ((pattern ≡ []) × (at ≡ []))
stops_at_end at e lacks = (λ m. (end_inv (rw e at m) lacks, e), λ both. rw (both.0, both.1) ends)

-- ---- places of a star

further_back : {i c starts : Bool} {b : ℕ} {pattern rest : List ℕ} → Further i c starts pattern (b ∷ rest)
    → FromHere i c starts pattern rest
further_back (next passed slashes match) = inl match
further_back (beyond passed more) = inr more

pub from_back : {i c starts : Bool} {b : ℕ} {pattern rest : List ℕ} (at : List ℕ) → at ≡ b ∷ rest
    → ¬ (Matches i starts pattern at)
    → FromHere i c starts pattern at → FromHere i c starts pattern rest
from_back at e none (inl m) = absurd (none m)
from_back at e none (inr more) = further_back (rw e at more)

-- one more byte that is passed, if no name has to start there
from_step : {i c : Bool} {b : ℕ} {pattern text : List ℕ} → is_passed c b ≡ true
    → FromHere i c false pattern text
    → Further i c false pattern (b ∷ text)
from_step is (inl m) = next is (λ e. cc) m
from_step is (inr more) = beyond is more

from_passes : {i d c : Bool} {pattern text left : List ℕ}
    → ((b : ℕ) → is_passed d b ≡ true → is_passed c b ≡ true)
    → Passes d text left → Matches i false pattern left → FromHere i c false pattern text
from_passes weaker no_more match = inl match
from_passes weaker (passes {b = b} is more) match =
    inr (from_step (weaker b is) (from_passes weaker more match))

pub from_later : {i c : Bool} {pattern text : List ℕ} → MatchesLater i c pattern text
    → FromHere i c false pattern text
from_later (left, passed, match) = from_passes (λ b is. is) passed match

further_later : {i c starts : Bool} {pattern text : List ℕ} → starts ≡ false
    → Further i c starts pattern text → MatchesLater i c pattern text
further_later e (next {text = text} is slashes match) = (text, passes is no_more, rw e at match)
further_later e (beyond is more) =
    let (left, passed, match) = further_later e more in
    (left, passes is passed, match)

pub to_later : {i c : Bool} {pattern text : List ℕ} → FromHere i c false pattern text
    → MatchesLater i c pattern text
to_later (inl m) = later_here m
to_later (inr more) = further_later refl more

-- ---- the next star: what matches from an earlier star's later places matches from this star too

star_from : {i c starts : Bool} {pattern more rest text : List ℕ} → Run is_star pattern more rest
    → crosses starts more rest ≡ false
    → Matches i starts (star ∷ pattern) text → FromHere i c false rest text
star_from {c = c} run short match =
    elim (stars_inv run match) [
      | inl (after, crossing, at, m) ↦ absurd (true≢false (sym crossing ∙ short))
      | inr (left, passed, m) ↦ from_passes (passed_any c) (rw short at passed) m
    ]

star_further : {i c starts : Bool} {pattern more rest text : List ℕ} → Run is_star pattern more rest
    → crosses starts more rest ≡ false
    → Further i c starts (star ∷ pattern) text → Further i c false rest text
star_further run short (next is slashes match) = from_step is (star_from run short match)
star_further run short (beyond is more) = beyond is (star_further run short more)

pub star_all : {i c starts : Bool} {pattern more rest text : List ℕ} → Run is_star pattern more rest
    → crosses starts more rest ≡ false
    → FromHere i c starts (star ∷ pattern) text → FromHere i c false rest text
star_all run short (inl m) = star_from run short m
star_all run short (inr more) = inr (star_further run short more)

-- ---- the next stars that cross directories

slash_here : {i : Bool} {b : ℕ} {rest after text : List ℕ} → rest ≡ slash ∷ after → b ≡ slash
    → Matches i true after text
    → Matches i false rest (b ∷ text)
slash_here {i = i} {after = after} at e match = rw (at, e) (one after (byte (slash_stands i)) match)

deep_further : {i starts : Bool} {pattern more rest text : List ℕ} → Run is_star pattern more rest
    → crosses starts more rest ≡ true
    → starts ≡ true → Further i true starts (star ∷ pattern) text → MatchesLater i true rest text
deep_further run long name (next {b = b} {text = text} is slashes match) =
    elim (stars_inv run match) [
      | inl (after, crossing, at, m) ↦ (b ∷ text, no_more, slash_here at (slashes name) m)
      | inr (left, passed, m) ↦ (left, passes refl (rw long at passed), m)
    ]
deep_further run long name (beyond is further) =
    let (left, passed, m) = deep_further run long name further in (left, passes refl passed, m)

crosses_starts : (starts : Bool) (more rest : List ℕ) → crosses starts more rest ≡ true → starts ≡ true
crosses_starts starts [] rest e = cc
crosses_starts true (c ∷ more) rest e = refl
crosses_starts false (c ∷ more) rest e = cc

pub deep_all : {i starts : Bool} {pattern more rest text : List ℕ} → Run is_star pattern more rest
    → crosses starts more rest ≡ true
    → FromHere i true starts (star ∷ pattern) text → MatchesDeep i rest text
deep_all run long (inl m) = rw long at (stars_inv run m)
deep_all {starts = starts} {more = more} {rest = rest} run long (inr further) =
    inr (deep_further run long (crosses_starts starts more rest long) further)

pub deep_back : {i starts : Bool} {pattern more rest text : List ℕ} → Run is_star pattern more rest
    → crosses starts more rest ≡ true
    → MatchesDeep i rest text → MatchesStars i starts pattern text
deep_back {rest = rest} run long (inl m) = stars_no_directory rest run (rw long m)
deep_back run long (inr m) = stars_later run (rw long m)

pub short_back : {i starts : Bool} {pattern more rest text : List ℕ} → Run is_star pattern more rest
    → crosses starts more rest ≡ false
    → MatchesLater i false rest text → MatchesStars i starts pattern text
short_back run short m = stars_later run (rw short m)

-- ---- `/` after stars that cross directories

slash_lacks : {after : List ℕ} → LacksStar (slash ∷ after)
slash_lacks tail e = cc

slash_further : {i : Bool} {after : List ℕ} (left : List ℕ) → Matches i false (slash ∷ after) left
    → Further i true true after left
slash_further [] m = cc (end_inv m slash_lacks)
slash_further {i = i} {after = after} (b ∷ text) m =
    let (rest, item, more) = one_inv m slash_lacks in
    let same = item_same item (byte {c = slash} {b = slash} {rest = after} (slash_stands i)) in
    next refl (λ t. eqb-true b slash same.1) (rw same.1 at (rw same.0 at more))

slash_passes : {i : Bool} {after text left : List ℕ} → Passes true text left
    → Matches i false (slash ∷ after) left
    → Further i true true after text
slash_passes {text = text} no_more m = slash_further text m
slash_passes (passes is more) m = beyond is (slash_passes more m)

pub slash_only : {i : Bool} {after text : List ℕ} (pattern : List ℕ) → pattern ≡ slash ∷ after
    → MatchesNoDirectory i true pattern text
    → Matches i true after text
slash_only pattern e (rest, crossing, at, m) = rw (sym (ap (drop 1) (sym e ∙ at))) at m

pub slash_from : {i : Bool} {after text : List ℕ} (pattern : List ℕ) → pattern ≡ slash ∷ after
    → MatchesDeep i pattern text
    → FromHere i true true after text
slash_from pattern e (inl match) = inl (slash_only pattern e match)
slash_from pattern e (inr (left, passed, m)) = inr (slash_passes passed (rw e at m))

-- ---- what is found

pub star_map : (i : Bool) {P Q : Type 0} {F G : Bool → Type 0} (found : Found) → (P → Q)
    → (found ≡ Nothing → Q → P) → ((c : Bool) → G c → F c) → FindsStar i P F found → FindsStar i Q G found
star_map i Whole there back from is = there is
star_map i Nothing there back from is = λ q. is (back refl q)
star_map i (Stars place) there back from is = (λ m. there (is.0 m), λ c g. is.1 c (from c g))

pub deep_map : (i : Bool) {P Q F G : Type 0} (found : Found) → (P → Q) → (found ≡ Nothing → Q → P) → (G → F)
    → FindsDeep i P F found → FindsDeep i Q G found
deep_map i Whole there back from is = there is
deep_map i Nothing there back from is = λ q. is (back refl q)
deep_map i (Stars place) there back from is = (λ m. there (is.0 m), λ g. is.1 (from g))

pub deep_stars : {i : Bool} {P : Type 0} (F : Bool → Type 0) {more rest : List ℕ} {found : Found} (place : FilePlace)
    → found ≡ Stars place → FindsStar i P F found → Run is_star place.pattern.now more rest
    → crosses place.starts more rest ≡ true
    → (MatchesDeep i rest place.text.now → P) × (F true → MatchesDeep i rest place.text.now)
deep_stars F place e is run long =
    let both = rw e at is in (λ d. both.0 (deep_back run long d), λ g. deep_all run long (both.1 true g))

pub star_next : (i : Bool) {P : Type 0} (F : Bool → Type 0) {more rest : List ℕ} {found : Found} (place : FilePlace)
    → found ≡ Stars place → FindsStar i P F found → Run is_star place.pattern.now more rest
    → crosses place.starts more rest ≡ false → (P → F false) → (found2 : Found)
    → FindsStar i (MatchesLater i false rest place.text.now) (λ c. FromHere i c false rest place.text.now) found2
    → FindsStar i P F found2
star_next i F place e is run short whole found2 is2 =
    let both = rw e at is in
    star_map i found2 (λ m. both.0 (short_back run short m)) (λ n p. to_later (star_all run short (both.1 false (whole p))))
    (λ c f. star_all run short (both.1 c f)) is2

pub smaller : {more rest : List ℕ} (found found2 : Found) (place : FilePlace) → found ≡ Stars place
    → Run is_star place.pattern.now more rest
    → size found2 ≤ length rest → size found2 < size found
smaller found found2 place e run short = let less = run_shortens run in rw e (omega arith)

pub stops_slash : (b : ℕ) → b ≡ slash → is_passed false b ≡ false
stops_slash b e = rw e refl

pub passes_other : (b : ℕ) → b ≢ slash → is_passed false b ≡ true
passes_other b ne = grind arith
