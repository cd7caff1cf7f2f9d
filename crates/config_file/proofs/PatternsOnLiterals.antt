-- Whether a pattern matches a literal text: a function that computes it, with the proof. It gives no answer
-- to a set that is not closed, that has a range before its end, or whose `[:` begins no class.
use Rattle.std.proofs.Common.{◌≡◌, ◌≢◌, ℕ, zero, suc, Bool, true, false, ◌==◌, ◌||◌, List, [], ◌∷◌, ◌++◌}
use Rattle.std.proofs.Common.{Option, Some, None, codes, length, drop, map, refl, sym, ap, subst, eqb-true}
use Rattle.std.proofs.Common.{inl, inr, ◌⊎◌}
use Rattle.std.proofs.lemmas.Bool.{true≢false}
use Rattle.std.specs.List.{AllByRecursion}
use Rattle.config_file.proofs.Fronts.{is_front, lacks}
use Rattle.config_file.proofs.OneRun.{before}
use Rattle.config_file.proofs.OnLiterals.{Known, carry}
use Rattle.config_file.proofs.Runs.{run_split}
use Rattle.config_file.proofs.Sets.{test, equal, given, cons_same, same, class_at}
use Rattle.config_file.proofs.Sets.{not_opened, stands, stands_unwanted, stands_for_no_slash}
use Rattle.config_file.proofs.Patterns.{no_item, byte_item, escaped_item, set_item, no_escaped_item}
use Rattle.config_file.proofs.Patterns.{no_set_item, no_byte_item}
use Rattle.config_file.proofs.Patterns.{one_inv, end_inv, stars_inv, stars_no_directory, stars_later}
use Rattle.config_file.proofs.Patterns.{later_here, later_step, later_back, later_stops, later_ends}
use Rattle.config_file.proofs.Places.{here_one}
use Rattle.config_file.specs.Runs.{Run}
use Rattle.config_file.specs.Set as set
use Rattle.config_file.specs.Set.{slash, folded, range_has, opened, is_wanted, is_unclosed, IsNoClass, Class}
use Rattle.config_file.specs.Set.{SetByte, RangeEnd, Member, SetHas, StandsForByte}
use Rattle.config_file.specs.Pattern as match
use Rattle.config_file.specs.Pattern.{Item, Matches, MatchesText, MatchesLater, MatchesNoDirectory, LacksStar}
use Rattle.config_file.specs.Pattern.{stands_for, crosses, is_passed, is_star}

-- ---- choices, which compute

abbrev decided : {A B C : Type 0} → Option (A ⊎ B) → (A → Option C) → (B → Option C) → Option C
decided None one other = None
decided (Some (inl a)) one other = one a
decided (Some (inr b)) one other = other b

abbrev answer : {A B C D : Type 0} → Option (A ⊎ B) → (A → C) → (B → D) → Option (C ⊎ D)
answer None one other = None
answer (Some (inl a)) one other = Some (inl (one a))
answer (Some (inr b)) one other = Some (inr (other b))

-- ---- sets

pub cons_head : {x y : ℕ} {a b : List ℕ} → x ∷ a ≡ y ∷ b → x ≡ y
cons_head e = cc

pub no_cons : {x : ℕ} {a : List ℕ} → [] ≢ x ∷ a
no_cons e = cc

abbrev Byte : Bool → List ℕ → Type 0
Byte starts text = Known (λ (p : ℕ × List ℕ). SetByte starts text p.0 p.1)

abbrev escaped_byte : (starts : Bool) (c : ℕ) (rest : List ℕ) → c ≡ 92 → Byte starts (c ∷ rest)
escaped_byte starts c [] is = None
escaped_byte starts c (e ∷ rest) is = Some ((e, rest), set.after_backslash is)

abbrev byte_at : (starts : Bool) (text : List ℕ) → Byte starts text
byte_at starts [] = None
byte_at starts (c ∷ rest) =
    equal c 92 (escaped_byte starts c rest) (λ other. equal c 93
    (λ ends. test starts (λ first. Some ((c, rest), set.bare other (λ e. first))) (λ later. None))
    (λ plain. Some ((c, rest), set.bare other (λ e. absurd (plain e)))))

pub no_dash : {c last : ℕ} {text rest : List ℕ} → c ≢ 45 → RangeEnd (c ∷ text) last rest → ⊥
no_dash other (set.to e is) = other e

pub no_end : {last : ℕ} {rest : List ℕ} → RangeEnd [] last rest → ⊥
no_end h = elim h [ ]

abbrev Has : Bool → ℕ → Bool → List ℕ → Type 0
Has i b starts text = Known (λ (p : Bool × List ℕ). Member i b starts text p.0 p.1)

-- the member that begins with this byte of a set
abbrev after_byte : (i : Bool) (b : ℕ) (starts : Bool) (text : List ℕ) → IsNoClass text
    → (c : ℕ) (rest : List ℕ) → SetByte starts text c rest → Has i b starts text
after_byte i b starts text none c [] byte = Some (_, set.single c none byte (λ last rest. no_end) refl)
after_byte i b starts text none c (d ∷ rest) byte =
    equal d 45
    (λ is. carry (λ p. (c == folded i b || range_has i c p.0 b, p.1))
    (λ p last. set.range c p.0 (d ∷ rest) none byte (set.to is last) refl) (byte_at false rest))
    (λ other. Some (_, set.single c none byte (λ last rest. no_dash other) refl))

pub closed_run : {c : ℕ} {inner inside front rest : List ℕ} → c ≡ 93 → inside ≡ front
    → Run is_unclosed inner inside (c ∷ rest)
    → Run is_unclosed inner front (93 ∷ rest)
closed_run is e run = rw (e, is) at run

-- the text after `[:`, whose run before the next `]` is this one
abbrev class_in : (i : Bool) (b : ℕ) (starts : Bool) (inner inside closing : List ℕ)
    → Run is_unclosed inner inside closing → Has i b starts (codes "[:" ++ inner)
class_in i b starts inner inside [] run = None
class_in i b starts inner inside (c ∷ rest) run =
    equal c 93
    (λ is. given (same inside (before inside (58 ∷ []) ++ codes ":")) (λ e. carry (λ has. (has, rest))
    (λ has known. set.class (before inside (58 ∷ [])) (record { inner = inner; opened = refl; closed = closed_run is e run }) known)
    (class_at i b (before inside (58 ∷ [])))))
    (λ other. None)

abbrev member_at : (i : Bool) (b : ℕ) (starts : Bool) (text : List ℕ) → Has i b starts text
member_at i b starts text =
    test (is_front (codes "[:") text)
    (λ opens. given (same text (codes "[:" ++ drop 2 text)) (λ e. carry (λ p. p)
    (λ p is. subst (λ t. Member i b starts t p.0 p.1) (sym e) is)
    (class_in i b starts (drop 2 text) _ _ (run_split is_unclosed (drop 2 text)))))
    (λ none. given (byte_at starts text)
    (λ c. after_byte i b starts text (not_opened (lacks (codes "[:") text none)) c.0.0 c.0.1 c.1))

abbrev All : Bool → ℕ → Bool → List ℕ → Type 0
All i b starts text = Known (λ (p : Bool × List ℕ). SetHas i b starts text p.0 p.1)

abbrev and_more : (i : Bool) (b : ℕ) (starts : Bool) (text : List ℕ)
    → ((text : List ℕ) → All i b false text) → Has i b starts text → All i b starts text
and_more i b starts text go None = None
and_more i b starts text go (Some m) =
    carry (λ p. (m.0.0 || p.0, p.1)) (λ p more. set.has m.0.0 p.0 m.0.1 m.1 more refl) (go m.0.1)

-- the members of a set, of at most n bytes
abbrev members_at : ℕ → (i : Bool) (b : ℕ) (text : List ℕ) → All i b false text
members_at n i b [] = None
members_at zero i b (c ∷ text) = None
members_at (suc n) i b (c ∷ text) =
    equal c 93 (λ is. Some ((false, text), set.closes is))
    (λ other. and_more i b false (c ∷ text) (members_at n i b) (member_at i b false (c ∷ text)))

-- ---- items

-- an answer, if there is one: this holds, or it does not
abbrev Answer : Type 0 → Type 0
Answer P = Option (P ⊎ (P → ⊥))

abbrev Follows : (List ℕ → Type 0) → Type 0
Follows P = Option (((rest : List ℕ) × P rest) ⊎ ((rest : List ℕ) → P rest → ⊥))

abbrev set_at : (i : Bool) (text : List ℕ) (b : ℕ) → Follows (StandsForByte i text b)
set_at i text b =
    let inner = (opened text).1 in
    given (and_more i b true inner (members_at (length inner) i b) (member_at i b true inner))
    (λ all. equal b 47 (λ is. Some (inr (stands_for_no_slash is)))
    (λ apart. test (is_wanted all.0.0 ((opened text).0))
    (λ wanted. Some (inl (all.0.1, stands {text = text} refl all.1 wanted apart)))
    (λ unwanted. Some (inr (stands_unwanted {text = text} refl all.1 unwanted)))))

abbrev escape_at : (i : Bool) (c b : ℕ) (more : List ℕ) → c ≡ 92 → Follows (Item i (c ∷ more) b)
escape_at i c b [] is = Some (inr (λ rest. no_escaped_item (c ∷ []) rest refl is (λ r. no_cons)))
escape_at i c b (e ∷ rest) is =
    equal e (folded i b)
    (λ fits. Some (inl (rest, escaped_item (c ∷ e ∷ rest) refl is (cons_same fits refl))))
    (λ other. Some (inr (λ r. no_escaped_item (c ∷ e ∷ rest) r refl is (λ s at. other (cons_head at)))))

abbrev item_at : (i : Bool) (pattern : List ℕ) (b : ℕ) → Follows (Item i pattern b)
item_at i [] b = Some (inr (λ rest. no_item [] rest refl))
item_at i (c ∷ more) b =
    equal c 92 (escape_at i c b more) (λ plain. equal c 91
    (λ is. answer (set_at i more b) (λ stands. (stands.0, set_item (c ∷ more) refl is stands.1))
    (λ never rest. no_set_item (c ∷ more) rest refl is never))
    (λ ordinary. test (stands_for i c b) (λ is. Some (inl (more, byte_item (c ∷ more) refl is)))
    (λ never. Some (inr (λ rest. no_byte_item (c ∷ more) rest refl plain ordinary never)))))

-- ---- patterns

abbrev Decides : Bool → Type 0
Decides i = (starts : Bool) (pattern text : List ℕ) → Answer (Matches i starts pattern text)

abbrev later_at : (i crossing : Bool) → Decides i → (pattern text : List ℕ)
    → Answer (MatchesLater i crossing pattern text)
later_at i crossing go pattern [] = answer (go false pattern []) later_here (later_ends [] refl)
later_at i crossing go pattern (b ∷ text) =
    decided (go false pattern (b ∷ text)) (λ match. Some (inl (later_here match)))
    (λ never. test (is_passed crossing b)
    (λ is. answer (later_at i crossing go pattern text) (later_step (b ∷ text) refl is)
    (λ none h. none (later_back (b ∷ text) refl never h)))
    (λ stops. Some (inr (later_stops (b ∷ text) refl never stops))))

pub no_slash : {i crossing : Bool} {pattern text : List ℕ} → ((rest : List ℕ) → pattern ≢ slash ∷ rest)
    → MatchesNoDirectory i crossing pattern text → ⊥
no_slash never (rest, crossing, at, match) = never rest at

pub past_slash : {i crossing : Bool} {c : ℕ} {pattern text : List ℕ} → (Matches i true pattern text → ⊥)
    → MatchesNoDirectory i crossing (c ∷ pattern) text → ⊥
past_slash never (rest, crossing, at, match) = never (rw (sym (ap (drop 1) at)) at match)

abbrev no_directory_at : (i crossing : Bool) → Decides i → (pattern text : List ℕ)
    → Answer (MatchesNoDirectory i crossing pattern text)
no_directory_at i false go pattern text = Some (inr (λ m. true≢false (sym m.1)))
no_directory_at i true go [] text = Some (inr (no_slash (λ rest. no_cons)))
no_directory_at i true go (c ∷ pattern) text =
    equal c 47
    (λ is. answer (go true pattern text) (λ match. (pattern, refl, cons_same is refl, match)) past_slash)
    (λ other. Some (inr (no_slash (λ rest e. other (cons_head e)))))

pub as_star : {i starts : Bool} {c : ℕ} {pattern text : List ℕ} → c ≡ 42
    → Matches i starts (42 ∷ pattern) text → Matches i starts (c ∷ pattern) text
as_star is match = rw is match

pub no_stars : {i starts : Bool} {c : ℕ} {pattern more rest text : List ℕ} → c ≡ 42 → Run is_star pattern more rest
    → (MatchesNoDirectory i (crosses starts more rest) rest text → ⊥)
    → (MatchesLater i (crosses starts more rest) rest text → ⊥)
    → Matches i starts (c ∷ pattern) text → ⊥
no_stars is run none never h =
    elim (stars_inv run (rw is at h)) [ inl direct ↦ none direct | inr later ↦ never later ]

abbrev stars_of : (i starts : Bool) → Decides i → (c : ℕ) → c ≡ 42 → (pattern text more rest : List ℕ)
    → Run is_star pattern more rest
    → Answer (Matches i starts (c ∷ pattern) text)
stars_of i starts go c is pattern text more rest run =
    decided (no_directory_at i (crosses starts more rest) go rest text)
    (λ direct. Some (inl (as_star is (stars_no_directory rest run direct))))
    (λ none. answer (later_at i (crosses starts more rest) go rest text)
    (λ match. as_star is (stars_later run match)) (no_stars is run none))

pub no_star : {c : ℕ} {pattern : List ℕ} → c ≢ 42 → LacksStar (c ∷ pattern)
no_star other rest e = other (cc (e))

pub not_one : {i starts : Bool} {b : ℕ} {pattern text : List ℕ} → LacksStar pattern
    → ((rest : List ℕ) → Item i pattern b rest → ⊥)
    → Matches i starts pattern (b ∷ text) → ⊥
not_one lacks never match = let (rest, item, more) = one_inv match lacks in never rest item

pub not_at_end : {i starts : Bool} {c : ℕ} {pattern : List ℕ} → LacksStar (c ∷ pattern)
    → Matches i starts (c ∷ pattern) [] → ⊥
not_at_end lacks match = cc (end_inv match lacks)

pub empty_lacks : LacksStar []
empty_lacks rest e = cc

abbrev one_of : (i starts : Bool) → Decides i → (pattern : List ℕ) → LacksStar pattern
    → (b : ℕ) (text : List ℕ) → Answer (Matches i starts pattern (b ∷ text))
one_of i starts go pattern lacks b text =
    decided (item_at i pattern b)
    (λ item. answer (go (b == 47) item.0 text) (match.one item.0 item.1)
    (λ never m. never (here_one item.1 m)))
    (λ never. Some (inr (not_one lacks never)))

-- of patterns of at most n bytes
abbrev decide : ℕ → (i : Bool) → Decides i
decide n i starts [] [] = Some (inl match.ends)
decide n i starts [] (b ∷ text) = Some (inr (not_one empty_lacks (λ rest. no_item [] rest refl)))
decide zero i starts (c ∷ pattern) text = None
decide (suc n) i starts (c ∷ pattern) [] =
    equal c 42 (λ is. stars_of i starts (decide n i) c is pattern [] _ _ (run_split is_star pattern))
    (λ other. Some (inr (not_at_end (no_star other))))
decide (suc n) i starts (c ∷ pattern) (b ∷ text) =
    equal c 42 (λ is. stars_of i starts (decide n i) c is pattern (b ∷ text) _ _ (run_split is_star pattern))
    (λ other. one_of i starts (decide n i) (c ∷ pattern) (no_star other) b text)

-- whether each pattern matches the text in its row
abbrev Says : Bool → Bool → List ℕ → List ℕ → Type 0
Says true i pattern text = MatchesText i pattern text
Says false i pattern text = ¬ (MatchesText i pattern text)

abbrev said : {P : Type 0} → Answer P → Option Bool
said None = None
said (Some (inl is)) = Some true
said (Some (inr never)) = Some false

told : (says i : Bool) (pattern text : List ℕ) (answer : Answer (MatchesText i pattern text))
    → said answer ≡ Some says → Says says i pattern text
told true i pattern text (Some (inl is)) e = is
told false i pattern text (Some (inl is)) e = cc
told true i pattern text (Some (inr never)) e = cc
told false i pattern text (Some (inr never)) e = never
told says i pattern text None e = cc

abbrev pub AreMatched : Bool → Bool → List (List ℕ × List ℕ) → Type 0
AreMatched says i rows = AllByRecursion (λ (row : List ℕ × List ℕ). Says says i row.0 row.1) rows

pub all_matched : (says i : Bool) (rows : List (List ℕ × List ℕ))
    → map (λ row. said (decide (length row.0) i true row.0 row.1)) rows ≡ map (λ row. Some says) rows
    → AreMatched says i rows
all_matched says i [] e = tt
all_matched says i (row ∷ rows) e =
    (told says i row.0 row.1 (decide (length row.0) i true row.0 row.1) (cc (e)), all_matched says i rows (cc (e)))
