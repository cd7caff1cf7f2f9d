-- Sets of bytes in patterns: their classes, their members, and what they match.
use Rattle.std.proofs.Common.{◌≡◌, ◌≢◌, ℕ, ◌<◌, ◌≤◌, ◌⊎◌, Bool, true, false, ◌||◌, ◌==◌}
use Rattle.std.proofs.Common.{List, [], ◌∷◌, ◌++◌, Option, None, Some, length, drop, get_or, codes}
use Rattle.std.proofs.Common.{option_map, eqb-true, refl, sym, ap, ◌∙◌, subst, arith, inl, inr, append_assoc}
use Rattle.std.proofs.Common.{length-append}
use Rattle.std.specs.List.{list_all}
use Rattle.std.proofs.lemmas.List.{append_cancel_left, append_cancel_right}
use Rattle.std.proofs.lemmas.Option.{same_Some}
use Rattle.std.proofs.lemmas.Bool.{eqb-false, cases_Bool, true≢false, and_parts}
use Rattle.std.proofs.lemmas.Bool.Decides.{nat_tests}
use Rattle.std.proofs.Math.Bool.{or_assoc, or-false}
use Rattle.config_text.specs.Bytes.{LacksFront}
use Rattle.config_file.specs.Runs.{Run, StopsRun}
use Rattle.config_file.specs.Reading.Places.{Closing}
use Rattle.config_file.specs.Bytes.{right_bracket}
use Rattle.config_file.proofs.OneRun.{run_only}
use Rattle.config_file.specs.Set.{is_negation, is_wanted, opened, is_unclosed, IsClass, IsNoClass}
use Rattle.config_file.specs.Set.{StandsForByte, SetByte, bare, after_backslash, RangeEnd, to, Member, class}
use Rattle.config_file.specs.Set.{single, range, SetHas, closes, has, Class, alnum, alpha, blank, cntrl}
use Rattle.config_file.specs.Set.{digit, graph, lower, print, punct, spaces, upper, xdigit}

-- ---- choices, which compute

abbrev pub test : {X : Type 0} (b : Bool) → (b ≡ true → X) → (b ≡ false → X) → X
test true one other = one refl
test false one other = other refl

abbrev pub equal : {X : Type 0} (c d : ℕ) → (c ≡ d → X) → (c ≢ d → X) → X
equal c d one other = test (c == d) (λ e. one (eqb-true c d e)) (λ e. other (eqb-false c d e))

abbrev pub given : {A B : Type 0} → Option A → (A → Option B) → Option B
given None more = None
given (Some a) more = more a

pub cons_same : {x y : ℕ} {a b : List ℕ} → x ≡ y → a ≡ b → x ∷ a ≡ y ∷ b
cons_same e f = rw (e, f)

-- ---- classes

-- the text after `[:` has the same next `]`
inner_run : {text inner closing : List ℕ} (inside : List ℕ) → Run is_unclosed text inside closing
    → text ≡ codes "[:" ++ inner
    → (front : List ℕ) × Run is_unclosed inner front closing
inner_run {inner = inner} {closing = closing} [] run e =
    absurd (true≢false (subst (λ x. StopsRun is_unclosed x) (sym run.joined ∙ e) run.longest))
inner_run {inner = inner} {closing = closing} (x ∷ []) run e =
    let rest : closing ≡ 58 ∷ inner = cc in
    absurd (true≢false (subst (λ x. StopsRun is_unclosed x) rest run.longest))
inner_run {inner = inner} {closing = closing} (x ∷ y ∷ inside) run e =
    let rest : inner ≡ inside ++ closing = cc in
    (inside, record { joined = rest; pass = (and_parts _ _ ((and_parts _ _ run.pass).1)).1; longest = run.longest })

abbrev pub Closes : List ℕ → List ℕ → Type 0
Closes text closing = (inside : List ℕ) × Run is_unclosed text inside closing

pub inner_before : {text inner closing : List ℕ} → Closes text closing
    → text ≡ codes "[:" ++ inner → (front : List ℕ) × (inner ≡ front ++ closing)
inner_before (inside, run) e = let (front, more) = inner_run inside run e in (front, more.joined)

run_before : {text inner inside closing : List ℕ} → Closes text closing
    → text ≡ codes "[:" ++ inner → inner ≡ inside ++ closing
    → Run is_unclosed inner inside closing
run_before {inside = inside} {closing = closing} (all, run) opens joined =
    let (front, more) = inner_run all run opens in
    rw (append_cancel_right front inside closing (sym more.joined ∙ joined)) at more

pub is_class : {text inner inside closing name rest : List ℕ} → Closes text closing
    → text ≡ codes "[:" ++ inner → inner ≡ inside ++ closing
    → inside ≡ name ++ codes ":" → closing ≡ right_bracket ∷ rest → IsClass text name rest
is_class {inner = inner} ahead opens joined ends closing =
    record { inner = inner; opened = opens; closed = rw (ends, closing) at (run_before ahead opens joined) }

same_run : {text inner inside closing name rest : List ℕ}
    → text ≡ codes "[:" ++ inner → Run is_unclosed inner inside closing
    → IsClass text name rest → (inside ≡ name ++ codes ":") × (closing ≡ right_bracket ∷ rest)
same_run {inner = inner} opens run is =
    let inners : inner ≡ is.inner = append_cancel_left (codes "[:") inner is.inner (sym opens ∙ is.opened) in
    run_only (rw inners at run) is.closed

pub not_opened : {text : List ℕ} → LacksFront (codes "[:") text → IsNoClass text
not_opened lacks name rest is = lacks is.inner is.opened

pub no_colon : {text inner inside closing : List ℕ} → Closes text closing
    → text ≡ codes "[:" ++ inner → inner ≡ inside ++ closing
    → ((front : List ℕ) → inside ≢ front ++ codes ":") → IsNoClass text
no_colon ahead opens joined never name rest is =
    never name ((same_run opens (run_before ahead opens joined) is).0)

pub no_closing : {text inner closing : List ℕ} (inside : List ℕ) → Closes text closing
    → text ≡ codes "[:" ++ inner → inner ≡ inside ++ closing
    → ((rest : List ℕ) → closing ≢ right_bracket ∷ rest) → IsNoClass text
no_closing inside ahead opens joined never name rest is =
    never rest ((same_run opens (run_before ahead opens joined) is).1)

pub class_unique : {text name name2 rest rest2 : List ℕ} → IsClass text name rest → IsClass text name2 rest2
    → (name ≡ name2) × (rest ≡ rest2)
class_unique {name = name} {name2 = name2} one other =
    let (names, rests) = same_run one.opened one.closed other in
    (append_cancel_right name name2 (codes ":") names, ap (λ l. drop 1 l) rests)

abbrev pub same : (a b : List ℕ) → Option (a ≡ b)
same [] [] = Some refl
same (x ∷ a) (y ∷ b) = equal x y (λ head. given (same a b) (λ tail. Some (cons_same head tail))) (λ other. None)
same a b = None

abbrev or_class : {i : Bool} {b : ℕ} {name : List ℕ} (word : List ℕ) (held : Bool)
    → (name ≡ word → held ≡ held → Class i b name held)
    → Option ((held : Bool) × Class i b name held) → Option ((held : Bool) × Class i b name held)
or_class {name = name} word held makes others =
    elim (same name word) [ None ↦ others | Some e ↦ Some (held, makes e refl) ]

-- the class of this name, with whether it has the byte
abbrev pub class_at : (i : Bool) (b : ℕ) (name : List ℕ) → Option ((held : Bool) × Class i b name held)
class_at i b name =
    or_class (codes "alnum") _ alnum
    (or_class (codes "alpha") _ alpha
    (or_class (codes "blank") _ blank
    (or_class (codes "cntrl") _ cntrl
    (or_class (codes "digit") _ digit
    (or_class (codes "graph") _ graph
    (or_class (codes "lower") _ lower
    (or_class (codes "print") _ print
    (or_class (codes "punct") _ punct
    (or_class (codes "space") _ spaces
    (or_class (codes "upper") _ upper
    (or_class (codes "xdigit") _ xdigit None)))))))))))

class_is : {i : Bool} {b : ℕ} {name : List ℕ} {h : Bool} → Class i b name h
    → option_map (λ k. k.0) (class_at i b name) ≡ Some h
class_is (alnum e f) = rw e (ap Some (sym f))
class_is (alpha e f) = rw e (ap Some (sym f))
class_is (blank e f) = rw e (ap Some (sym f))
class_is (cntrl e f) = rw e (ap Some (sym f))
class_is (digit e f) = rw e (ap Some (sym f))
class_is (graph e f) = rw e (ap Some (sym f))
class_is (lower e f) = rw e (ap Some (sym f))
class_is (print e f) = rw e (ap Some (sym f))
class_is (punct e f) = rw e (ap Some (sym f))
class_is (spaces e f) = rw e (ap Some (sym f))
class_is (upper e f) = rw e (ap Some (sym f))
class_is (xdigit e f) = rw e (ap Some (sym f))

class_only : {i : Bool} {b : ℕ} {name name2 : List ℕ} {h h2 : Bool} → Class i b name h → Class i b name2 h2
    → name ≡ name2 → h ≡ h2
class_only {i = i} {b = b} one other e =
    same_Some _ _ (sym (class_is one) ∙ ap (λ n. option_map (λ k. k.0) (class_at i b n)) e ∙ class_is other)

-- ---- members

byte_unique : {starts : Bool} {text r r2 : List ℕ} {c c2 : ℕ} → SetByte starts text c r
    → SetByte starts text c2 r2 → (c ≡ c2) × (r ≡ r2)
byte_unique (bare other first) (bare other2 first2) = (refl, refl)
byte_unique (bare other first) (after_backslash e) = absurd (other e)
byte_unique (after_backslash e) (bare other first) = absurd (other e)
byte_unique (after_backslash e) (after_backslash e2) = (refl, refl)

range_unique : {text r r2 : List ℕ} {c c2 : ℕ} → RangeEnd text c r → RangeEnd text c2 r2 → (c ≡ c2) × (r ≡ r2)
range_unique (to e is) (to e2 is2) = byte_unique is is2

-- `]` is not a member, unless the set begins with it
no_end_byte : {b c : ℕ} {rest after : List ℕ} → b ≡ right_bracket → SetByte false (b ∷ rest) c after → ⊥
no_end_byte e (bare other first) = true≢false (sym (first e))
no_end_byte e (after_backslash e2) = omega (arith, e, e2)

no_end_member : {i : Bool} {b c : ℕ} {rest : List ℕ} {here : Bool} {after : List ℕ} → c ≡ right_bracket
    → Member i b false (c ∷ rest) here after → ⊥
no_end_member e (class name is known) = omega (arith, e, ap (λ l. get_or l 0 0) is.opened)
no_end_member e (single d none is alone found) = no_end_byte e is
no_end_member e (range first last mid none is more found) = no_end_byte e is

pub is_first : (c d e : ℕ) (more : Bool) → c ≡ d → d ≡ e → (c == d) ≡ ((c == e) || more)
is_first c d e more same too = grind (arith, nat_tests)

pub is_no_first : (c d : ℕ) (more : Bool) → c ≢ d → more ≡ ((c == d) || more)
is_no_first c d more apart = grind (arith, nat_tests)

pub of_no_class : {i : Bool} {b : ℕ} {starts : Bool} {text name after : List ℕ} → IsClass text name after
    → ((h : Bool) → ¬ (Class i b name h)) → (here : Bool) (rest : List ℕ)
    → ¬ (Member i b starts text here rest)
of_no_class is unknown here rest (class name2 is2 known) =
    unknown here (rw (sym ((class_unique is is2).0)) at known)
of_no_class is unknown here rest (single c none byte alone found) = none _ _ is
of_no_class is unknown here rest (range first last mid none byte more found) = none _ _ is

pub of_no_byte : {i : Bool} {b : ℕ} {starts : Bool} {text : List ℕ} → IsNoClass text
    → ((c : ℕ) (after : List ℕ) → ¬ (SetByte starts text c after)) → (here : Bool) (rest : List ℕ)
    → ¬ (Member i b starts text here rest)
of_no_byte none nothing here rest (class name is known) = none name rest is
of_no_byte none nothing here rest (single c none2 byte alone found) = nothing c rest byte
of_no_byte none nothing here rest (range first last mid none2 byte more found) = nothing first mid byte

-- what follows a member does not depend on the byte that is sought
pub member_same : {i : Bool} {b b2 : ℕ} {starts h h2 : Bool} {text r r2 : List ℕ}
    → Member i b starts text h r → Member i b2 starts text h2 r2
    → (r ≡ r2) × (b ≡ b2 → h ≡ h2)
member_same (class name is known) (class name2 is2 known2) =
    let (names, rests) = class_unique is is2 in (rests, λ e. class_only known (rw (sym e) at known2) names)
member_same (class name is known) (single c none byte alone found) = absurd (none _ _ is)
member_same (class name is known) (range first last mid none byte more found) = absurd (none _ _ is)
member_same (single c none byte alone found) (class name is known) = absurd (none _ _ is)
member_same (single c none byte alone found) (single c2 none2 byte2 alone2 found2) =
    let (bytes, rests) = byte_unique byte byte2 in (rests, λ e. rw (found, found2, bytes, e))
member_same {r2 = r2} (single c none byte alone found) (range first last mid none2 byte2 more found2) =
    absurd (alone last r2 (rw (sym ((byte_unique byte byte2).1)) at more))
member_same (range first last mid none byte more found) (class name is known) = absurd (none _ _ is)
member_same {r = r} (range first last mid none byte more found) (single c none2 byte2 alone2 found2) =
    absurd (alone2 last r (rw ((byte_unique byte byte2).1) at more))
member_same (range first last mid none byte more found) (range first2 last2 mid2 none2 byte2 more2 found2) =
    let (bytes, mids) = byte_unique byte byte2 in
    let (ends, rests) = range_unique (rw mids at more) more2 in (rests, λ e. rw (found, found2, bytes, ends, e))

-- so what follows a member is the same, and with the same byte so is whether the members have it
has_inv : {i : Bool} {b b2 : ℕ} {starts all : Bool} {text rest : List ℕ} (here : Bool) (after : List ℕ)
    → Member i b starts text here after → SetHas i b2 starts text all rest
    → (found : Bool) × SetHas i b2 false after found rest × (b ≡ b2 → all ≡ (here || found))
has_inv here after is (closes e) = absurd (no_end_member e is)
has_inv here after is (has here2 found after2 is2 more all) =
    let (rests, heres) = member_same is is2 in (found, rw rests more, λ e. rw (all, heres e))

pub set_same : {i : Bool} {b b2 : ℕ} {starts f f2 : Bool} {text r r2 : List ℕ} → SetHas i b starts text f r
    → SetHas i b2 starts text f2 r2 → (r ≡ r2) × (b ≡ b2 → f ≡ f2)
set_same (closes e) (closes e2) = (refl, λ e3. refl)
set_same (closes e) (has here found after is more all) = absurd (no_end_member e is)
set_same (has here found after is more all) other =
    let (found2, more2, all2) = has_inv here after is other in
    let (rests, founds) = set_same more more2 in
    (rests, λ e. rw (all, all2 e, founds e))

-- the rest is shorter: it follows at least one byte
abbrev Follows : List ℕ → List ℕ → Type 0
Follows text rest = (b : ℕ) × (front : List ℕ) × (text ≡ b ∷ (front ++ rest))

follows_shorter : {text rest : List ℕ} → Follows text rest → length rest < length text
follows_shorter {rest = rest} (b, front, e) = omega (arith, ap length e, length-append front rest)

class_rest : {text name rest : List ℕ} → IsClass text name rest → Follows text rest
class_rest {name = name} {rest = rest} is =
    (91, 58 ∷ ((name ++ codes ":") ++ right_bracket ∷ []), rw (is.opened, is.closed.joined) (simp append_assoc))

byte_rest : {starts : Bool} {text rest : List ℕ} {c : ℕ} → SetByte starts text c rest → Follows text rest
byte_rest (bare {c = c} other first) = (c, [], refl)
byte_rest (after_backslash {c = c} {e = e} is) = (c, e ∷ [], refl)

member_rest : {i : Bool} {b : ℕ} {starts here : Bool} {text after : List ℕ}
    → Member i b starts text here after → Follows text after
member_rest (class name is known) = class_rest is
member_rest (single c none byte alone found) = byte_rest byte
member_rest {after = after} (range first last mid none byte (to {c = c} dashed more) found) =
    let (b, front, e) = byte_rest byte in
    let (d, ends, f) = byte_rest more in (
      b,
      front ++ c ∷ d ∷ ends,
      e ∙ ap (λ t. b ∷ (front ++ c ∷ t)) f ∙ ap (λ t. b ∷ t) (sym (append_assoc front (c ∷ d ∷ ends) after)),
    )

pub member_shortens : {i : Bool} {b : ℕ} {starts here : Bool} {text after : List ℕ}
    → Member i b starts text here after
    → length after < length text
member_shortens is = follows_shorter (member_rest is)

has_shortens : {i : Bool} {b : ℕ} {starts f : Bool} {text r : List ℕ} → SetHas i b starts text f r
    → length r < length text
has_shortens (closes e) = omega arith
has_shortens (has here found after is more all) =
    let short = member_shortens is in
    let rest = has_shortens more in
    omega arith

opened_shortens : (text : List ℕ) → length ((opened text).1) ≤ length text
opened_shortens [] = omega arith
opened_shortens (c ∷ rest) =
    elim (cases_Bool (is_negation c)) [ inl e ↦ rw e (omega arith) | inr f ↦ rw f (omega arith) ]

pub set_shortens : {i : Bool} {b : ℕ} {text r : List ℕ} → StandsForByte i text b r → length r < length text
set_shortens {text = text} stands =
    let short = has_shortens stands.members in
    let inner = opened_shortens text in
    omega arith

-- ---- the next `]`

-- either the first `]` is still ahead, or it has been passed
passed : (front inside after closing : List ℕ) → list_all is_unclosed inside ≡ true
    → front ++ after ≡ inside ++ closing
    → ((more : List ℕ) × (after ≡ more ++ closing) × (list_all is_unclosed more ≡ true)) ⊎ (length after < length closing)
passed [] inside after closing all e = inl (inside, e, all)
passed (f ∷ front) [] after closing all e =
    inr (omega (arith, ap length e, length-append front after))
passed (f ∷ front) (x ∷ inside) after closing all e =
    passed front inside after closing ((and_parts (is_unclosed x) (list_all is_unclosed inside) all).1) (cc)

pub closing_after : {i : Bool} {b : ℕ} {starts here : Bool} {text after closing : List ℕ} (inside : List ℕ)
    → Run is_unclosed text inside closing → Member i b starts text here after → Closing after closing
closing_after {after = after} {closing = closing} inside run is =
    let (b, front, e) = member_rest is in
    elim (passed (b ∷ front) inside after closing run.pass (sym e ∙ run.joined)) [
      | inl (more, f, all) ↦ inl (more, record { joined = f; pass = all; longest = run.longest })
      | inr less ↦ inr less
    ]

-- ---- the members that are read one by one

-- after members that have the byte or not, the set goes on with this rest
abbrev pub GoesOn : Bool → ℕ → List ℕ → Bool → List ℕ → Type 0
GoesOn i b text found rest =
    ((f g : Bool) (r : List ℕ) → SetHas i b false rest f r → g ≡ (found || f) → SetHas i b true text g r)
    × ((g : Bool) (r : List ℕ) → SetHas i b true text g r → (f : Bool) × SetHas i b false rest f r)

pub goes_on_first : {i : Bool} {b : ℕ} {here : Bool} {text after : List ℕ} → Member i b true text here after
    → GoesOn i b text here after
goes_on_first {here = here} {after = after} is = (
  λ f g r more all. has here f after is more all,
  λ g r whole. let (found, more, all) = has_inv here after is whole in (found, more),
)

goes_on_more : {i : Bool} {b : ℕ} {here : Bool} {text rest after : List ℕ} (found : Bool)
    → GoesOn i b text found rest
    → Member i b false rest here after → GoesOn i b text (found || here) after
goes_on_more {here = here} {after = after} found on is = (
  λ f g r more all. on.0 (here || f) g r (has here f after is more refl) (all ∙ or_assoc found here f),
  λ g r whole. let (f, more) = on.1 g r whole in let (f2, more2, all) = has_inv here after is more in (f2, more2),
)

pub goes_on_found : {i : Bool} {b : ℕ} {here : Bool} {text rest after : List ℕ} (found : Bool)
    → found ≡ true → GoesOn i b text found rest
    → Member i b false rest here after → GoesOn i b text found after
goes_on_found found e on is = rw e (goes_on_more true (rw e at on) is)

pub goes_on_here : {i : Bool} {b : ℕ} {here : Bool} {text rest after : List ℕ} (found : Bool)
    → found ≡ false → GoesOn i b text found rest
    → Member i b false rest here after → GoesOn i b text here after
goes_on_here found e on is = goes_on_more false (rw e at on) is

pub set_closed : {i : Bool} {b : ℕ} {found : Bool} {text after : List ℕ} (rest : List ℕ)
    → GoesOn i b text found rest
    → rest ≡ right_bracket ∷ after → SetHas i b true text found after
set_closed {found = found} {after = after} rest on e =
    on.0 false found after (rw e (closes refl)) (sym (or-false found))

pub no_first : {i : Bool} {b : ℕ} (text : List ℕ)
    → ((here : Bool) (after : List ℕ) → ¬ (Member i b true text here after))
    → (g : Bool) (r : List ℕ) → ¬ (SetHas i b true text g r)
no_first text none g r (has here found after is more all) = none here after is

no_more : {i : Bool} {b : ℕ} {f : Bool} {rest r : List ℕ} → SetHas i b false rest f r
    → ((r : List ℕ) → rest ≢ right_bracket ∷ r)
    → ((here : Bool) (after : List ℕ) → ¬ (Member i b false rest here after)) → ⊥
no_more (closes {rest = rest} e) never none = never rest (ap (λ x. x ∷ rest) e)
no_more (has here found after is more all) never none = none here after is

pub not_closed : {i : Bool} {b : ℕ} {text : List ℕ} (found : Bool) (rest : List ℕ)
    → GoesOn i b text found rest
    → ((r : List ℕ) → rest ≢ right_bracket ∷ r)
    → ((here : Bool) (after : List ℕ) → ¬ (Member i b false rest here after))
    → (g : Bool) (r : List ℕ) → ¬ (SetHas i b true text g r)
not_closed found rest on never none g r whole = let (f, more) = on.1 g r whole in no_more more never none

-- ---- sets that match a byte

pub stands : {i : Bool} {b : ℕ} {negated found : Bool} {text inner rest : List ℕ}
    → (negated, inner) ≡ opened text
    → SetHas i b true inner found rest → is_wanted found negated ≡ true → b ≢ 47 → StandsForByte i text b rest
stands {found = found} e whole wanted apart =
    record { found = found; members = rw (sym e) whole; wanted = rw (sym e) wanted; no_slash = apart }

pub stands_not : {i : Bool} {b : ℕ} {negated : Bool} {text inner : List ℕ} → (negated, inner) ≡ opened text
    → ((g : Bool) (r : List ℕ) → ¬ (SetHas i b true inner g r)) → (rest : List ℕ)
    → ¬ (StandsForByte i text b rest)
stands_not e never rest is = never is.found rest (rw (sym e) at is.members)

pub stands_unwanted : {i : Bool} {b : ℕ} {negated found : Bool} {text inner after : List ℕ}
    → (negated, inner) ≡ opened text
    → SetHas i b true inner found after → is_wanted found negated ≡ false → (rest : List ℕ)
    → ¬ (StandsForByte i text b rest)
stands_unwanted e whole unwanted rest is =
    let same = (set_same whole (rw (sym e) at is.members)).1 refl in
    true≢false (sym (rw (sym e) at is.wanted) ∙ rw same at unwanted)

pub stands_for_no_slash : {i : Bool} {b : ℕ} {text : List ℕ} → b ≡ 47 → (rest : List ℕ)
    → ¬ (StandsForByte i text b rest)
stands_for_no_slash e rest is = is.no_slash e
