-- Keys: their cuts at dots, and what is left of them after a section.
use Rattle.std.proofs.Common.{◌≡◌, ◌≢◌, ◌<◌, ◌+◌, Bool, true, false, not, ℕ, List, [], ◌∷◌, ◌++◌}
use Rattle.std.proofs.Common.{Option, Some, None, length, take, drop, map, get_or, IsTrue, ◌↔◌, refl, sym, ap}
use Rattle.std.proofs.Common.{◌∙◌, subst, arith}
use Rattle.std.proofs.lemmas.Bool.{true≢false, and_parts}
use Rattle.std.proofs.lemmas.List.{append_assoc, append-nil, append_cancel_left, append_cancel_right}
use Rattle.std.proofs.lemmas.List.{length-map, length-drop, map-append, drop_more, get_or-drop}
use Rattle.std.proofs.lemmas.List.{take-append-drop}
use Rattle.std.proofs.lemmas.List.Sums.{list_all-from_AllPass}
use Rattle.std.proofs.lemmas.Bool.Decides.{nat_tests}
use Rattle.std.specs.Prelude.{⊤, is_some, option_copied}
use Rattle.std.specs.Borrow.{Bor}
use Rattle.std.specs.Char.{to_ascii_lowercase}
use Rattle.std.specs.List.{list_all, prefix_len, HoldsAt, AllWithin}
use Rattle.config_text.specs.Bytes.{LacksFront}
use Rattle.config_file.specs.Runs.{Run, StopsRun}
use Rattle.config_file.specs.Key.{is_no_dot, dotted}
use Rattle.config_file.specs.Header.{Section, BeginsWithout}
use Rattle.config_file.specs.Subsection.{SpellsSubsection}
use Rattle.config_file.specs.Listing.{IsListedSection, plain, quoted}
use Rattle.config_file.proofs.Runs.{run_split}
use Rattle.config_file.proofs.Fronts.{goes_on}

pub no_dot : (b : ℕ) → b ≢ 46 → is_no_dot b ≡ true
no_dot b other = grind (arith, nat_tests)

pub is_dot : (b : ℕ) → is_no_dot b ≡ false → b ≡ 46
is_dot b h = grind (arith, nat_tests)

pub not_dot : (b : ℕ) → is_no_dot b ≡ true → b ≢ 46
not_dot b h e = grind (arith, nat_tests)

nothing_before : (b : ℕ) (rest : List ℕ) → b ∷ rest ≢ []
nothing_before b rest e = cc

pub lower_dot : (b : ℕ) → to_ascii_lowercase b ≡ 46 → b ≡ 46
lower_dot b h = grind (arith, nat_tests)

-- ---- cuts at the first and at the last dot

pub first_run : {text front rest : List ℕ} (n : ℕ) → n ≡ prefix_len is_no_dot text → front ≡ take n text
    → rest ≡ drop n text → Run is_no_dot text front rest
first_run {text = text} n e f g = rw (f, g, e) (run_split is_no_dot text)

pub not_cut : {text front : List ℕ} (rest : List ℕ) → Run is_no_dot text front rest → rest ≡ []
    → list_all is_no_dot text ≡ true
not_cut {front = front} rest run e = rw (run.joined, e, append-nil front) run.pass

pub cut_here : {text front after : List ℕ} {b : ℕ} (rest : List ℕ) → Run is_no_dot text front rest
    → rest ≡ b ∷ after
    → (list_all is_no_dot front ≡ true) × (text ≡ front ++ 46 ∷ after)
cut_here {front = front} {after = after} {b = b} rest run e =
    let dot : b ≡ 46 = is_dot b (subst (λ x. StopsRun is_no_dot x) e run.longest) in
    (run.pass, run.joined ∙ rw (e, dot))

pub no_dots : (text : List ℕ) → AllWithin (λ b. b ≢ 46) text 0 (length text) → list_all is_no_dot text ≡ true
no_dots text never =
    list_all-from_AllPass is_no_dot text
    (λ k d within. no_dot (get_or text k d) (never k d (omega arith) within))

pub last_cut : (text : List ℕ) (i : ℕ) → i < length text → HoldsAt (λ b. b ≡ 46) text i
    → AllWithin (λ b. b ≢ 46) text (i + 1) (length text)
    → (list_all is_no_dot (drop (i + 1) text) ≡ true) × (text ≡ take i text ++ 46 ∷ drop (i + 1) text)
last_cut text i within here later =
    let rest = drop (i + 1) text in
    let none : list_all is_no_dot rest ≡ true =
    list_all-from_AllPass is_no_dot rest
    (λ k d inside. rw (get_or-drop (i + 1) text k d)
    (no_dot (get_or text (i + 1 + k) d)
    (later (i + 1 + k) d (omega arith) (omega (arith, length-drop (i + 1) text))))) in
    let next : drop i text ≡ 46 ∷ rest = drop_more text i 0 within ∙ ap (λ b. b ∷ rest) (here 0) in
    (none, sym (take-append-drop i text) ∙ ap (λ t. take i text ++ t) next)

-- ---- what is left after a front in lower case

pub same_front : (a b c d : List ℕ) → length a ≡ length b → a ++ c ≡ b ++ d → a ≡ b
same_front [] [] c d l e = refl
same_front [] (y ∷ b) c d l e = absurd (omega arith)
same_front (x ∷ a) [] c d l e = absurd (omega arith)
same_front (x ∷ a) (y ∷ b) c d l e =
    let heads : x ≡ y = cc in
    let tails : a ++ c ≡ b ++ d = cc in
    let fronts : a ≡ b = same_front a b c d (omega arith) tails in
    cc

abbrev lower : List ℕ → List ℕ
lower text = map to_ascii_lowercase text

pub goes_on_lower : (name start rest front : List ℕ) → name ≡ start ++ rest
    → lower start ≡ lower front → lower name ≡ lower front ++ lower rest
goes_on_lower name start rest front e f =
    ap (map to_ascii_lowercase) e ∙ map-append to_ascii_lowercase start rest ∙ rw f

pub lacks_lower : (name start rest front : List ℕ) → name ≡ start ++ rest → length start ≡ length front
    → lower start ≢ lower front → LacksFront (lower front) (lower name)
lacks_lower name start rest front e l other more whole =
    other (same_front (lower start) (lower front) (lower rest) more (simp length-map l)
    (sym (map-append to_ascii_lowercase start rest) ∙ sym (ap (map to_ascii_lowercase) e) ∙ whole))

-- after a part of a front, the text does not go on with the next byte of the front in lower case
pub lacks_next : (front text rest : List ℕ) (i : ℕ) → i < length front → text ≡ lower (take i front) ++ rest
    → BeginsWithout (to_ascii_lowercase (get_or front i 0)) rest → LacksFront (lower front) text
lacks_next front text rest i within part other more whole =
    let (others, e) = goes_on front text rest more i within part whole in
    subst (λ x. BeginsWithout (to_ascii_lowercase (get_or front i 0)) x) e other refl

no_dotted : (b : ℕ) (more : List ℕ) (left : Option (List ℕ)) → b ≢ 46 → b ∷ more ≢ dotted left
no_dotted b more None other e = nothing_before b more e
no_dotted b more (Some left) other e = other (ap (λ t. get_or t 0 0) e)

-- after a dot and a front, a subsection goes on with a byte that is no dot
pub left_elsewhere : (bytes front s rest more : List ℕ) (b : ℕ) → bytes ≡ 46 ∷ front → s ≡ lower front ++ rest
    → rest ≡ b ∷ more → b ≢ 46
    → (left : Option (List ℕ)) → dotted (Some s) ≢ lower bytes ++ dotted left
left_elsewhere bytes front s rest more b e f g other left whole =
    let after : s ≡ lower front ++ dotted left = ap (drop 1) (whole ∙ ap (λ t. lower t ++ dotted left) e) in
    no_dotted b more left other (sym g ∙ append_cancel_left (lower front) rest (dotted left) (sym f ∙ after))

-- ---- sections

-- the bytes of a subsection, if there is one, spell what is left of a key, if something is left
abbrev pub SpellsLeft : Option (List ℕ) → Option (List ℕ) → Type 0
SpellsLeft None None = ⊤
SpellsLeft (Some raw) (Some left) = SpellsSubsection raw left
SpellsLeft None (Some left) = ⊥
SpellsLeft (Some raw) None = ⊥

pub listed_as : {section : Section} {listed : List ℕ} → IsListedSection section listed
    → (left : Option (List ℕ)) × SpellsLeft section.1 left
    × (listed ≡ (lower section.0 ++ dotted left) ++ 46 ∷ [])
listed_as (plain {name = name}) = (None, tt, rw (append-nil (lower name)) refl)
listed_as (quoted {name = name} {spelled = spelled} s) = (Some spelled, s, simp append_assoc)

pub lists : (name : List ℕ) (sub left : Option (List ℕ)) → SpellsLeft sub left
    → IsListedSection (name, sub) ((lower name ++ dotted left) ++ 46 ∷ [])
lists name None None s = rw (append-nil (lower name)) plain
lists name (Some raw) (Some left) s =
    let e : (lower name ++ 46 ∷ left) ++ 46 ∷ [] ≡ (lower name ++ 46 ∷ []) ++ (left ++ 46 ∷ []) =
    simp append_assoc in
    rw e (quoted s)
lists name None (Some left) s = absurd s
lists name (Some raw) None s = absurd s

-- if a text begins with a section, and with a name before a dot or its end, the name begins with the section
front_of : (section name : List ℕ) (q left : Option (List ℕ)) → list_all is_no_dot section ≡ true
    → lower section ++ dotted q ≡ lower name ++ dotted left
    → (rest : List ℕ) × (lower name ≡ lower section ++ lower rest)
front_of [] name q left none e = (name, refl)
front_of (x ∷ section) [] q None none e =
    absurd (nothing_before (to_ascii_lowercase x) (lower section ++ dotted q) e)
front_of (x ∷ section) [] q (Some left) none e =
    let (here, more) = and_parts (is_no_dot x) (list_all is_no_dot section) none in
    absurd (not_dot x here (lower_dot x (ap (λ t. get_or t 0 0) e)))
front_of (x ∷ section) (y ∷ name) q left none e =
    let (here, more) = and_parts (is_no_dot x) (list_all is_no_dot section) none in
    let (rest, f) = front_of section name q left more (ap (drop 1) e) in
    let heads : to_ascii_lowercase x ≡ to_ascii_lowercase y = ap (λ t. get_or t 0 0) e in
    (rest, cc)

pub dotted_same : (a b : Option (List ℕ)) → dotted a ≡ dotted b → a ≡ b
dotted_same None None e = refl
dotted_same None (Some b) e = cc
dotted_same (Some a) None e = cc
dotted_same (Some a) (Some b) e = ap Some (ap (drop 1) e)

abbrev stem_of : List ℕ → Option (List ℕ) → List ℕ
stem_of section q = lower section ++ dotted q

never : {A : Type 0} → (A → ⊥) → IsTrue false ↔ A
never none = (λ yes. absurd (true≢false (sym yes)), λ a. absurd (none a))

pub another_section : (section : List ℕ) (q : Option (List ℕ)) (name : List ℕ) (sub : Option (List ℕ))
    → list_all is_no_dot section ≡ true → LacksFront (lower section) (lower name)
    → IsTrue false ↔ IsListedSection (name, sub) (stem_of section q ++ 46 ∷ [])
another_section section q name sub none lacks = never (λ h.
    let (left, s, e) = listed_as h in
    let same = append_cancel_right (stem_of section q) (lower name ++ dotted left) (46 ∷ []) e in
    let (rest, f) = front_of section name q left none same in
    lacks (lower rest) f)

pub after_front : (section bytes name : List ℕ) (q left : Option (List ℕ))
    → lower name ≡ lower section ++ lower bytes
    → stem_of section q ++ 46 ∷ [] ≡ (lower name ++ dotted left) ++ 46 ∷ []
    → dotted q ≡ lower bytes ++ dotted left
after_front section bytes name q left front e =
    append_cancel_left (lower section) (dotted q) (lower bytes ++ dotted left)
    (append_cancel_right (stem_of section q) (lower name ++ dotted left) (46 ∷ []) e
    ∙ ap (λ t. t ++ dotted left) front ∙ append_assoc (lower section) (lower bytes) (dotted left))

pub another_left : (section bytes : List ℕ) (q : Option (List ℕ)) (name : List ℕ) (sub : Option (List ℕ))
    → lower name ≡ lower section ++ lower bytes
    → ((left : Option (List ℕ)) → dotted q ≢ lower bytes ++ dotted left)
    → IsTrue false ↔ IsListedSection (name, sub) (stem_of section q ++ 46 ∷ [])
another_left section bytes q name sub front nowhere = never (λ h.
    let (left, s, e) = listed_as h in nowhere left (after_front section bytes name q left front e))

-- what is left decides whether Git lists the section as what precedes the last dot of the key
pub decides : {r : Bool} (section bytes : List ℕ) (q : Option (List ℕ)) (name : List ℕ)
    (sub left : Option (List ℕ))
    → lower name ≡ lower section ++ lower bytes → dotted q ≡ lower bytes ++ dotted left
    → (IsTrue r ↔ SpellsLeft sub left)
    → IsTrue r ↔ IsListedSection (name, sub) (stem_of section q ++ 46 ∷ [])
decides section bytes q name sub left front goes is =
    let whole : stem_of section q ≡ lower name ++ dotted left =
    rw (goes, front) (sym (append_assoc (lower section) (lower bytes) (dotted left))) in (
      λ yes. rw whole (lists name sub left (is.0 yes)),
      λ h. let (other, s, e) = listed_as h in
          let same = dotted_same other left (append_cancel_left (lower bytes) (dotted other) (dotted left)
          (sym (after_front section bytes name q other front e) ∙ goes)) in
          is.1 (subst (λ l. SpellsLeft sub l) same s),
    )

spelled_is : {raw left : List ℕ} (other : Option (List ℕ)) → SpellsLeft (Some raw) other
    → ((spelled : List ℕ) → SpellsSubsection raw spelled → spelled ≡ left) → SpellsSubsection raw left
spelled_is None s same = absurd s
spelled_is {raw = raw} (Some spelled) s same = subst (λ t. SpellsSubsection raw t) (same spelled s) s

-- a subsection that Git lists spells the bytes that are left exactly if it is equal to them
pub spells_left : {r : Bool} {name raw listed left : List ℕ} → IsListedSection (name, Some raw) listed
    → ((spelled : List ℕ) → SpellsSubsection raw spelled → (IsTrue r ↔ (spelled ≡ left)))
    → IsTrue r ↔ SpellsLeft (Some raw) (Some left)
spells_left {raw = raw} {left = left} h is = (
  λ yes. let (other, s, e) = listed_as h in spelled_is other s (λ spelled s. (is spelled s).0 yes),
  λ s. (is left s).1 refl,
)

-- without a subsection, nothing may be left
pub none_left : (r : Bool) (left : Option (Bor (List ℕ))) → is_some left ≡ not r
    → IsTrue r ↔ SpellsLeft None (option_copied left)
none_left true None e = (λ yes. tt, λ s. refl)
none_left false None e = absurd (true≢false (sym e))
none_left true (Some left) e = absurd (true≢false e)
none_left false (Some left) e = never (λ s. s)

pub not_spelled : (raw : List ℕ) → IsTrue false ↔ SpellsLeft (Some raw) None
not_spelled raw = never (λ s. s)

-- a section whose subsection ends with another byte than that of a key is another one
ends_apart : {raw : List ℕ} (section name text : List ℕ) (left : Option (List ℕ)) → SpellsLeft (Some raw) left
    → ((spelled front before : List ℕ) → SpellsSubsection raw spelled → before ++ spelled ≢ front ++ text)
    → stem_of section (Some text) ≡ lower name ++ dotted left → ⊥
ends_apart section name text None s other same = absurd s
ends_apart section name text (Some spelled) s other same =
    other spelled (lower section ++ 46 ∷ []) (lower name ++ 46 ∷ []) s
    (append_assoc (lower name) (46 ∷ []) spelled ∙ sym same ∙ sym (append_assoc (lower section) (46 ∷ []) text))

pub ends_elsewhere : {name raw : List ℕ} (section text : List ℕ)
    → ((spelled front before : List ℕ) → SpellsSubsection raw spelled → before ++ spelled ≢ front ++ text)
    → ¬ (IsListedSection (name, Some raw) (stem_of section (Some text) ++ 46 ∷ []))
ends_elsewhere {name = name} section text other h =
    let (left, s, e) = listed_as h in
    ends_apart section name text left s other
    (append_cancel_right (stem_of section (Some text)) (lower name ++ dotted left) (46 ∷ []) e)
