-- Each text is a key or is refused, in one way; and an entry has a key exactly if Git lists the two alike.
use Rattle.std.proofs.Common.{◌≡◌, ◌≢◌, Bool, true, false, cond, ◌⊎◌, inl, inr, ◌↔◌, ℕ, List, [], ◌∷◌, ◌++◌}
use Rattle.std.proofs.Common.{map, Option, Some, None, Result, Ok, Err, MatchResult}
use Rattle.std.proofs.Common.{refl, sym, ap, ◌∙◌, subst, arith}
use Rattle.std.proofs.lemmas.Bool.{true≢false, cases_Bool, and_parts}
use Rattle.std.proofs.lemmas.Bool.Decides.{nat_tests}
use Rattle.std.proofs.lemmas.List.{append_assoc}
use Rattle.std.proofs.lemmas.Str.Ascii.{lowercase-lowercase}
use Rattle.std.specs.Char.{to_ascii_lowercase}
use Rattle.std.specs.List.{list_all}
use Rattle.config_file.specs.declared.key.KeyError.{KeyError}
use Rattle.config_file.specs.declared.key.KeyError.TheVariants.{NoSection, NoName, BadByte, LineFeed}
use Rattle.config_file.specs.Bytes.{is_key_byte}
use Rattle.config_file.specs.Runs.{StopsRun}
use Rattle.config_file.specs.Header.{Section}
use Rattle.config_file.specs.File.{Entry}
use Rattle.config_file.specs.Listing.{IsListedSection, IsListed, alone, in_section}
use Rattle.config_file.specs.Key as spec
use Rattle.config_file.specs.Key.{Key, key, dotted, stem, listed, HasKey, IsCut, IsAccepted, IsWrong, IsKey}
use Rattle.config_file.specs.Key.{RefusesKey, is_no_dot, has_section, is_section, is_one_line, is_name}
use Rattle.std.proofs.lemmas.List.Folds.{list_all-append, list_all-map}
use Rattle.config_file.proofs.LineEnds.{all_more}
use Rattle.config_file.proofs.OneRun.{run_same}
use Rattle.config_file.proofs.Keys.{is_dot, no_dot, not_dot, lower_dot, dotted_same, listed_as}

-- ---- one cut

no_dot_within : {text : List ℕ} (front rest : List ℕ) → list_all is_no_dot text ≡ true
    → text ≡ front ++ 46 ∷ rest → ⊥
no_dot_within front rest none e =
    let whole = sym (list_all-append is_no_dot front (46 ∷ rest)) ∙ (rw e at none) in
    true≢false (sym (and_parts (list_all is_no_dot front) _ whole).1)

-- a text has at most one last dot
pub last_same : (a b m n : List ℕ) → list_all is_no_dot m ≡ true → list_all is_no_dot n ≡ true
    → a ++ 46 ∷ m ≡ b ++ 46 ∷ n → (a ≡ b) × (m ≡ n)
last_same [] [] m n p q e = (refl, cc)
last_same [] (y ∷ b) m n p q e =
    absurd (no_dot_within {text = m} b n p (cc))
last_same (x ∷ a) [] m n p q e =
    absurd (no_dot_within {text = n} a m q (cc))
last_same (x ∷ a) (y ∷ b) m n p q e =
    let heads : x ≡ y = cc in
    let tails : a ++ 46 ∷ m ≡ b ++ 46 ∷ n = cc in
    let (fronts, names) = last_same a b m n p q tails in
    (cc, names)

stops_at_dot : (q : Option (List ℕ)) → StopsRun is_no_dot (dotted q)
stops_at_dot None = tt
stops_at_dot (Some q) = refl

pub same_parts : (a b : Key) → a.section ≡ b.section → a.subsection ≡ b.subsection → a.name ≡ b.name → a ≡ b
same_parts a b e f g =
    ap (λ s. key s a.subsection a.name) e ∙ ap (λ q. key b.section q a.name) f
    ∙ ap (λ n. key b.section b.subsection n) g

pub cut_same : {text : List ℕ} {a b : Key} → IsCut text a → IsCut text b → a ≡ b
cut_same {a = a} {b = b} first second =
    let q = dotted a.subsection in
    let r = dotted b.subsection in
    let joined = sym first.joined ∙ second.joined in
    let (fronts, names) =
    last_same (a.section ++ q) (b.section ++ r) a.name b.name first.name second.name joined in
    let (sections, subs) =
    run_same is_no_dot a.section b.section q r first.section second.section (stops_at_dot a.subsection)
    (stops_at_dot b.subsection) fronts in
    same_parts a b sections (dotted_same a.subsection b.subsection subs) names

pub cut_has_dot : {text : List ℕ} {k : Key} → IsCut text k → list_all is_no_dot text ≡ true → ⊥
cut_has_dot {k = k} cut none =
    no_dot_within (k.section ++ dotted k.subsection) k.name none cut.joined

abbrev Cuts : List ℕ → Type 0
Cuts text = (list_all is_no_dot text ≡ true) ⊎ ((k : Key) × IsCut text k)

cut_next : (b : ℕ) (text : List ℕ) → is_no_dot b ≡ true → Cuts text → Cuts (b ∷ text)
cut_next b text h (inl none) = inl (rw (h, none) refl)
cut_next b text h (inr (k, cut)) =
    inr (
      key (b ∷ k.section) k.subsection k.name,
      record { joined = ap (λ t. b ∷ t) cut.joined; section = rw (h, cut.section) refl; name = cut.name },
    )

cut_at : (b : ℕ) (text : List ℕ) → b ≡ 46 → Cuts text → Cuts (b ∷ text)
cut_at b text is (inl none) = inr (key [] None text, record { joined = rw is; section = refl; name = none })
cut_at b text is (inr (k, cut)) =
    inr (
      key [] (Some (k.section ++ dotted k.subsection)) k.name,
      record { joined = rw is (ap (λ t. 46 ∷ t) cut.joined); section = refl; name = cut.name },
    )

cuts : (text : List ℕ) → Cuts text
cuts [] = inl refl
cuts (b ∷ text) =
    elim (cases_Bool (is_no_dot b)) [
      | inl h ↦ cut_next b text h (cuts text)
      | inr h ↦ cut_at b text (is_dot b h) (cuts text)
    ]

-- ---- one answer

abbrev is_empty : List ℕ → Bool
is_empty [] = true
is_empty (b ∷ text) = false

not_empty : (text : List ℕ) → text ≢ [] → is_empty text ≡ false
not_empty [] some = absurd (some refl)
not_empty (b ∷ text) some = refl

name_not_empty : (name : List ℕ) → is_name name ≡ true → is_empty name ≡ false
name_not_empty [] is = absurd (true≢false (sym is))
name_not_empty (b ∷ name) is = refl

empty_cases : (text : List ℕ)
    → ((is_empty text ≡ true) × (text ≡ [])) ⊎ ((is_empty text ≡ false) × (text ≢ []))
empty_cases [] = inl (refl, refl)
empty_cases (b ∷ text) = inr (refl, λ e. cc)

abbrev answer : Key → Option KeyError
answer k = cond (has_section k)
    (cond (is_empty k.name) (Some NoName)
    (cond (is_section k.section)
    (cond (is_one_line k.subsection) (cond (is_name k.name) None (Some BadByte)) (Some LineFeed))
    (Some BadByte)))
    (Some NoSection)

accepted_answer : (k : Key) → IsAccepted k → answer k ≡ None
accepted_answer k h = rw (h.some_section, name_not_empty k.name h.name, h.section, h.subsection, h.name) refl

wrong_answer : {k : Key} {error : KeyError} → IsWrong k error → answer k ≡ Some error
wrong_answer (spec.no_section h) = rw h refl
wrong_answer (spec.no_name h nil) = rw (h, nil) refl
wrong_answer (spec.bad_section {k = k} h some s) = rw (h, not_empty k.name some, s) refl
wrong_answer (spec.many_lines {k = k} h some s l) = rw (h, not_empty k.name some, s, l) refl
wrong_answer (spec.bad_name {k = k} h some s l n) = rw (h, not_empty k.name some, s, l, n) refl

abbrev Answers : Key → Type 0
Answers k = IsAccepted k ⊎ ((error : KeyError) × IsWrong k error)

answered : (k : Key) → Answers k
answered k = elim (cases_Bool (has_section k)) [
  | inr h ↦ inr (NoSection, spec.no_section h)
  | inl h ↦ elim (empty_cases k.name) [
    | inl nil ↦ inr (NoName, spec.no_name h nil.1)
    | inr some ↦ elim (cases_Bool (is_section k.section)) [
      | inr s ↦ inr (BadByte, spec.bad_section h some.1 s)
      | inl s ↦ elim (cases_Bool (is_one_line k.subsection)) [
        | inr l ↦ inr (LineFeed, spec.many_lines h some.1 s l)
        | inl l ↦ elim (cases_Bool (is_name k.name)) [
          | inr n ↦ inr (BadByte, spec.bad_name h some.1 s l n)
          | inl n ↦ inl (record { some_section = h; section = s; subsection = l; name = n })
        ]
      ]
    ]
  ]
]

abbrev pub Reading : List ℕ → Result Key KeyError → Type 0
Reading text result = MatchResult result (IsKey text) (RefusesKey text)

reading_of : (text : List ℕ) (k : Key) → IsCut text k → Answers k
    → (result : Result Key KeyError) × Reading text result
reading_of text k cut (inl is) = (Ok k, record { cut = cut; accepted = is })
reading_of text k cut (inr (error, is)) = (Err error, spec.wrong cut is)

pub each_is_answered : (text : List ℕ) → (result : Result Key KeyError) × Reading text result
each_is_answered text = elim (cuts text) [
  | inl none ↦ (Err NoSection, spec.no_dot none)
  | inr found ↦ reading_of text found.0 found.1 (answered found.0)
]

answer_same : {text : List ℕ} {a b : Key} → IsCut text a → IsCut text b → answer a ≡ answer b
answer_same first second = ap answer (cut_same first second)

refused_same : {text : List ℕ} {e f : KeyError} → RefusesKey text e → RefusesKey text f → e ≡ f
refused_same (spec.no_dot none) (spec.no_dot also) = refl
refused_same (spec.no_dot none) (spec.wrong cut is) = absurd (cut_has_dot cut none)
refused_same (spec.wrong cut is) (spec.no_dot none) = absurd (cut_has_dot cut none)
refused_same {e = e} {f = f} (spec.wrong cut is) (spec.wrong also so) =
    let same : Some e ≡ Some f = sym (wrong_answer is) ∙ answer_same cut also ∙ wrong_answer so in cc

pub not_both : {text : List ℕ} {k : Key} {e : KeyError} → IsKey text k → RefusesKey text e → ⊥
not_both is (spec.no_dot none) = cut_has_dot is.cut none
not_both {k = k} {e = e} is (spec.wrong cut wrong) =
    let same : None ≡ Some e =
    sym (accepted_answer k is.accepted) ∙ answer_same is.cut cut ∙ wrong_answer wrong in
    cc

pub one_answer : (text : List ℕ) (a b : Result Key KeyError) → Reading text a → Reading text b → a ≡ b
one_answer text (Ok a) (Ok b) first second = ap Ok (cut_same first.cut second.cut)
one_answer text (Ok a) (Err e) first second = absurd (not_both first second)
one_answer text (Err e) (Ok b) first second = absurd (not_both second first)
one_answer text (Err e) (Err f) first second = ap Err (refused_same first second)

-- ---- entries

lower_no_dot : (b : ℕ) → is_no_dot b ≡ true → is_no_dot (to_ascii_lowercase b) ≡ true
lower_no_dot b h = no_dot (to_ascii_lowercase b) (λ e. not_dot b h (lower_dot b e))

pub lower_no_dots : (text : List ℕ) → list_all is_no_dot text ≡ true
    → list_all is_no_dot (map to_ascii_lowercase text) ≡ true
lower_no_dots text e =
    rw (list_all-map is_no_dot to_ascii_lowercase text)
    (all_more is_no_dot (λ b. is_no_dot (to_ascii_lowercase b)) lower_no_dot text e)

pub lower_twice : (text : List ℕ) → map to_ascii_lowercase (map to_ascii_lowercase text) ≡ map to_ascii_lowercase text
lower_twice [] = refl
lower_twice (b ∷ text) = λ i. lowercase-lowercase b i ∷ lower_twice text i

key_byte_no_dot : (b : ℕ) → is_key_byte b ≡ true → is_no_dot b ≡ true
key_byte_no_dot b h = grind (arith, nat_tests)

pub key_bytes_no_dot : (text : List ℕ) → list_all is_key_byte text ≡ true → list_all is_no_dot text ≡ true
key_bytes_no_dot text e = all_more is_key_byte is_no_dot key_byte_no_dot text e

-- the text that Git lists for an entry, cut at its last dot
listed_at : {section : Option Section} {key_text whole : List ℕ} (front name : List ℕ)
    → list_all is_no_dot key_text ≡ true → list_all is_no_dot name ≡ true → IsListed section key_text whole
    → whole ≡ front ++ 46 ∷ name
    → (of : Section) × (section ≡ Some of) × IsListedSection of (front ++ 46 ∷ [])
    × (map to_ascii_lowercase key_text ≡ name)
listed_at front name p q (alone {key = key}) e =
    absurd (no_dot_within front name (lower_no_dots key p) e)
listed_at front name p q (in_section {section = section} {key = key} {listed = before} h) e =
    let (left, s, is) = listed_as h in
    let mine = map to_ascii_lowercase section.0 ++ dotted left in
    let own = map to_ascii_lowercase key in
    let moved : mine ++ 46 ∷ own ≡ before ++ own =
    sym (append_assoc mine (46 ∷ []) own) ∙ ap (λ t. t ++ own) (sym is) in
    let (fronts, names) = last_same mine front own name (lower_no_dots key p) q (moved ∙ e) in
    (section, refl, rw (is ∙ ap (λ t. t ++ 46 ∷ []) fronts) at h, names)

pub has_key_as_listed : (entry : Entry) (k : Key) → list_all is_no_dot entry.key ≡ true
    → list_all is_no_dot k.name ≡ true
    → HasKey entry k ↔ IsListed entry.section entry.key (listed k)
has_key_as_listed entry k p q = (
  λ has. let own = map to_ascii_lowercase entry.key in
      let whole : (stem k ++ 46 ∷ []) ++ own ≡ listed k =
      append_assoc (stem k) (46 ∷ []) own ∙ ap (λ n. stem k ++ 46 ∷ n) has.same_name in
      rw has.in_section
      (subst (λ l. IsListed (Some has.section) entry.key l) whole (in_section has.stem_listed)),
  λ h. let (of, is, front, names) =
      listed_at (stem k) (map to_ascii_lowercase k.name) p (lower_no_dots k.name q) h refl in
      record { section = of; in_section = is; stem_listed = front; same_name = names },
)
