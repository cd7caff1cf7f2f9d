-- The first fact that answers a question, where one is added.
use Rattle.std.proofs.Common.{◌≡◌, ◌∙◌, IfSome, ◌==◌, ◌&&◌, ◌∷◌, ◌++◌, [], ℕ, Bool, List, Option, None, Some, true, false, if◌then◌else◌, cond, refl, sym, ap, inl, inr, true≢false}
use Rattle.std.specs.Str.{bytes_eq}
use Rattle.std.proofs.lemmas.Bool.Decides.{eqb_tells}
use Rattle.std.proofs.lemmas.List.Elements.{All-cons, All-head, All-nil, All-tail}
use Rattle.std.proofs.lemmas.Option.{same_Some}
use Rattle.std.proofs.lemmas.Slice.Eq.{bytes_eq-Decides}
use Rattle.config_search.specs.Shown.{AreRecent, IsFirst, first_of}
use Rattle.config_search.specs.System.{Differs, IsFactOf, IsOpen, IsTrueIn, answer_of}
use Rattle.config_search.specs.declared.fact.Fact.{Fact}
use Rattle.config_search.specs.declared.fact.Recent.{Recent}

-- whether a fact answers a question
abbrev pub answers : Fact → ℕ → List ℕ → Bool
answers fact subject name = (fact.subject == subject) && bytes_eq fact.name.now name

abbrev or_else : Option Fact → Option Fact → Option Fact
or_else None other = other
or_else (Some fact) other = Some fact

or_none : (first : Option Fact) → or_else first None ≡ first
or_none None = refl
or_none (Some fact) = refl

one_more : (is : Bool) (one : Fact) (all rest other : Option Fact) → all ≡ or_else rest other
    → (if is then Some one else all) ≡ or_else (if is then Some one else rest) other
one_more true one all rest other same = refl
one_more false one all rest other same = same

-- a fact behind others counts where none of them answers
first_push : (facts : List Fact) (fact : Fact) (subject : ℕ) (name : List ℕ) → first_of (facts ++ fact ∷ []) subject name
    ≡ or_else (first_of facts subject name) (if answers fact subject name then Some fact else None)
first_push [] fact subject name = refl
first_push (one ∷ rest) fact subject name = one_more (answers one subject name) one (first_of (rest ++ fact ∷ []) subject name)
    (first_of rest subject name) (if answers fact subject name then Some fact else None) (first_push rest fact subject name)

-- it answers the question that it is about, and no other
asked_by : (fact : Fact) (subject : ℕ) (name : List ℕ) → answers fact subject name ≡ true
    → (fact.subject ≡ subject) × (fact.name.now ≡ name)
asked_by fact subject name is = elim (eqb_tells fact.subject subject) [
  | inl same ↦ (same.1, (bytes_eq-Decides fact.name.now name).0 (rw same.0 at is))
  | inr other ↦ absurd (true≢false (sym (rw other.0 at is)))
]

answers_itself : (fact : Fact) → answers fact fact.subject fact.name.now ≡ true
answers_itself fact = elim (eqb_tells fact.subject fact.subject) [
  | inl same ↦ rw same.0 ((bytes_eq-Decides fact.name.now fact.name.now).1 refl)
  | inr other ↦ absurd (other.1 refl)
]

same_first : (facts : List Fact) (fact : Fact) (subject : ℕ) (name : List ℕ) → answers fact subject name ≡ true
    → first_of facts subject name ≡ first_of facts fact.subject fact.name.now
same_first facts fact subject name is = let (same, named) = asked_by fact subject name is in rw (same, named) refl

known_by : (is : Bool) (fact some : Fact) (first : Option Fact) → (is ≡ true → first ≡ Some some)
    → or_else first (if is then Some fact else None) ≡ first
known_by true fact some first known = rw (known refl) refl
known_by false fact some first known = or_none first

-- one that answers a question again changes nothing
pub known_push : (facts : List Fact) (fact some : Fact) → Some some ≡ first_of facts fact.subject fact.name.now
    → (is_told : Bool) (subject : ℕ) (name : List ℕ)
    → first_of facts subject name ≡ first_of (if is_told then facts ++ fact ∷ [] else facts) subject name
known_push facts fact some known true subject name = sym (first_push facts fact subject name
    ∙ known_by (answers fact subject name) fact some (first_of facts subject name)
    (λ is. same_first facts fact subject name is ∙ sym known))
known_push facts fact some known false subject name = refl

new_by : (is : Bool) (fact : Fact) (first : Option Fact) → (is ≡ true → first ≡ None)
    → cond is (Some fact) first ≡ or_else first (if is then Some fact else None)
new_by true fact first unknown = rw (unknown refl) refl
new_by false fact first unknown = sym (or_none first)

-- one that answers a new question is the first one that does
pub new_push : (facts : List Fact) (fact : Fact) → first_of facts fact.subject fact.name.now ≡ None
    → (subject : ℕ) (name : List ℕ)
    → cond (answers fact subject name) (Some fact) (first_of facts subject name) ≡ first_of (facts ++ fact ∷ []) subject name
new_push facts fact unknown subject name = new_by (answers fact subject name) fact (first_of facts subject name)
    (λ is. same_first facts fact subject name is ∙ unknown) ∙ sym (first_push facts fact subject name)

-- one that is the first stays it
kept_first : (facts : List Fact) (fact : Fact) (one : Option Fact) → IfSome one (IsFirst facts)
    → IfSome one (IsFirst (facts ++ fact ∷ []))
kept_first facts fact None first = cc
kept_first facts fact (Some one) first = first_push facts fact one.subject one.name.now
    ∙ ap (λ (f : Option Fact). or_else f (if answers fact one.subject one.name.now then Some fact else None)) first

pub kept_recent : (facts : List Fact) (fact : Fact) (recent : Recent) (is_told : Bool) → AreRecent facts recent
    → AreRecent (if is_told then facts ++ fact ∷ [] else facts) recent
kept_recent facts fact recent true (last, before, third) = (
  kept_first facts fact recent.last last,
  kept_first facts fact recent.before before,
  kept_first facts fact recent.third third,
)
kept_recent facts fact recent false are = are

-- one that answers a new question is such a one
pub new_first : (facts : List Fact) (fact : Fact) → first_of facts fact.subject fact.name.now ≡ None
    → IsFirst (facts ++ fact ∷ []) fact
new_first facts fact unknown = sym (new_push facts fact unknown fact.subject fact.name.now)
    ∙ ap (λ (is : Bool). cond is (Some fact) (first_of facts fact.subject fact.name.now)) (answers_itself fact)

-- the first fact that answers a question is one of its facts
answers_by : (is : Bool) (one fact : Fact) (rest : List Fact) (subject : ℕ) (name : List ℕ)
    → answers one subject name ≡ is → (first_of rest subject name ≡ Some fact → IsFactOf rest subject name fact)
    → (if is then Some one else first_of rest subject name) ≡ Some fact → IsFactOf (one ∷ rest) subject name fact
answers_by true one fact rest subject name is later same =
    let (about, named) = asked_by one subject name is in
    let first : one ≡ fact = same_Some one fact same in (
      sym (ap (λ (f : Fact). f.name.now) first) ∙ named,
      λ system agrees. rw (sym about, sym named) (All-head (IsTrueIn system) one rest agrees) ∙ ap answer_of first,
    )
answers_by false one fact rest subject name is later same =
    let (named, tells) = later same in (named, λ system agrees. tells system (All-tail (IsTrueIn system) one rest agrees))

pub first_answers : (facts : List Fact) (subject : ℕ) (name : List ℕ) (fact : Fact) → first_of facts subject name ≡ Some fact
    → IsFactOf facts subject name fact
first_answers [] subject name fact is = cc
first_answers (one ∷ rest) subject name fact is = answers_by (answers one subject name) one fact rest subject name refl
    (first_answers rest subject name fact) is

differs : (fact : Fact) (subject : ℕ) (name : List ℕ) → answers fact subject name ≡ false → Differs subject name fact
differs fact subject name not = elim (eqb_tells fact.subject subject) [
  | inl same ↦ inr (λ named. true≢false (sym ((bytes_eq-Decides fact.name.now name).1 named) ∙ (rw same.0 at not)))
  | inr other ↦ inl other.1
]

open_by : (is : Bool) (one : Fact) (rest : List Fact) (subject : ℕ) (name : List ℕ) → answers one subject name ≡ is
    → (first_of rest subject name ≡ None → IsOpen rest subject name)
    → (if is then Some one else first_of rest subject name) ≡ None → IsOpen (one ∷ rest) subject name
open_by true one rest subject name is later none = cc
open_by false one rest subject name is later none =
    All-cons (Differs subject name) one rest (differs one subject name is) (later none)

-- without one the question is open
pub none_open : (facts : List Fact) (subject : ℕ) (name : List ℕ) → first_of facts subject name ≡ None
    → IsOpen facts subject name
none_open [] subject name none = All-nil (Differs subject name)
none_open (one ∷ rest) subject name none = open_by (answers one subject name) one rest subject name refl
    (none_open rest subject name) none
