-- A text of a kind is normalized in one way, and two texts are compared in one way.
use Rattle.std.proofs.Common.{arith, ◌≡◌, ℕ, List, None, Some, Bool, IsTrue, ◌⊎◌, inl, inr, sym, ap, subst, ◌∙◌, ◌↔◌}
use Rattle.config_integer.specs.contracts.suffix.SuffixValue.TheImpl.Laws as suffix
use Rattle.config_integer.specs.contracts.integer.IntegerValue.TheImpl.Laws as integer
use Rattle.config_integer.specs.contracts.amount.AmountValue.TheImpl.Laws as amount
use Rattle.config_boolean.specs.contracts.boolean.BooleanValue.TheImpl.Laws as boolean
use Rattle.config_word.specs.contracts.name.NameValue.TheImpl.Laws as name
use Rattle.config_word.specs.contracts.attribute.AttributeValue.TheImpl.Laws as attribute
use Rattle.config_color.specs.contracts.color.ColorValue.TheImpl.Laws as color
use Rattle.gix_config_value.specs.declared.kind.Kind.{Kind}
use Rattle.gix_config_value.specs.declared.kind.Kind.TheVariants as kinds
use Rattle.gix_config_value.specs.Kinds.{KindValue, KindGrammar, KindCanonical}
use Rattle.gix_config_value.specs.Value.{IsRefused, Normalizes, Compares}
use Rattle.gix_config_value_c.specs.declared.status.Status.TheVariants as statuses
use Rattle.gix_config_value_c.specs.Answers.{HasOneResult, HasOneAnswer}
use Rattle.gix_config_value_c.specs.Numbers.{status_number, flag_number}
use Rattle.gix_config_value_c.specs.Texts.{IsNormalized, IsRefusedBy, IsUnknown, NormalizesInto, ComparesInto}
use Rattle.gix_config_value_c.specs.Texts.ComparesInto.{compared, refused, unknown}
use Rattle.gix_config_value_c.proofs.NumbersApart.{kinds_apart}
use Rattle.gix_config_value_c.proofs.OneAnswer.{answers_once}

-- the same kind does not normalize a text to two texts
text_once : (k l : Kind) (t s u : List ℕ) → l ≡ k → Normalizes (KindGrammar k) (KindCanonical k) t (Some s)
    → Normalizes (KindGrammar l) (KindCanonical l) t (Some u) → s ≡ u
text_once k l t s u kind found other =
    let also = rw kind at other in
    let same = found.1.one_value also.0 also.1.derived in
    sym (found.1.only_text u also.1.text.canonical_text (rw same at also.1.text.reads_to))

not_refused : (k l : Kind) (t s : List ℕ) → l ≡ k → Normalizes (KindGrammar k) (KindCanonical k) t (Some s)
    → ¬ (IsRefused (KindGrammar l) t)
not_refused k l t s kind found denied =
    (rw kind at denied) found.0 found.1.derived

pub normalizes_once : (number : ℕ) (t : List ℕ) → HasOneAnswer (NormalizesInto number t)
normalizes_once number t = answers_once _ _ texts reasons apart where
  texts : (s u : List ℕ) → IsNormalized number t s → IsNormalized number t u → s ≡ u
  texts s u p q = text_once p.0 q.0 t s u (kinds_apart q.0 p.0 (sym q.1 ∙ p.1)) p.2 q.2

  reasons : (m n : ℕ) → ((m ≡ status_number statuses.Refused) × IsRefusedBy number t) ⊎ IsUnknown number m
      → ((n ≡ status_number statuses.Refused) × IsRefusedBy number t) ⊎ IsUnknown number n → m ≡ n
  reasons m n p q = grind arith

  apart : (s : List ℕ) (m : ℕ) → IsNormalized number t s
      → ¬ (((m ≡ status_number statuses.Refused) × IsRefusedBy number t) ⊎ IsUnknown number m)
  apart s m p (inl q) =
      not_refused p.0 q.1.0 t s (kinds_apart q.1.0 p.0 (sym q.1.1 ∙ p.1)) p.2 q.1.2
  apart s m p (inr q) = q.1 p.0 p.1

-- ---- whether two texts mean the same

kind_one_value : (k : Kind) (t : List ℕ) (v w : KindValue k) → KindGrammar k t v → KindGrammar k t w → v ≡ w
kind_one_value kinds.Suffix = suffix.one_value-law
kind_one_value kinds.Integer = integer.one_value-law
kind_one_value kinds.Amount = amount.one_value-law
kind_one_value kinds.Boolean = boolean.one_value-law
kind_one_value kinds.Name = name.one_value-law
kind_one_value kinds.Attribute = attribute.one_value-law
kind_one_value kinds.Color = color.one_value-law

same_truth : {P : Type 0} (a b : Bool) → (IsTrue a ↔ P) → (IsTrue b ↔ P) → a ≡ b
same_truth a b p q = grind arith

truth_once : (k l : Kind) (a b : List ℕ) (same other : Bool) → l ≡ k → Compares (KindGrammar k) a b (Some same)
    → Compares (KindGrammar l) a b (Some other) → same ≡ other
truth_once k l a b same other kind p r =
    let q = rw kind at r in
    let first = kind_one_value k a q.0 p.0 q.2.first p.2.first in
    let second = kind_one_value k b q.1 p.1 q.2.second p.2.second in
    same_truth same other p.2.equal
    (rw (first, second) at q.2.equal)

both_have_values : (k l : Kind) (a b : List ℕ) (same : Bool) → l ≡ k → Compares (KindGrammar k) a b (Some same)
    → ¬ (Compares (KindGrammar l) a b None)
both_have_values k l a b same kind p denied = elim (subst (λ z. Compares (KindGrammar z) a b None) kind denied) [
  | inl never ↦ never p.0 p.2.first
  | inr never ↦ never p.1 p.2.second
]

pub compares_once : (number : ℕ) (a b : List ℕ) → HasOneResult (ComparesInto number a b)
compares_once number a b out x y s r (compared k same is found writes ok) (compared l other also more wrote good) =
    (writes ∙ (ap flag_number (truth_once k l a b same other (kinds_apart l k (sym also ∙ is)) found more) ∙ sym wrote), ok ∙ sym good)
compares_once number a b out x y s r (compared k same is found writes ok) (refused l also nothing kept bad) =
    absurd (both_have_values k l a b same (kinds_apart l k (sym also ∙ is)) found nothing)
compares_once number a b out x y s r (refused l also nothing kept bad) (compared k same is found writes ok) =
    absurd (both_have_values k l a b same (kinds_apart l k (sym also ∙ is)) found nothing)
compares_once number a b out x y s r (refused k is nothing kept bad) (refused l also neither left worse) =
    (kept ∙ sym left, bad ∙ sym worse)
compares_once number a b out x y s r (unknown never kept) q = grind arith
compares_once number a b out x y s r p (unknown never kept) = grind arith
