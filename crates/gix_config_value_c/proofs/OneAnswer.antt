-- From the same input a call writes and returns the same.
use Rattle.std.proofs.Common.{◌≡◌, ℕ, List, refl, sym, ◌∙◌, arith}
use Rattle.config_text.specs.declared.errors.Fault.{Fault}
use Rattle.config_text.specs.declared.errors.Fault.TheVariants as faults
use Rattle.gix_config_value.specs.Amount.{AmountFault}
use Rattle.gix_config_value.specs.Refusals.{OnlyFault}
use Rattle.gix_config_value_c.specs.declared.status.Status.{Status}
use Rattle.gix_config_value_c.specs.declared.structs.GcvInteger.{GcvInteger}
use Rattle.gix_config_value_c.specs.Answers.{TellsApart, HasOneResult, HasOneAnswer}
use Rattle.gix_config_value_c.specs.Buffers.{PutsText, AnswersText, LeavesBuffer}
use Rattle.gix_config_value_c.specs.Faults.{TellsFault}
use Rattle.gix_config_value_c.specs.Readers.{ReadsInto, Faults}
use Rattle.gix_config_value_c.specs.Values.{Shows, Multiplies}
use Rattle.gix_config_value_c.proofs.StructsApart.{integers_apart}

pub reads_once : {V C : Type 0} (struct : V → C) (grammar : List ℕ → V → Type 0) (faults : List ℕ → ℕ → Type 0)
    → ((t : List ℕ) (v w : V) → grammar t v → grammar t w → v ≡ w)
    → ((t : List ℕ) (m n : ℕ) → faults t m → faults t n → m ≡ n)
    → (t : List ℕ) → HasOneAnswer (ReadsInto struct grammar faults t)
reads_once struct grammar faults one why t out a b f m n s r p q = grind arith

-- if a text has only one fault, it has only one number of a fault
pub one_fault : (refusal : List ℕ → Fault → Type 0)
    → ((t : List ℕ) (f g : Fault) → refusal t f → refusal t g → f ≡ g)
    → (t : List ℕ) (m n : ℕ) → Faults refusal t m → Faults refusal t n → m ≡ n
one_fault refusal one t m n (f, is, number) (g, also, other) = cc (number, one t f g is also, other)

-- ---- texts in a buffer

pub puts_once : (text : List ℕ)
    → HasOneAnswer (λ buffer buffer' size size' status. PutsText text buffer buffer' size' status)
puts_once text buffer a b size m n s r p q = grind arith

pub answers_once : (is_text : List ℕ → Type 0) (is_reason : ℕ → Type 0)
    → ((s t : List ℕ) → is_text s → is_text t → s ≡ t) → ((m n : ℕ) → is_reason m → is_reason n → m ≡ n)
    → ((t : List ℕ) (m : ℕ) → is_text t → ¬ (is_reason m))
    → HasOneAnswer (AnswersText is_text is_reason)
answers_once is_text is_reason texts reasons apart buffer a b size m n s r p q = grind (arith, puts_once)

pub shows_once : {V C : Type 0} (struct : V → C) (shown : V → List ℕ) (bad : Status) → TellsApart struct
    → (c : C) → HasOneAnswer (Shows struct shown bad c)
shows_once struct shown bad apart c buffer a b size m n s r p q = grind (arith, puts_once)

pub left_once : (said : Status) (buffer a b : List ℕ) (size m n s r : ℕ) → LeavesBuffer said buffer a size m s
    → LeavesBuffer said buffer b size n r → (a ≡ b) × (m ≡ n) × (s ≡ r)
left_once said buffer a b size m n s r p q = (p.0 ∙ sym q.0, p.1 ∙ sym q.1, p.2 ∙ sym q.2)

-- ---- products, and the texts of faults

pub multiplies_once : (c : GcvInteger) → HasOneResult (Multiplies c)
multiplies_once c out a b s r p q = grind (arith, integers_apart)

pub tells_once : (number : ℕ) → HasOneAnswer (TellsFault number)
tells_once number buffer a b size m n s r p q = grind (arith, puts_once)

-- ---- the fault of an amount

pub one_amount_fault : (t : List ℕ) (f g : Fault) → AmountFault t f → AmountFault t g → f ≡ g
one_amount_fault t faults.Integer faults.Integer p q = refl
one_amount_fault t faults.Integer faults.Overflow p (z, q, over) = absurd (p q.integer q.text)
one_amount_fault t faults.Overflow faults.Integer (z, p, over) q = absurd (q p.integer p.text)
one_amount_fault t faults.Overflow faults.Overflow p q = refl
one_amount_fault t f g p q = absurd (search)

pub always_one : (fault : Fault) (t : List ℕ) (f g : Fault) → OnlyFault fault t f → OnlyFault fault t g → f ≡ g
always_one fault t f g p q = p ∙ sym q
