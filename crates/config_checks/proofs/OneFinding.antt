-- A setting has at most one reason, and at most one finding.
use Rattle.std.proofs.Common.{◌≡◌, ℕ, inl, inr, List, Bool, true, false, Option, None, Some, refl, sym, ap}
use Rattle.std.proofs.Common.{subst, ◌∙◌, arith, Bor}
use Rattle.config_text.specs.declared.errors.Fault.{Fault}
use Rattle.config_text.specs.declared.errors.Fault.TheVariants as faults
use Rattle.config_text.specs.Refusals.{OnlyFault}
use Rattle.gix_config_value.specs.Boolean.{BooleanText, CanonicalBoolean}
use Rattle.gix_config_value.specs.Integer.{IntegerText, CanonicalInteger}
use Rattle.gix_config_value.specs.Amount.{AmountFault}
use Rattle.gix_config_value.specs.Color.{ColorText, CanonicalColor}
use Rattle.config_integer.specs.declared.amount.Amount.{Amount}
use Rattle.config_integer.specs.contracts.amount.AmountValue.TheImpl.Laws.{one_value-law as amount_one_value}
use Rattle.config_integer.specs.contracts.amount.AmountValue.TheImpl.Laws.{decided-law as amount_decided}
use Rattle.gix_config_value.proofs.OneAnswer.{text_once}
use Rattle.config_checks.specs.declared.kind.Form.{Form}
use Rattle.config_checks.specs.declared.kind.WordList.{WordList}
use Rattle.config_checks.specs.declared.kind.SettingKind.{SettingKind}
use Rattle.config_checks.specs.declared.kind.SettingKind.TheVariants as kinds
use Rattle.config_checks.specs.declared.options.Options.{Options}
use Rattle.config_checks.specs.declared.paths.KnownUsers.{KnownUsers}
use Rattle.config_checks.specs.declared.row.Row.{Row}
use Rattle.config_checks.specs.declared.reason.Reason.{Reason}
use Rattle.config_checks.specs.declared.reason.Reason.TheVariants.{Refused, OutOfRange, NoWord, NotCanonical}
use Rattle.config_checks.specs.Kinds.{IsWord, IsFirstWord}
use Rattle.config_checks.specs.Reasons.{IsJudged, IsJudgedWithin, IsJudgedBool, IsJudgedByWords, WordEdits}
use Rattle.config_checks.specs.Reasons.{IsMeant, IsJudgedPath, IsJudgedText, IsComparedTo, IsJudgedAlone}
use Rattle.config_checks.specs.Reasons.{IsJudgedByRow, HasReason, IsRespelled, IsRespelledAs}
use Rattle.config_checks.specs.Reasons.{IsRespelledByForm, IsRespelledByWords, HasSpelling, IsOutside}
use Rattle.config_checks.specs.Reasons.{IsSpelled, IsRemarkBy, HasFinding, IsSameFinding}
use Rattle.config_checks.specs.Reasons.IsJudgedByRow.{refused, taken}
use Rattle.config_checks.specs.Reasons.HasFinding.{outside, wrong, right}
use Rattle.config_checks.specs.declared.version.Version.{Version}
use Rattle.config_checks.specs.Versions.{IsOf}
use Rattle.config_checks.proofs.NearestLemmas.{nearest_once, no_far}
use Rattle.config_checks.proofs.WordLemmas.{no_first}
use Rattle.config_checks.proofs.FirstLemmas.{IsFirst, first_once}

-- ---- why a text is wrong

module _ {V : Type 0} (grammar : List ℕ → V → Type 0) (refusal : List ℕ → Fault → Type 0) (t : List ℕ) where
  judged_once : ((f g : Fault) → refusal t f → refusal t g → f ≡ g) → (a b : Option Reason)
      → IsJudged grammar refusal t a → IsJudged grammar refusal t b → a ≡ b
  judged_once one a b p q = grind arith

always_once : (fault : Fault) (t : List ℕ) (f g : Fault) → OnlyFault fault t f → OnlyFault fault t g → f ≡ g
always_once fault t f g p q = p ∙ sym q

-- ---- numbers

refusal_once : (t : List ℕ) (f g : Fault) → AmountFault t f → AmountFault t g → f ≡ g
refusal_once t faults.Integer faults.Integer p q = refl
refusal_once t faults.Integer faults.Overflow p q = absurd (p q.1.integer q.1.text)
refusal_once t faults.Overflow faults.Integer p q = absurd (q p.1.integer p.1.text)
refusal_once t faults.Overflow faults.Overflow p q = refl
refusal_once t f g p q = absurd (search)

module _ (low high : Amount) (t : List ℕ) where
  same_number : (a b : Option Reason) → IsJudgedWithin low high t a → IsJudgedWithin low high t b → a ≡ b
  same_number None None p q = refl
  same_number None (Some (OutOfRange l h)) p q = absurd (q.2.2 (rw (amount_one_value t q.2.0 p.0 q.2.1 p.1) p.2))
  same_number (Some (OutOfRange l h)) None p q = absurd (p.2.2 (rw (amount_one_value t p.2.0 q.0 p.2.1 q.1) q.2))
  same_number (Some (OutOfRange l h)) (Some (OutOfRange m k)) p q = cc
  same_number None (Some (Refused g)) p q = absurd (q.1 p.0 p.1)
  same_number (Some (OutOfRange l h)) (Some (Refused g)) p q = absurd (q.1 p.2.0 p.2.1)
  same_number (Some (Refused f)) None p q = absurd (p.1 q.0 q.1)
  same_number (Some (Refused f)) (Some (OutOfRange l h)) p q = absurd (p.1 q.2.0 q.2.1)
  same_number (Some (Refused f)) (Some (Refused g)) p q = ap (λ h. Some (Refused h)) (refusal_once t f g p.0 q.0)
  same_number a b p q = absurd (search)

-- ---- findings that are the same

same_finding : (a : Option Reason) → IsSameFinding a a
same_finding (Some (NotCanonical c)) = refl
same_finding (Some (NoWord l v)) = (refl, refl)
same_finding a = refl

as_same : (a b : Option Reason) → a ≡ b → IsSameFinding a b
as_same a b same = subst (IsSameFinding a) same (same_finding a)

-- a finding is not the same as no finding
none_with : (a : Reason) → ¬ (IsSameFinding (Some a) None)
none_with a same = grind arith

pub none_before : (a : Reason) → ¬ (IsSameFinding None (Some a))
none_before a same = grind arith

-- ---- words

meant_once : (words : List (Bor (List ℕ))) (t : List ℕ) (v w : Option (Bor (List ℕ))) → IsMeant words t v
    → IsMeant words t w
    → v ≡ w
meant_once words t None None p q = refl
meant_once words t None (Some w) p q = absurd (no_far (WordEdits t) words w q p)
meant_once words t (Some v) None p q = absurd (no_far (WordEdits t) words v p q)
meant_once words t (Some v) (Some w) p q = ap (λ x. Some x) (nearest_once (WordEdits t) words v w p q)

words_once : (list : WordList) (t : List ℕ) (a b : Option Reason) → IsJudgedByWords list t a
    → IsJudgedByWords list t b → IsSameFinding a b
words_once list t a b p q = grind (arith, meant_once)

-- ---- paths

path_once : (users : Option KnownUsers) (t : List ℕ) (a b : Option Reason) → IsJudgedPath users t a
    → IsJudgedPath users t b → a ≡ b
path_once users t a b p q = grind arith

-- ---- the reason

pub int_once : (t : List ℕ) (a b : Option Reason) → IsJudgedBool t a → IsJudgedBool t b → a ≡ b
int_once t a b p q = grind (
  arith,
  amount_decided t,
  same_number,
  judged_once BooleanText (OnlyFault faults.Boolean) t,
)

text_judged_once : (users : Option KnownUsers) (kind : SettingKind) (t : List ℕ) (a b : Option Reason)
    → IsJudgedText users kind t a
    → IsJudgedText users kind t b → IsSameFinding a b
text_judged_once users kind t a b p q =
    grind (
      arith,
      as_same,
      int_once,
      same_number,
      judged_once ColorText (OnlyFault faults.Color),
      path_once,
      words_once,
    )

comparison_once : (wanted : Option (Bor (List ℕ))) (kind : SettingKind) (t : List ℕ) (a b : Option Reason)
    → IsComparedTo wanted kind t a → IsComparedTo wanted kind t b → a ≡ b
comparison_once wanted kind t a b p q = grind arith

alone_once : (takes : Bool) (row : Row) (a b : Option Reason) → IsJudgedAlone takes row a
    → IsJudgedAlone takes row b → a ≡ b
alone_once takes row a b p q = grind (arith, comparison_once)

module _ (users : Option KnownUsers) (row : Row) where
  row_judged_once : (t : List ℕ) (a b : Option Reason) → IsJudgedByRow users row t a → IsJudgedByRow users row t b
      → IsSameFinding a b
  row_judged_once t a b (refused r p is) (refused s q also) =
      rw (is, also) (text_judged_once users row.kind t (Some r) (Some s) p q)
  row_judged_once t a b (refused r p is) (taken q compared) =
      absurd (none_with r (text_judged_once users row.kind t (Some r) None p q))
  row_judged_once t a b (taken p compared) (refused s q also) =
      absurd (none_before s (text_judged_once users row.kind t None (Some s) p q))
  row_judged_once t a b (taken p compared) (taken q also) =
      as_same a b (comparison_once row.wanted row.kind t a b compared also)

  pub reason_once : (value : Option (List ℕ)) (a b : Option Reason) → HasReason users row value a
      → HasReason users row value b → IsSameFinding a b
  reason_once None a b p q = as_same a b (alone_once row.takes_no_value row a b p q)
  reason_once (Some t) a b p q = row_judged_once t a b p q

  pub reason_or_none : (value : Option (List ℕ)) (r : Reason) → HasReason users row value (Some r)
      → ¬ (HasReason users row value None)
  reason_or_none value r p q = none_with r (reason_once value (Some r) None p q)

-- ---- how an accepted text is spelled

module _ {V : Type 0} (grammar : List ℕ → V → Type 0) (canonical : List ℕ → Type 0) (t : List ℕ) where
  respelled_once : (a b : Option Reason) → IsRespelled grammar canonical t a → IsRespelled grammar canonical t b
      → IsSameFinding a b
  respelled_once a b p q = grind (arith, text_once grammar canonical t)

-- the first word of a list that matches a text
module _ (list : WordList) (t : List ℕ) where
  as_first : (word : Bor (List ℕ)) → IsFirstWord list t word
      → IsFirst (λ w. IsWord list t w.now) list.words.items word
  as_first word w = record { place = w.place; inside = w.inside; stands = w.stands; is = w.is_word; first = w.first }

  word_once : (v w : Bor (List ℕ)) → IsFirstWord list t v → IsFirstWord list t w → v ≡ w
  word_once v w a b = first_once (λ w. IsWord list t w.now) list.words.items v w (as_first v a) (as_first w b)

  as_word_once : (word : Bor (List ℕ)) (a b : Option Reason) → IsRespelledAs t word a → IsRespelledAs t word b
      → a ≡ b
  as_word_once word a b p q = grind arith

form_once : (form : Form) (t : List ℕ) (a b : Option Reason) → IsRespelledByForm form t a
    → IsRespelledByForm form t b
    → IsSameFinding a b
form_once form t a b p q =
    grind (arith, as_same, respelled_once BooleanText CanonicalBoolean, respelled_once IntegerText CanonicalInteger)

respelled_words_once : (list : WordList) (t : List ℕ) (a b : Option Reason) → IsRespelledByWords list t a
    → IsRespelledByWords list t b → IsSameFinding a b
respelled_words_once list t a b (inl p) (inl q) = as_same a b
    (as_word_once list t p.0 a b p.2 (subst (λ w. IsRespelledAs t w b) (word_once list t q.0 p.0 q.1 p.1) q.2))
respelled_words_once list t a b (inl p) (inr q) = absurd (no_first list t q.0 p.0 p.1)
respelled_words_once list t a b (inr p) (inl q) = absurd (no_first list t p.0 q.0 q.1)
respelled_words_once list t a b (inr p) (inr q) = form_once list.form t a b p.1 q.1

spelling_once : (kind : SettingKind) (value : Option (List ℕ)) (a b : Option Reason) → HasSpelling kind value a
    → HasSpelling kind value b → IsSameFinding a b
spelling_once kind None a b p q = as_same a b (p ∙ sym q)
spelling_once (kinds.Word list) (Some t) a b p q = respelled_words_once list t a b p q
spelling_once kind (Some t) a b p q = grind (
  arith,
  as_same,
  amount_decided t,
  respelled_once BooleanText CanonicalBoolean t,
  respelled_once IntegerText CanonicalInteger t,
  respelled_once ColorText CanonicalColor t,
)

-- ---- the finding

spelled_once : (wants : Bool) (kind : SettingKind) (value : Option (List ℕ)) (a b : Option Reason)
    → IsSpelled wants kind value a
    → IsSpelled wants kind value b → IsSameFinding a b
spelled_once true kind value a b p q = spelling_once kind value a b p q
spelled_once false kind value a b p q = as_same a b (p ∙ sym q)

remark_once : (instead old : Option (Bor (List ℕ))) (wants : Bool) (kind : SettingKind) (value : Option (List ℕ))
    (a b : Option Reason) → IsRemarkBy instead old wants kind value a
    → IsRemarkBy instead old wants kind value b → IsSameFinding a b
remark_once (Some word) None wants kind value a b p q = as_same a b (p ∙ sym q)
remark_once (Some word) (Some old) wants kind value a b (inl p) (inl q) = as_same a b (p.1 ∙ sym q.1)
remark_once (Some word) (Some old) wants kind value a b (inl p) (inr q) = absurd (q.0 p.0)
remark_once (Some word) (Some old) wants kind value a b (inr p) (inl q) = absurd (p.0 q.0)
remark_once (Some word) (Some old) wants kind value a b (inr p) (inr q) = spelled_once wants kind value a b p.1 q.1
remark_once None old wants kind value a b p q = spelled_once wants kind value a b p q

module _ (git : Version) (row : Row) where
  not_outside : IsOf git row → (reason : Reason) → ¬ (IsOutside git row reason)
  not_outside is reason out = grind arith

  outside_once : (a b : Reason) → IsOutside git row a → IsOutside git row b → a ≡ b
  outside_once a b p q = grind arith

module _ (options : Options) (row : Row) where
  pub finding_once : (value : Option (List ℕ)) (a b : Option Reason)
      → HasFinding options row value a → HasFinding options row value b → IsSameFinding a b
  finding_once value a b (outside r out is) q =
      grind (arith, as_same, outside_once options.git row, not_outside options.git row)
  finding_once value a b p (outside r out is) = grind (arith, not_outside options.git row)
  finding_once value a b (wrong of r judged is) (wrong of' s judged' is') =
      rw (is, is') (reason_once options.users row value (Some r) (Some s) judged judged')
  finding_once value a b (wrong of r judged is) (right of' judged' remark) =
      absurd (none_with r (reason_once options.users row value (Some r) None judged judged'))
  finding_once value a b (right of judged remark) (wrong of' s judged' is') =
      absurd (none_before s (reason_once options.users row value None (Some s) judged judged'))
  finding_once value a b (right of judged remark) (right of' judged' remark') =
      remark_once row.instead row.old options.canonical row.kind value a b remark remark'
