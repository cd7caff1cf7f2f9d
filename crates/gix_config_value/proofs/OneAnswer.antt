-- Each line has one outcome, and each input one output.
use Rattle.std.proofs.Common.{◌≡◌, ◌≢◌, ℕ, inl, inr, List, [], ◌∷◌, ◌++◌, Bool, true, Some, refl, sym, ap}
use Rattle.std.proofs.Common.{subst, ◌∙◌, flat_map, append_assoc, append-nil}
use Rattle.std.specs.List.{AllByRecursion, AllZip, list_all}
use Rattle.gix_config_value.specs.declared.kind.Kind.{Kind}
use Rattle.gix_config_value.specs.declared.program.RunError.{RunError}
use Rattle.gix_config_value.specs.declared.program.RunError.TheVariants.{Read, Write, Memory}
use Rattle.gix_config_value.specs.Kinds.{kind_name, KindGrammar, KindCanonical}
use Rattle.gix_config_value.specs.Answers.{Outcome, ended, IsUnbroken, IsCut, counted_lines, line_value}
use Rattle.gix_config_value.specs.Answers.{LineOutcome, outcome_text, is_accepted, LinesAnswered, Answers}
use Rattle.gix_config_value.specs.Answers.{IsBeginningOfAnswers, AnswersAllBut, AnswersLines}
use Rattle.gix_config_value.specs.Answers.{OneBegins, AgreeAfter}
use Rattle.gix_config_value.specs.Answers.Outcome.{accepted, refused, unknown_kind}
use Rattle.gix_config_value.proofs.StepLemmas.{takes_any, last_any, Answers-last}
use Rattle.config_text.specs.Bytes.{line_feed}
use Rattle.config_text.specs.Value.{IsRefused, Normalizes}

-- ---- the outcome of a line

-- no text is normalized to two texts
pub text_once : {V : Type 0} (grammar : List ℕ → V → Type 0) (canonical : List ℕ → Type 0) (t r s : List ℕ)
    → Normalizes grammar canonical t (Some r) → Normalizes grammar canonical t (Some s) → r ≡ s
text_once grammar canonical t r s a b =
    b.1.only_text r a.1.text.canonical_text
    (subst (grammar r) (b.1.one_value a.0 a.1.derived) a.1.text.reads_to)

pub line_outcome : ((k l : Kind) → kind_name k ≡ kind_name l → k ≡ l) → (line : List ℕ) (a b : Outcome)
    → LineOutcome line a → LineOutcome line b → a ≡ b
line_outcome one_name line (accepted r) (accepted s) a b =
    ap accepted (text_once (KindGrammar a.0) (KindCanonical a.0) (line_value line) r s a.2
    (subst (λ k. Normalizes (KindGrammar k) (KindCanonical k) (line_value line) (Some s))
    (one_name b.0 a.0 (b.1 ∙ sym a.1)) b.2))
line_outcome one_name line (accepted r) refused a b =
    absurd (subst (λ k. IsRefused (KindGrammar k) (line_value line)) (one_name b.0 a.0 (b.1 ∙ sym a.1)) b.2
    a.2.0 a.2.1.derived)
line_outcome one_name line refused (accepted s) a b =
    absurd (subst (λ k. IsRefused (KindGrammar k) (line_value line)) (one_name a.0 b.0 (a.1 ∙ sym b.1)) a.2
    b.2.0 b.2.1.derived)
line_outcome one_name line refused refused a b = refl
line_outcome one_name line unknown_kind unknown_kind a b = refl
line_outcome one_name line unknown_kind o a b = absurd (a b.0 b.1)
line_outcome one_name line o unknown_kind a b = absurd (b a.0 a.1)

-- ---- the lines of an input

-- a text that has the byte is not a text without it
pub not_within : (byte : ℕ) (a b : List ℕ) → ¬ (AllByRecursion (λ c. c ≢ byte) (a ++ byte ∷ b))
not_within byte [] b without = without.0 refl
not_within byte (c ∷ a) b without = not_within byte a b without.1

-- a text has only one part before the first such byte, and only one part after it
pub first_cut : (byte : ℕ) (a b x y : List ℕ) → AllByRecursion (λ c. c ≢ byte) a
    → AllByRecursion (λ c. c ≢ byte) b → a ++ byte ∷ x ≡ b ++ byte ∷ y → (a ≡ b) × (x ≡ y)
first_cut byte [] [] x y u w e = (refl, cc)
first_cut byte [] (c ∷ b) x y u w e = absurd (w.0 (cc))
first_cut byte (c ∷ a) [] x y u w e = absurd (u.0 (cc))
first_cut byte (c ∷ a) (d ∷ b) x y u w e =
    let rest = first_cut byte a b x y u.1 w.1 (cc) in (let same = rest.0 in cc, rest.1)

regroup : (line x y : List ℕ) → (ended line ++ x) ++ y ≡ line ++ line_feed ∷ (x ++ y)
regroup line x y = append_assoc (ended line) x y ∙ append_assoc line (line_feed ∷ []) (x ++ y)

one_cut : (lines lines' : List (List ℕ)) (rest rest' : List ℕ)
    → flat_map ended lines ++ rest ≡ flat_map ended lines' ++ rest'
    → AllByRecursion IsUnbroken lines → AllByRecursion IsUnbroken lines' → IsUnbroken rest → IsUnbroken rest'
    → (lines ≡ lines') × (rest ≡ rest')
one_cut [] [] rest rest' e u w s t = (refl, e)
one_cut [] (l ∷ ls) rest rest' e u w s t =
    absurd (not_within line_feed l (flat_map ended ls ++ rest')
    (subst IsUnbroken (e ∙ regroup l (flat_map ended ls) rest') s))
one_cut (l ∷ ls) [] rest rest' e u w s t =
    absurd (not_within line_feed l (flat_map ended ls ++ rest)
    (subst IsUnbroken (sym e ∙ regroup l (flat_map ended ls) rest) t))
one_cut (l ∷ ls) (m ∷ ms) rest rest' e u w s t =
    let first = first_cut line_feed l m (flat_map ended ls ++ rest) (flat_map ended ms ++ rest') u.0 w.0
    (sym (regroup l (flat_map ended ls) rest) ∙ e ∙ regroup m (flat_map ended ms) rest') in
    let others = one_cut ls ms rest rest' first.1 u.1 w.1 s t in
    (let same = first.0 in let more = others.0 in cc, others.1)

-- ---- the output

pub any_output : (input : List ℕ) → (output : List ℕ) × (ok : Bool) × Answers input output ok
any_output input =
    let taken = takes_any [] true input in let last = last_any taken.0 taken.1 in
    (taken.2 ++ last.1, last.0, Answers-last input taken.0 taken.2 last.1 taken.1 last.0 taken.3 last.2)

-- of two beginnings of a text, one begins with the other
pub begin_each_other : (a b m n : List ℕ) → a ++ m ≡ b ++ n → OneBegins a b
begin_each_other [] b m n e = inl (b, refl)
begin_each_other (c ∷ a) [] m n e = inr (c ∷ a, refl)
begin_each_other (c ∷ a) (d ∷ b) m n e = elim (begin_each_other a b m n (cc)) [
  | inl longer ↦ inl (longer.0, let is = longer.1 in cc)
  | inr shorter ↦ inr (shorter.0, let is = shorter.1 in cc)
]

module _ (one : (line : List ℕ) (a b : Outcome) → LineOutcome line a → LineOutcome line b → a ≡ b) where
  one_each : (lines : List (List ℕ)) (os ps : List Outcome) → AllZip LineOutcome lines os
      → AllZip LineOutcome lines ps → os ≡ ps
  one_each [] [] [] a b = refl
  one_each (l ∷ ls) (o ∷ os) (p ∷ ps) a b =
      let first = one l o p a.0 b.0 in let others = one_each ls os ps a.1 b.1 in cc
  one_each lines os ps a b = absurd (search)

  lines_answered : (lines : List (List ℕ)) (o p : List ℕ) (x y : Bool) → LinesAnswered lines o x
      → LinesAnswered lines p y → (o ≡ p) × (x ≡ y)
  lines_answered lines o p x y a b =
      let same = one_each lines a.outcomes b.outcomes a.each b.each in (
        a.written ∙ ap (flat_map outcome_text) same ∙ sym b.written,
        a.all_accepted ∙ ap (list_all is_accepted) same ∙ sym b.all_accepted,
      )

  cut_once : (input : List ℕ) (lines lines' : List (List ℕ)) (rest rest' : List ℕ) → IsCut input lines rest
      → IsCut input lines' rest' → (lines ≡ lines') × (rest ≡ rest')
  cut_once input lines lines' rest rest' a b =
      one_cut lines lines' rest rest' (sym a.joined ∙ b.joined) a.unbroken b.unbroken a.rest_unbroken
      b.rest_unbroken

  pub input_output : (input o p : List ℕ) (x y : Bool) → Answers input o x → Answers input p y
      → (o ≡ p) × (x ≡ y)
  input_output input o p x y a b =
      let cut = cut_once input a.lines b.lines a.rest b.rest a.cut b.cut in
      lines_answered (counted_lines a.lines a.rest) o p x y a.answered
      (subst (λ lines. LinesAnswered (counted_lines lines a.rest) p y) (sym cut.0)
      (subst (λ rest. LinesAnswered (counted_lines b.lines rest) p y) (sym cut.1) b.answered))

  after_read : (input o p : List ℕ) → AnswersAllBut [] input o → AnswersAllBut [] input p → o ≡ p
  after_read input o p a b =
      let cut = cut_once input (a.lines ++ []) (b.lines ++ []) a.rest b.rest a.cut b.cut in
      let same : b.lines ≡ a.lines = sym (append-nil b.lines) ∙ sym cut.0 ∙ append-nil a.lines in
      (lines_answered a.lines o p a.ok b.ok a.answered
      (subst (λ lines. LinesAnswered lines p b.ok) same b.answered)).0

  beginnings : (input o p : List ℕ) → IsBeginningOfAnswers input o → IsBeginningOfAnswers input p
      → OneBegins o p
  beginnings input o p a b = begin_each_other o p a.3.0 b.3.0
      (sym a.3.1 ∙ (input_output input a.0 b.0 a.1 b.1 a.2 b.2).0 ∙ b.3.1)

  pub agree_after : (e : RunError) (input o p : List ℕ) → IsBeginningOfAnswers input o
      → IsBeginningOfAnswers input p → AnswersLines e input o → AnswersLines e input p → AgreeAfter e o p
  agree_after Read input o p a b x y = after_read input o p x y
  agree_after Write input o p a b x y = beginnings input o p a b
  agree_after (Memory e) input o p a b x y = beginnings input o p a b
