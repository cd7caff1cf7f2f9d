-- How the steps of a run compose; and every line has an outcome, and every input an output.
use Rattle.std.proofs.Common.{length, Result, Ok, Err, IfErr, ◌+◌, take, drop, take-append-drop, ◌≡◌, ℕ, inl}
use Rattle.std.proofs.Common.{inr, Some, None, List, [], ◌∷◌, ◌++◌, ◌&&◌, Bool, true, Option, refl, sym, ap}
use Rattle.std.proofs.Common.{◌∙◌, append_assoc, append-nil, subst}
use Rattle.std.specs.List.{AllByRecursion, AllZip}
use Rattle.std.specs.Result.{IsErrAnd}
use Rattle.std.specs.Io.KnownBytes.{Appends}
use Rattle.std.proofs.Math.Bool.{and-true, and_assoc}
use Rattle.std.proofs.lemmas.List.Folds.{list_all-append}
use Rattle.std.proofs.lemmas.Grind.{flat_map-append}
use Rattle.std.proofs.lemmas.List.{nil_from_length}
use Rattle.std.proofs.lemmas.Bool.Decides.{eqb_tells}
use Rattle.config_text.specs.Value.{Normalizes}
use Rattle.gix_config_value.specs.declared.kind.Kind.{Kind}
use Rattle.gix_config_value.specs.Kinds.{kind_name, KindGrammar, KindCanonical}
use Rattle.gix_config_value.specs.declared.program.RunError.{RunError}
use Rattle.gix_config_value.specs.declared.program.RunError.TheVariants.{Write}
use Rattle.gix_config_value.specs.Answers.Outcome.{accepted, refused, unknown_kind}
use Rattle.config_text.specs.Bytes.{line_feed}
use Rattle.gix_config_value.specs.Answers.{Outcome, ended, IsUnbroken, line_head, line_value, LineOutcome}
use Rattle.gix_config_value.specs.Answers.{outcome_text, is_accepted, Answers, IsBeginningOfAnswers, IsCut}
use Rattle.gix_config_value.specs.Answers.{LinesAnswered, AnswersAllBut}
use Rattle.gix_config_value.specs.Reading.Steps.{CompletesLines, AnswersLast, CutsLine, OutputState}
use Rattle.gix_config_value.specs.Reading.Steps.{SendsBytes, SendsAnswer, AppendsAnswer, FailsSending}
use Rattle.gix_config_value.specs.Reading.Steps.{RunState, with_more, Advances, FailsWithin, AnswersUpTo}
use Rattle.gix_config_value.proofs.KindLemmas.{kind_told, kind_normalizes}
use Rattle.std.proofs.KnownBytes.{Appends-nil, Appends-trans}

-- ---- lists

pub AllByRecursion-append : {X : Type 0} (P : X → Type 0) (xs ys : List X) → AllByRecursion P xs
    → AllByRecursion P ys → AllByRecursion P (xs ++ ys)
AllByRecursion-append P [] ys p q = q
AllByRecursion-append P (x ∷ xs) ys p q = (p.0, AllByRecursion-append P xs ys p.1 q)

AllZip-append : {A B : Type 0} (R : A → B → Type 0) (xs : List A) (ys : List B) (vs : List A) (ws : List B)
    → AllZip R xs ys → AllZip R vs ws → AllZip R (xs ++ vs) (ys ++ ws)
AllZip-append R [] [] vs ws p q = q
AllZip-append R (x ∷ xs) (y ∷ ys) vs ws p q = (p.0, AllZip-append R xs ys vs ws p.1 q)
AllZip-append R xs ys vs ws p q = absurd p

-- ---- bytes taken

-- bytes without LF are appended to the line begun
pub CompletesLines-begun : (line front : List ℕ) (ok : Bool) → IsUnbroken front
    → CompletesLines line ok front (line ++ front) ok []
CompletesLines-begun line front ok unbroken = record {
  lines = [];
  outcomes = [];
  joined = refl;
  unbroken = λ _. tt;
  rest_unbroken = λ h. AllByRecursion-append _ line front h unbroken;
  each = tt;
  written = refl;
  all_accepted = sym (and-true ok);
}

pub CompletesLines-nil : (line : List ℕ) (ok : Bool) → CompletesLines line ok [] line ok []
CompletesLines-nil line ok = rw append-nil at (CompletesLines-begun line [] ok tt)

-- bytes with one LF, at their end, complete the line begun
pub CompletesLines-line : (line front : List ℕ) (ok : Bool) (outcome : Outcome) → IsUnbroken front
    → LineOutcome (line ++ front) outcome
    → CompletesLines line ok (ended front) [] (ok && is_accepted outcome) (outcome_text outcome)
CompletesLines-line line front ok outcome unbroken is = record {
  lines = (line ++ front) ∷ [];
  outcomes = outcome ∷ [];
  joined = simp (append_assoc, append-nil);
  unbroken = λ h. (AllByRecursion-append _ line front h unbroken, tt);
  rest_unbroken = λ _. tt;
  each = (is, tt);
  written = sym (append-nil _);
  all_accepted = ap (λ b. ok && b) (sym (and-true _));
}

pub CompletesLines-trans : {line p line' q line'' : List ℕ} {ok ok' ok'' : Bool} {first second : List ℕ}
    → CompletesLines line ok p line' ok' first → CompletesLines line' ok' q line'' ok'' second
    → CompletesLines line ok (p ++ q) line'' ok'' (first ++ second)
CompletesLines-trans {line} {p} {line'} {q} t u = record {
  lines = t.lines ++ u.lines;
  outcomes = t.outcomes ++ u.outcomes;
  joined = rw (← (append_assoc line p q), t.joined, append_assoc, u.joined, flat_map-append, append_assoc);
  unbroken = λ h. AllByRecursion-append _ t.lines u.lines (t.unbroken h) (u.unbroken (t.rest_unbroken h));
  rest_unbroken = λ h. u.rest_unbroken (t.rest_unbroken h);
  each = AllZip-append _ t.lines t.outcomes u.lines u.outcomes t.each u.each;
  written = rw (flat_map-append, t.written, u.written);
  all_accepted = rw (list_all-append, u.all_accepted, t.all_accepted, and_assoc);
}

-- ---- every line has an outcome, and any bytes complete some lines

pub line_decided : (line : List ℕ) → (outcome : Outcome) × LineOutcome line outcome
line_decided line = elim (kind_told (line_head line)) [
  | inr none ↦ (unknown_kind, none)
  | inl found ↦ given found (kind_normalizes found.0 (line_value line))
] where
  given : (found : (kind : Kind) × (kind_name kind ≡ line_head line))
      → (r : Option (List ℕ)) × Normalizes (KindGrammar found.0) (KindCanonical found.0) (line_value line) r
      → (outcome : Outcome) × LineOutcome line outcome
  given found (Some s, is) = (accepted s, (found.0, found.1, is))
  given found (None, is) = (refused, (found.0, found.1, is))

abbrev pub CompletesSome : List ℕ → Bool → List ℕ → Type 0
CompletesSome line ok bytes =
    (line' : List ℕ) × (ok' : Bool) × (output : List ℕ) × CompletesLines line ok bytes line' ok' output

-- any bytes complete some lines and leave some line begun
pub takes_any : (line : List ℕ) (ok : Bool) (bytes : List ℕ) → CompletesSome line ok bytes
takes_any line ok [] = (line, ok, [], CompletesLines-nil line ok)
takes_any line ok (b ∷ bs) = elim (eqb_tells b line_feed) [
  | inl at ↦
      let (outcome, is) = line_decided (line ++ []) in
      let (line', ok', output, t) = takes_any [] (ok && is_accepted outcome) bs in (
        line',
        ok',
        outcome_text outcome ++ output,
        rw at.1 (CompletesLines-trans (CompletesLines-line line [] ok outcome tt is) t),
      )
  | inr other ↦
      let (line', ok', output, t) = takes_any (line ++ b ∷ []) ok bs in
      (line', ok', output, CompletesLines-trans (CompletesLines-begun line (b ∷ []) ok (other.1, tt)) t)
]

pub last_any : (line : List ℕ) (ok : Bool) → (ok' : Bool) × (output : List ℕ) × AnswersLast line ok ok' output
last_any [] ok = (ok, [], (refl, refl))
last_any (b ∷ bs) ok =
    let o = line_decided (b ∷ bs) in (ok && is_accepted o.0, outcome_text o.0, (o.0, o.1, refl, refl))

-- ---- the answers to an input

pub cut_of : {input line output : List ℕ} {ok : Bool} (t : CompletesLines [] true input line ok output)
    → IsCut input t.lines line
cut_of t = record { joined = t.joined; unbroken = t.unbroken tt; rest_unbroken = t.rest_unbroken tt }

pub answered_of : {input line output : List ℕ} {ok : Bool} (t : CompletesLines [] true input line ok output)
    → LinesAnswered t.lines output ok
answered_of t =
    record { outcomes = t.outcomes; each = t.each; written = t.written; all_accepted = t.all_accepted }

-- the answers to the lines that an input completes, and then the answer to the last line
pub Answers-last : (input line output last : List ℕ) (ok ok' : Bool)
    → CompletesLines [] true input line ok output → AnswersLast line ok ok' last
    → Answers input (output ++ last) ok'
Answers-last input [] output last ok ok' t l =
    let answered : LinesAnswered t.lines (output ++ last) ok' = rw (l.0, append-nil, l.1) (answered_of t) in
    record { lines = t.lines; rest = []; cut = cut_of t; answered = answered }
Answers-last input (b ∷ bs) output last ok ok' t l = record {
  lines = t.lines;
  rest = b ∷ bs;
  cut = cut_of t;
  answered = record {
    outcomes = t.outcomes ++ l.0 ∷ [];
    each = AllZip-append _ t.lines t.outcomes _ _ t.each (l.1, tt);
    written = rw (flat_map-append, t.written, l.2, append-nil);
    all_accepted = rw (list_all-append, l.3, t.all_accepted, and-true);
  };
}

-- a beginning of the answers to the completed lines is a beginning of the answers to the input
pub begins : (input line output written missing : List ℕ) (ok : Bool)
    → CompletesLines [] true input line ok output → output ≡ written ++ missing
    → IsBeginningOfAnswers input written
begins input line output written missing ok t same = let last = last_any line ok in (
  output ++ last.1,
  last.0,
  Answers-last input line output last.1 ok last.0 t last.2,
  (missing ++ last.1, ap (λ x. x ++ last.1) same ∙ append_assoc written missing last.1),
)

-- the lines that a beginning of the input completes are all lines of the input except the last ones
pub all_but : (input left line line' output output' : List ℕ) (ok ok' : Bool)
    → CompletesLines [] true input line ok output → CompletesLines line ok left line' ok' output'
    → (more : List (List ℕ)) × AnswersAllBut more (input ++ left) output
unfolding CompletesLines-trans
all_but input left line line' output output' ok ok' t u = (
  u.lines,
  record {
    lines = t.lines;
    rest = line';
    ok = ok;
    cut = cut_of (CompletesLines-trans t u);
    answered = answered_of t;
  },
)

-- ---- what is sent

pub SendsBytes-nil : (a : OutputState) → SendsBytes a a []
SendsBytes-nil a = record {
  same_writer = refl;
  written = [];
  appended = Appends-nil a.held;
  in_order = append-nil a.waiting;
}

pub SendsBytes-trans : {a b c : OutputState} {o o' : List ℕ} → SendsBytes a b o → SendsBytes b c o'
    → SendsBytes a c (o ++ o')
SendsBytes-trans {a} {b} {c} {o} {o'} s t = record {
  same_writer = t.same_writer ∙ s.same_writer;
  written = s.written ++ t.written;
  appended = Appends-trans a.held b.held c.held s.written t.written s.appended t.appended;
  in_order = rw (
    ← (append_assoc a.waiting o o'),
    s.in_order,
    append_assoc s.written b.waiting o',
    t.in_order,
    append_assoc,
  );
}

-- a beginning of what waits is written
pub SendsBytes-write : (a b : OutputState) (held : Option (List ℕ)) (n : ℕ) → SendsBytes a b []
    → Appends b.held held (take n b.waiting)
    → SendsBytes a (record { writer = b.writer; held = held; waiting = drop n b.waiting }) []
SendsBytes-write a b held n s h = SendsBytes-trans s
    (record {
      same_writer = refl;
      written = take n b.waiting;
      appended = h;
      in_order = append-nil b.waiting ∙ sym (take-append-drop n b.waiting);
    })

-- if nothing waits before and after, all bytes sent are written
pub SendsBytes-all : (a b : OutputState) (bytes : List ℕ) → a.waiting ≡ [] → b.waiting ≡ []
    → SendsBytes a b bytes → Appends a.held b.held bytes
SendsBytes-all a b bytes first last s =
    let same : bytes ≡ s.written = rw (first, last, append-nil) at s.in_order in rw same s.appended

pub FailsSending-after : {a b c : OutputState} {o o' : List ℕ} {e : RunError} → SendsBytes a b o
    → FailsSending b c o' e → FailsSending a c (o ++ o') e
FailsSending-after s k =
    record { missing = k.missing; sends = SendsBytes-trans s k.sends; allowed = k.allowed }

-- the answer to a line is appended to what waits
pub SendsAnswer-appended : (line : List ℕ) (a b : OutputState) (waiting : List ℕ) (ok : Bool)
    → SendsBytes a b []
    → AppendsAnswer line b.waiting waiting ok → SendsAnswer line a (record b { waiting = waiting }) ok
SendsAnswer-appended line a b waiting ok s p = record {
  outcome = p.outcome;
  is = p.is;
  sends = SendsBytes-trans s
      (record { same_writer = refl; written = []; appended = Appends-nil b.held; in_order = sym p.puts });
  accepts = p.accepts;
}

-- nothing is left of what waited, and the buffer is cleared
pub SendsBytes-cleared : (a b : OutputState) (waiting : List ℕ) → SendsBytes a b [] → length b.waiting ≡ 0
    → waiting ≡ [] → SendsBytes a (record b { waiting = waiting }) []
SendsBytes-cleared a b waiting s none cleared = rw (cleared ∙ sym (nil_from_length b.waiting none)) s

-- a write fails, and what waits is missing
pub FailsSending-write : (a b after : OutputState) (bytes : List ℕ) → SendsBytes a b bytes
    → Appends b.held after.held [] → after.writer ≡ b.writer → FailsSending a after bytes Write
FailsSending-write a b after bytes s h same = record {
  missing = b.waiting;
  sends = record {
    same_writer = same ∙ s.same_writer;
    written = s.written ++ [];
    appended = Appends-trans a.held b.held after.held s.written [] s.appended h;
    in_order = s.in_order ∙ ap (λ x. x ++ b.waiting) (sym (append-nil s.written));
  };
  allowed = tt;
}

-- ---- bytes taken, and their answers sent

pub Advances-nil : (a : RunState) → Advances a a []
Advances-nil a = record {
  output = [];
  taken = CompletesLines-nil a.line a.accepted;
  sends = SendsBytes-nil a.to;
}

pub Advances-trans : {a b c : RunState} {p q : List ℕ} → Advances a b p → Advances b c q
    → Advances a c (p ++ q)
Advances-trans t u = record {
  output = t.output ++ u.output;
  taken = CompletesLines-trans t.taken u.taken;
  sends = SendsBytes-trans t.sends u.sends;
}

-- after the bytes were taken, a beginning of what waits is written
pub Advances-sent : (a b : RunState) (to : OutputState) (bytes : List ℕ) → Advances a b bytes
    → SendsBytes b.to to [] → Advances a (record b { to = to }) bytes
Advances-sent a b to bytes t s =
    record { output = t.output; taken = t.taken; sends = rw append-nil at (SendsBytes-trans t.sends s) }

-- bytes without LF are appended to the line begun, and nothing is answered
pub Advances-begun : (a b : RunState) (bytes : List ℕ) → IsUnbroken bytes → b ≡ with_more a bytes
    → Advances a b bytes
Advances-begun a b bytes unbroken gathered = rw gathered (record {
  output = [];
  taken = CompletesLines-begun a.line bytes a.accepted unbroken;
  sends = SendsBytes-nil a.to;
})

-- the line begun is completed by bytes up to an LF, and answered
pub Advances-line : (a : RunState) (front line : List ℕ) (to : OutputState) (accepts : Bool)
    → IsUnbroken front → SendsAnswer (a.line ++ front) a.to to accepts → line ≡ []
    → Advances a (record { line = line; accepted = a.accepted && accepts; to = to }) (ended front)
Advances-line a front line to accepts unbroken e none = record {
  output = outcome_text e.outcome;
  taken = rw (none, e.accepts) (CompletesLines-line a.line front a.accepted e.outcome unbroken e.is);
  sends = e.sends;
}

-- an error before any of the bytes completed a line
pub FailsWithin-first : (a : RunState) (after : OutputState) (bytes : List ℕ) (e : RunError)
    → FailsSending a.to after [] e → FailsWithin a after bytes e
FailsWithin-first a after bytes e k = record {
  done = [];
  left = bytes;
  split = refl;
  line = a.line;
  accepted = a.accepted;
  output = [];
  taken = CompletesLines-nil a.line a.accepted;
  breaks = k;
}

-- an error after some of the bytes were taken
pub FailsWithin-after : {a b : RunState} {after : OutputState} {p q : List ℕ} {e : RunError} → Advances a b p
    → FailsWithin b after q e → FailsWithin a after (p ++ q) e
FailsWithin-after t s = record {
  done = _ ++ s.done;
  left = s.left;
  split = rw (s.split, append_assoc);
  line = s.line;
  accepted = s.accepted;
  output = t.output ++ s.output;
  taken = CompletesLines-trans t.taken s.taken;
  breaks = FailsSending-after t.sends s.breaks;
}

-- an error after all of the bytes were taken
pub FailsWithin-whole : (a b : RunState) (after : OutputState) (bytes : List ℕ) (e : RunError)
    → Advances a b bytes → FailsSending b.to after [] e → FailsWithin a after bytes e
FailsWithin-whole a b after bytes e t k =
    rw append-nil at (FailsWithin-after t (FailsWithin-first b after [] e k))

-- ---- the parts of a read

pub AnswersUpTo-start : (a : RunState) (bytes : List ℕ) → a.line ≡ [] → AnswersUpTo a a bytes bytes
AnswersUpTo-start a bytes none = record { done = []; split = refl; advances = Advances-nil a; none = none }

pub AnswersUpTo-more : (a b : RunState) (bytes rest : List ℕ) (place : ℕ) (to : OutputState) (accepts : Bool)
    → AnswersUpTo a b bytes rest → CutsLine rest place
    → SendsAnswer (take place rest) b.to to accepts
    → AnswersUpTo a (record { line = b.line; accepted = b.accepted && accepts; to = to }) bytes
    (drop (place + 1) rest)
AnswersUpTo-more a b bytes rest place to accepts t cut e = record {
  done = t.done ++ ended (take place rest);
  split = t.split ∙ ap (λ x. t.done ++ x) cut.parts ∙ sym (append_assoc t.done _ _);
  advances = Advances-trans t.advances
      (Advances-line b (take place rest) b.line to accepts cut.unbroken (rw t.none e) t.none);
  none = t.none;
}

-- an error after the bytes before the rest were taken
pub FailsWithin-in_lines : (a b : RunState) (bytes rest : List ℕ) (after : OutputState) (e : RunError)
    → AnswersUpTo a b bytes rest → FailsSending b.to after [] e
    → FailsWithin a after bytes e
FailsWithin-in_lines a b bytes rest after e t k =
    rw t.split (FailsWithin-after t.advances (FailsWithin-first b after rest e k))

-- the bytes before the rest were taken, and the rest is gathered
pub Advances-lines : (a b c : RunState) (bytes rest : List ℕ) → AnswersUpTo a b bytes rest → IsUnbroken rest
    → c ≡ with_more b rest → Advances a c bytes
Advances-lines a b c bytes rest t unbroken gathered =
    rw t.split (Advances-trans t.advances (Advances-begun b c rest unbroken gathered))

-- the line begun is gathered up to an LF, and answered
pub Advances-completed : (a b : RunState) (front line : List ℕ) (to : OutputState) (accepts : Bool)
    → IsUnbroken front → b ≡ with_more a front
    → SendsAnswer b.line b.to to accepts → line ≡ []
    → Advances a (record { line = line; accepted = b.accepted && accepts; to = to }) (ended front)
Advances-completed a b front line to accepts unbroken gathered e none =
    rw gathered (Advances-line a front line to accepts unbroken (rw gathered at e) none)

-- ---- a call that may fail

-- what holds for an error holds for the result in which `?` passes it on
pub passed_on : {T : Type 0} (r : Result T RunError) (e : RunError) (P : RunError → Type 0)
    → IsErrAnd r (λ x. x ≡ e) → P e → IfErr r P
passed_on (Ok x) e P is p = tt
passed_on (Err x) e P is p = subst P (sym is) p

module _ (a b : RunState) (bytes : List ℕ) (place : ℕ) (cut : CutsLine bytes place)
    (t : Advances a b (ended (take place bytes))) where
  -- the line begun ends at the first LF, and the bytes after it are taken
  pub taken_after : (c : RunState) → Advances b c (drop (place + 1) bytes) → Advances a c bytes
  taken_after c u = rw cut.parts (Advances-trans t u)

  pub stopped_after : (after : OutputState) (e : RunError) → FailsWithin b after (drop (place + 1) bytes) e
      → FailsWithin a after bytes e
  stopped_after after e s = rw cut.parts (FailsWithin-after t s)
