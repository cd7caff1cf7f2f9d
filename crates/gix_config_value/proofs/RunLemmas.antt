-- A run as a whole: how it goes on after a read, how it ends, and what holds if it stops with an error.
use Rattle.std.proofs.Common.{◌≡◌, ◌≢◌, ◌==◌, ℕ, ◌<◌, List, [], ◌∷◌, ◌++◌, ◌&&◌, length, take, Bool, true}
use Rattle.std.proofs.Common.{false, Option, refl, sym, ap, ◌∙◌, append_assoc, append-nil, subst}
use Rattle.std.specs.Io.KnownBytes.{Appends, Consumes, Keeps, IsAtEnd}
use Rattle.gix_config_value.specs.declared.program.RunError.{RunError}
use Rattle.gix_config_value.specs.declared.program.RunError.TheVariants.{Read, Write, Memory}
use Rattle.gix_config_value.specs.Answers.{Outcome, LineOutcome, outcome_text, is_accepted}
use Rattle.gix_config_value.specs.Answers.{IsBeginningOfAnswers, AnswersAllBut, AnswersLines, Completes}
use Rattle.gix_config_value.specs.Answers.{Fails}
use Rattle.gix_config_value.specs.Reading.Steps.{AnswersLast, MayMiss, OutputState, SendsBytes, SendsAnswer}
use Rattle.gix_config_value.specs.Reading.Steps.{FailsSending, RunState, Advances, FailsWithin, EndsAnswered}
use Rattle.gix_config_value.specs.Reading.Steps.{EndsEarly, start, HasAnswered}
use Rattle.std.proofs.KnownBytes.{Keeps-refl, Consumes-nil, Consumes-trans, Consumes-kept}
use Rattle.std.specs.Borrow.{GName}
use Rattle.gix_config_value.proofs.StepLemmas.{CompletesLines-trans, takes_any, last_any, Answers-last}
use Rattle.gix_config_value.proofs.StepLemmas.{begins, all_but, cut_of, answered_of, SendsBytes-trans}
use Rattle.gix_config_value.proofs.StepLemmas.{SendsBytes-all, FailsSending-after, Advances-nil}
use Rattle.gix_config_value.proofs.StepLemmas.{Advances-trans, Advances-sent, FailsWithin-after}
use Rattle.gix_config_value.proofs.StepLemmas.{FailsWithin-whole}

-- ---- the end of the input

pub AnswersLast-of : (line : List ℕ) (ok accepts : Bool) (outcome : Outcome) → line ≢ []
    → LineOutcome line outcome → accepts ≡ is_accepted outcome
    → AnswersLast line ok (ok && accepts) (outcome_text outcome)
AnswersLast-of [] ok accepts outcome some is accepted = absurd (some refl)
AnswersLast-of (b ∷ bs) ok accepts outcome some is accepted = (outcome, is, refl, ap (λ x. ok && x) accepted)

-- a line whose length is not 0 is not empty
pub some_line : (line : List ℕ) (n : ℕ) → length line ≡ n → (n == 0) ≡ false → line ≢ []
some_line line n counted some none =
    let e : (n == 0) ≡ true = ap (λ k. k == 0) (sym counted ∙ ap length none) in cc

-- an error before the last line is answered
pub EndsEarly-first : (a : RunState) (b : OutputState) (e : RunError) → FailsSending a.to b [] e → e ≡ Write
    → EndsEarly a b e
EndsEarly-first a b e k is_write = let last = last_any a.line a.accepted in record {
  last = last.1;
  ok = last.0;
  answered = last.2;
  breaks = record {
    missing = k.missing ++ last.1;
    sends = record {
      same_writer = k.sends.same_writer;
      written = k.sends.written;
      appended = k.sends.appended;
      in_order = rw (← append_assoc, ← k.sends.in_order, append-nil);
    };
    allowed = rw is_write tt;
  };
  is_write = is_write;
}

module _ (a : RunState) (b : OutputState) (accepts : Bool) (some : a.line ≢ [])
    (e : SendsAnswer a.line a.to b accepts) where
  pub EndsAnswered-line : (c : OutputState) → SendsBytes b c [] → c.waiting ≡ []
      → EndsAnswered a c (a.accepted && accepts)
  EndsAnswered-line c s empty = record {
    last = outcome_text e.outcome;
    answered = AnswersLast-of a.line a.accepted accepts e.outcome some e.is e.accepts;
    sends = rw append-nil at (SendsBytes-trans e.sends s);
    empty = empty;
  }

  pub EndsEarly-line : (c : OutputState) (error : RunError) → FailsSending b c [] error → error ≡ Write
      → EndsEarly a c error
  EndsEarly-line c error k is_write = record {
    last = outcome_text e.outcome;
    ok = a.accepted && accepts;
    answered = AnswersLast-of a.line a.accepted accepts e.outcome some e.is e.accepts;
    breaks = rw append-nil at (FailsSending-after e.sends k);
    is_write = is_write;
  }

-- a read that returns no byte into a buffer with room is at the end of the input
pub at_the_end : (left left' : Option (List ℕ)) (buf : List ℕ) (n : ℕ) → n ≡ 0 → 0 < length buf
    → Consumes left left' (take n buf) × (n ≡ 0 → 0 < length buf → IsAtEnd left')
    → Consumes left left' [] × IsAtEnd left'
at_the_end left left' buf n nothing room read =
    (rw nothing at read.0, read.1 nothing room)

-- which lines are answered after an error in the middle of the bytes of a read
lines_of : (e : RunError) (missing input output : List ℕ) → MayMiss e missing
    → (missing ≡ [] → (more : List (List ℕ)) × AnswersAllBut more input output)
    → AnswersLines e input output
lines_of Read missing input output may some_lines = absurd may
lines_of Write missing input output may some_lines = tt
lines_of (Memory e) missing input output may some_lines = some_lines may

-- ---- the steps of a run

module _ (unread held : Option (List ℕ)) (writer : GName) where
  pub HasAnswered-start : (line waiting : List ℕ) → line ≡ [] → waiting ≡ []
      → HasAnswered unread unread (start writer held)
      (record {
        line = line;
        accepted = true;
        to = record { writer = writer; held = held; waiting = waiting };
      })
  HasAnswered-start line waiting none empty = rw (none, empty)
      (record {
        input = [];
        consumed = Consumes-nil unread;
        advances = Advances-nil (start writer held);
        empty = refl;
      })

  -- an error in the middle of the input
  module _ (left : Option (List ℕ)) (after : OutputState) (input : List ℕ) (e : RunError)
      (read : Consumes unread left input)
      (s : FailsWithin (start writer held) after input e) where
    written : List ℕ
    written = s.breaks.sends.written

    missing : List ℕ
    missing = s.breaks.missing

    beginning : IsBeginningOfAnswers input written
    unfolding written missing
    beginning = let (line, ok, output, rest) = takes_any s.line s.accepted s.left in
        begins input line (s.output ++ output) written (missing ++ output) ok
        (rw s.split (CompletesLines-trans s.taken rest))
        (ap (λ x. x ++ output) s.breaks.sends.in_order ∙ append_assoc written missing output)

    some_lines : missing ≡ [] → (more : List (List ℕ)) × AnswersAllBut more input written
    unfolding written missing
    some_lines whole =
        let (line, ok, output, rest) = takes_any s.line s.accepted s.left in
        let (more, found) = all_but s.done s.left s.line line s.output output s.accepted ok s.taken rest in
        let same : s.output ≡ written =
        s.breaks.sends.in_order ∙ ap (λ x. written ++ x) whole ∙ append-nil written in
        (more, subst (AnswersAllBut more input) same (rw (sym s.split) at found))

    pub Fails-amid : Fails unread left held after.held e
    unfolding written missing
    Fails-amid = record {
      input = input;
      output = written;
      consumed = read;
      appended = s.breaks.sends.appended;
      begins = beginning;
      lines = lines_of e missing _ _ s.breaks.allowed some_lines;
    }

  module _ (left : Option (List ℕ)) (now : RunState)
      (g : HasAnswered unread left (start writer held) now) where
    written_all : Appends held now.to.held g.advances.output
    written_all = SendsBytes-all (start writer held).to now.to g.advances.output refl g.empty g.advances.sends

    -- the run goes on after a read whose lines are answered, and whose answers are written
    pub HasAnswered-on : (left' : Option (List ℕ)) (between : RunState) (after : OutputState) (bytes : List ℕ)
        → Consumes left left' bytes → Advances now between bytes
        → SendsBytes between.to after [] → after.waiting ≡ []
        → HasAnswered unread left' (start writer held) (record between { to = after })
    HasAnswered-on left' between after bytes read t s empty = record {
      input = g.input ++ bytes;
      consumed = Consumes-trans unread left left' g.input bytes g.consumed read;
      advances = Advances-trans g.advances (Advances-sent now between after bytes t s);
      empty = empty;
    }

    -- a read fails
    pub Fails-read : (left' : Option (List ℕ)) → Keeps left left' → Fails unread left' held now.to.held Read
    Fails-read left' kept = record {
      input = g.input;
      output = g.advances.output;
      consumed = Consumes-kept unread left left' g.input g.consumed kept;
      appended = written_all;
      begins = begins g.input now.line g.advances.output g.advances.output [] now.accepted g.advances.taken
          (sym (append-nil g.advances.output));
      lines = record {
        lines = g.advances.taken.lines;
        rest = now.line;
        ok = now.accepted;
        cut = rw append-nil (cut_of g.advances.taken);
        answered = answered_of g.advances.taken;
      };
    }

    -- the run has read as often as it may
    pub Fails-limit : Fails unread left held now.to.held Read
    Fails-limit = Fails-read left (Keeps-refl left)

    -- the input ends
    pub Completes-end : (left' : Option (List ℕ)) (after : OutputState) (ok : Bool)
        → Consumes left left' [] × IsAtEnd left' → EndsAnswered now after ok
        → Completes unread left' held after.held ok
    Completes-end left' after ok read e = record {
      input = g.input;
      output = g.advances.output ++ e.last;
      consumed = rw append-nil at (Consumes-trans unread left left' g.input [] g.consumed read.0);
      at_end = read.1;
      appended =
          SendsBytes-all _ after _ refl e.empty (SendsBytes-trans g.advances.sends e.sends);
      answers = Answers-last _ _ _ _ _ _ g.advances.taken e.answered;
    }

    -- an error at the end of the input
    pub Fails-end : (left' : Option (List ℕ)) (after : OutputState) (e : RunError)
        → Consumes left left' [] × IsAtEnd left' → EndsEarly now after e
        → Fails unread left' held after.held e
    Fails-end left' after e read end =
        let k = FailsSending-after g.advances.sends end.breaks in
        rw end.is_write (record {
          input = g.input;
          output = k.sends.written;
          consumed = rw append-nil at (Consumes-trans unread left left' g.input [] g.consumed read.0);
          appended = k.sends.appended;
          begins = (
            g.advances.output ++ end.last,
            end.ok,
            Answers-last _ _ _ _ _ _ g.advances.taken end.answered,
            (k.missing, k.sends.in_order),
          );
          lines = tt;
        })

    -- an error in the middle of the bytes of a read
    pub Fails-on : (left' : Option (List ℕ)) (after : OutputState) (bytes : List ℕ) (e : RunError)
        → Consumes left left' bytes → FailsWithin now after bytes e
        → Fails unread left' held after.held e
    Fails-on left' after bytes e read s = Fails-amid left' after (g.input ++ bytes) e
        (Consumes-trans unread left left' g.input bytes g.consumed read)
        (FailsWithin-after g.advances s)

    -- an error while the answers to the lines of a read were written
    pub Fails-unsent : (left' : Option (List ℕ)) (between : RunState) (after : OutputState) (bytes : List ℕ)
        (e : RunError) → Consumes left left' bytes
        → Advances now between bytes → FailsSending between.to after [] e
        → Fails unread left' held after.held e
    Fails-unsent left' between after bytes e read t k =
        Fails-on left' after bytes e read (FailsWithin-whole now between after bytes e t k)
