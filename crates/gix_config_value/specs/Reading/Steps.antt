-- What the parts of a run do, for the contracts of its private functions.
--
-- The line begun is the beginning of a line whose LF is not yet read. The answers to the lines before it wait
-- in a buffer until they are written.
use Rattle.std.specs.Prelude.{◌≡◌, ℕ, ◌+◌, List, [], ◌∷◌, ◌++◌, take, drop, flat_map, Bool, true, ◌&&◌}
use Rattle.std.specs.Prelude.{Option}
use Rattle.std.specs.List.{AllByRecursion, AllZip, list_all}
use Rattle.std.specs.Io.KnownBytes.{Appends, Consumes}
use Rattle.std.specs.Borrow.{GName}
use Rattle.gix_config_value.specs.declared.program.RunError.{RunError}
use Rattle.gix_config_value.specs.declared.program.RunError.TheVariants.{Read, Write, Memory}
use Rattle.gix_config_value.specs.declared.program.Output.{Output}
use Rattle.gix_config_value.specs.declared.program.Progress.{Progress}
use Rattle.gix_config_value.specs.Answers.{Outcome, ended, IsUnbroken, LineOutcome, outcome_text, is_accepted}

-- the first LF of the bytes is at index `i`
pub record CutsLine (bytes : List ℕ) (i : ℕ) : Type 0 where
  pub parts : bytes ≡ ended (take i bytes) ++ drop (i + 1) bytes
  pub unbroken : IsUnbroken (take i bytes)

-- after the line begun `line`, the bytes complete lines whose answers are the output, and then `line'` is
-- begun; `ok` and `ok'` say whether each line was accepted, before and after the bytes
pub record CompletesLines (line : List ℕ) (ok : Bool) (bytes line' : List ℕ) (ok' : Bool)
    (output : List ℕ) : Type 0 where
  pub lines : List (List ℕ)
  pub outcomes : List Outcome
  pub joined : line ++ bytes ≡ flat_map ended lines ++ line'
  pub unbroken : IsUnbroken line → AllByRecursion IsUnbroken lines
  pub rest_unbroken : IsUnbroken line → IsUnbroken line'
  pub each : AllZip LineOutcome lines outcomes
  pub written : output ≡ flat_map outcome_text outcomes
  pub all_accepted : ok' ≡ (ok && list_all is_accepted outcomes)

-- the line begun is answered as the last line, unless it is empty
abbrev pub AnswersLast : List ℕ → Bool → Bool → List ℕ → Type 0
AnswersLast [] ok ok' output = (output ≡ []) × (ok' ≡ ok)
AnswersLast (b ∷ bs) ok ok' output = (outcome : Outcome) × LineOutcome (b ∷ bs) outcome
    × (output ≡ outcome_text outcome)
    × (ok' ≡ (ok && is_accepted outcome))

-- ---- what is sent

-- the state of an output: its writer, the contents of that if they are known, and the answers that wait
pub record OutputState : Type 0 where
  pub writer : GName
  pub held : Option (List ℕ)
  pub waiting : List ℕ

-- the state of this output
abbrev pub output_state : {W : Type 0} → (W → Option (List ℕ)) → Output W → OutputState
output_state contents o = record {
  writer = o.writer.ghost_name;
  held = contents o.writer.now;
  waiting = o.waiting.bytes;
}

-- the bytes were appended to what waits, and a beginning of the whole was written to the same writer; the
-- others still wait
pub record SendsBytes (before after : OutputState) (bytes : List ℕ) : Type 0 where
  pub same_writer : after.writer ≡ before.writer
  pub written : List ℕ
  pub appended : Appends before.held after.held written
  pub in_order : before.waiting ++ bytes ≡ written ++ after.waiting

-- the answer to a line was appended, and `ok` says whether the line is accepted
pub record AppendsAnswer (line before after : List ℕ) (ok : Bool) : Type 0 where
  pub outcome : Outcome
  pub is : LineOutcome line outcome
  pub puts : after ≡ before ++ outcome_text outcome
  pub accepts : ok ≡ is_accepted outcome

-- the answer to a line was sent, and `ok` says whether the line is accepted
pub record SendsAnswer (line : List ℕ) (before after : OutputState) (ok : Bool) : Type 0 where
  pub outcome : Outcome
  pub is : LineOutcome line outcome
  pub sends : SendsBytes before after (outcome_text outcome)
  pub accepts : ok ≡ is_accepted outcome

-- what may be missing after an error in sending: any bytes after `Write`, and nothing after `Memory`; `Read`
-- is not such an error
abbrev pub MayMiss : RunError → List ℕ → Type 0
MayMiss Read missing = ⊥
MayMiss Write missing = Unit {0}
MayMiss (Memory e) missing = missing ≡ []

-- an error while bytes were sent: what waited and the bytes are written, except the missing last ones
pub record FailsSending (before after : OutputState) (bytes : List ℕ) (e : RunError) : Type 0 where
  pub missing : List ℕ
  pub sends : SendsBytes before (record after { waiting = missing }) bytes
  pub allowed : MayMiss e missing

-- ---- the state of a run

-- the state of a run: the line begun, whether each line before it was accepted, and the state of its output
pub record RunState : Type 0 where
  pub line : List ℕ
  pub accepted : Bool
  pub to : OutputState

-- the state of this run
abbrev pub run_state : {W : Type 0} → (W → Option (List ℕ)) → Progress → Output W → RunState
run_state contents p o = record {
  line = p.line.items;
  accepted = p.all_accepted;
  to = output_state contents o;
}

-- the state of a run after these bytes were appended to the line begun
abbrev pub with_more : RunState → List ℕ → RunState
with_more g bytes = record g { line = g.line ++ bytes }

-- the bytes were taken, and the answers to the lines that they complete were sent
pub record Advances (before after : RunState) (bytes : List ℕ) : Type 0 where
  pub output : List ℕ
  pub taken : CompletesLines before.line before.accepted bytes after.line after.accepted output
  pub sends : SendsBytes before.to after.to output

-- an error after the first bytes, `done`, were taken: a beginning of the answers to the lines that these
-- bytes complete is written
pub record FailsWithin (before : RunState) (after : OutputState) (bytes : List ℕ)
    (e : RunError) : Type 0 where
  pub done : List ℕ
  pub left : List ℕ
  pub split : bytes ≡ done ++ left
  pub line : List ℕ
  pub accepted : Bool
  pub output : List ℕ
  pub taken : CompletesLines before.line before.accepted done line accepted output
  pub breaks : FailsSending before.to after output e

-- the bytes before the rest were taken, and no line is begun after them
pub record AnswersUpTo (before after : RunState) (bytes rest : List ℕ) : Type 0 where
  pub done : List ℕ
  pub split : bytes ≡ done ++ rest
  pub advances : Advances before after done
  pub none : after.line ≡ []

-- the end of the input: the line begun is answered, unless it is empty, and all answers are written
pub record EndsAnswered (before : RunState) (after : OutputState) (ok : Bool) : Type 0 where
  pub last : List ℕ
  pub answered : AnswersLast before.line before.accepted ok last
  pub sends : SendsBytes before.to after last
  pub empty : after.waiting ≡ []

-- a write error at the end of the input: a beginning of the answers that were left is written
pub record EndsEarly (before : RunState) (after : OutputState) (e : RunError) : Type 0 where
  pub last : List ℕ
  pub ok : Bool
  pub answered : AnswersLast before.line before.accepted ok last
  pub breaks : FailsSending before.to after last e
  pub is_write : e ≡ Write

-- the start of a run: no line is begun, and nothing waits
abbrev pub start : GName → Option (List ℕ) → RunState
start writer held = record {
  line = [];
  accepted = true;
  to = record { writer = writer; held = held; waiting = [] };
}

-- a run since its start: some input was read, and the answers to the lines that it completes are written
pub record HasAnswered (unread left : Option (List ℕ)) (before after : RunState) : Type 0 where
  pub input : List ℕ
  pub consumed : Consumes unread left input
  pub advances : Advances before after input
  pub empty : after.to.waiting ≡ []
