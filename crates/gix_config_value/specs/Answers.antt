-- What the program writes for its input.
--
-- The input is cut into lines at LF. Each line has one outcome, and the output is the texts of the outcomes,
-- in order.
use Rattle.std.specs.Prelude.{◌≡◌, ◌≢◌, ◌⊎◌, ℕ, ◌==◌, List, [], ◌∷◌, ◌++◌, flat_map, Bool, true, false}
use Rattle.std.specs.Prelude.{codes, Option, None, Some, Result, Ok, Err}
use Rattle.std.specs.List.{AllByRecursion, AllZip, list_all, before_first, after_first}
use Rattle.std.specs.Io.KnownBytes.{Consumes, Appends, IsAtEnd}
use Rattle.gix_config_value.specs.declared.kind.Kind.{Kind}
use Rattle.gix_config_value.specs.declared.program.RunError.{RunError}
use Rattle.gix_config_value.specs.declared.program.RunError.TheVariants.{Read, Write, Memory}
use Rattle.gix_config_value.specs.Kinds.{kind_name, KindGrammar, KindCanonical}
use Rattle.config_text.specs.Bytes.{line_feed, space}
use Rattle.config_text.specs.Value.{Normalizes}

-- ---- lines

-- a line with the LF that ends it
abbrev pub ended : List ℕ → List ℕ
ended line = line ++ line_feed ∷ []

-- the line has no LF
abbrev pub IsUnbroken : List ℕ → Type 0
IsUnbroken line = AllByRecursion (λ b. b ≢ line_feed) line

-- the input consists of these lines, each ended by LF, and of a rest; neither a line nor the rest has an LF
pub record IsCut (input : List ℕ) (lines : List (List ℕ)) (rest : List ℕ) : Type 0 where
  pub joined : input ≡ flat_map ended lines ++ rest
  pub unbroken : AllByRecursion IsUnbroken lines
  pub rest_unbroken : IsUnbroken rest

-- the lines that are answered: the rest after the last LF is one of them if it is not empty
abbrev pub counted_lines : List (List ℕ) → List ℕ → List (List ℕ)
counted_lines lines [] = lines
counted_lines lines (b ∷ bs) = lines ++ (b ∷ bs) ∷ []

-- what comes before the first space, or the whole line if there is none
abbrev pub line_head : List ℕ → List ℕ
line_head line = before_first (λ b. b == space) line

-- what follows the first space, or nothing if there is none
abbrev pub line_value : List ℕ → List ℕ
line_value line = after_first (λ b. b == space) line

-- ---- the outcome of a line

-- the outcome of a line: accepted with a canonical text, refused, or of an unknown kind
pub data Outcome : Type 0 where
  accepted : (s : List ℕ) → Outcome
  refused : Outcome
  unknown_kind : Outcome

-- the head of the line names a kind, whose normalizer returns `text` for the line's text (`None`: refused)
abbrev pub NormalizesLine : List ℕ → Option (List ℕ) → Type 0
NormalizesLine line text = (kind : Kind) × (kind_name kind ≡ line_head line)
    × Normalizes (KindGrammar kind) (KindCanonical kind) (line_value line) text

-- accepted with the canonical text of the line's text, refused if the kind's grammar gives the text no value,
-- and of an unknown kind if the head of the line is not the name of a kind
abbrev pub LineOutcome : List ℕ → Outcome → Type 0
LineOutcome line (accepted s) = NormalizesLine line (Some s)
LineOutcome line refused = NormalizesLine line None
LineOutcome line unknown_kind = (kind : Kind) → kind_name kind ≢ line_head line

-- the line that the program writes for an outcome
abbrev pub outcome_text : Outcome → List ℕ
outcome_text (accepted s) = ended (codes "ok " ++ s)
outcome_text refused = ended (codes "refused")
outcome_text unknown_kind = ended (codes "unknown kind")

-- whether a line was accepted
abbrev pub is_accepted : Outcome → Bool
is_accepted (accepted s) = true
is_accepted refused = false
is_accepted unknown_kind = false

-- ---- the answers to an input

-- each line has an outcome, the output is the texts of the outcomes in order, and `ok` is true exactly if
-- each line is accepted
pub record LinesAnswered (lines : List (List ℕ)) (output : List ℕ) (ok : Bool) : Type 0 where
  pub outcomes : List Outcome
  pub each : AllZip LineOutcome lines outcomes
  pub written : output ≡ flat_map outcome_text outcomes
  pub all_accepted : ok ≡ list_all is_accepted outcomes

-- the output is the answers to all lines of the input, and `ok` is true exactly if each line is accepted
pub record Answers (input output : List ℕ) (ok : Bool) : Type 0 where
  pub lines : List (List ℕ)
  pub rest : List ℕ
  pub cut : IsCut input lines rest
  pub answered : LinesAnswered (counted_lines lines rest) output ok

-- ---- what a run did to its reader and its writer

-- a run without an error: it read its reader, which had `unread` and then `left`, to the end, and it wrote
-- the answers to its writer, which held `held` and then `holds`
pub record Completes (unread left held holds : Option (List ℕ)) (ok : Bool) : Type 0 where
  pub input : List ℕ
  pub output : List ℕ
  pub consumed : Consumes unread left input
  pub at_end : IsAtEnd left
  pub appended : Appends held holds output
  pub answers : Answers input output ok

-- the answers to the input begin with the output
abbrev pub IsBeginningOfAnswers : List ℕ → List ℕ → Type 0
IsBeginningOfAnswers input output = (whole : List ℕ) × (ok : Bool) × Answers input whole ok
    × ((missing : List ℕ) × (whole ≡ output ++ missing))

-- the output is the answers to the lines of the input that end in LF, except the last ones, which are `more`
pub record AnswersAllBut (more : List (List ℕ)) (input output : List ℕ) : Type 0 where
  pub lines : List (List ℕ)
  pub rest : List ℕ
  pub ok : Bool
  pub cut : IsCut input (lines ++ more) rest
  pub answered : LinesAnswered lines output ok

-- which lines are answered after an error: after `Read` exactly those that were read with their LF, after
-- `Memory` a beginning of those, and after `Write` this says nothing
abbrev pub AnswersLines : RunError → List ℕ → List ℕ → Type 0
AnswersLines Read input output = AnswersAllBut [] input output
AnswersLines Write input output = Unit {0}
AnswersLines (Memory e) input output = (more : List (List ℕ)) × AnswersAllBut more input output

-- a run that ended with an error: what it wrote is a beginning of the answers to what it read
pub record Fails (unread left held holds : Option (List ℕ)) (e : RunError) : Type 0 where
  pub input : List ℕ
  pub output : List ℕ
  pub consumed : Consumes unread left input
  pub appended : Appends held holds output
  pub begins : IsBeginningOfAnswers input output
  pub lines : AnswersLines e input output

-- ---- two runs

-- one of two texts begins with the other
abbrev pub OneBegins : List ℕ → List ℕ → Type 0
OneBegins a b = ((more : List ℕ) × (b ≡ a ++ more)) ⊎ ((more : List ℕ) × (a ≡ b ++ more))

-- what two runs wrote, if both read the same input and ended with this error: the same after `Read`; after
-- another error one of them may have written more
abbrev pub AgreeAfter : RunError → List ℕ → List ℕ → Type 0
AgreeAfter Read a b = a ≡ b
AgreeAfter Write a b = OneBegins a b
AgreeAfter (Memory e) a b = OneBegins a b

-- ---- the exit status

-- 0 if every line was accepted, 1 if some line was not, and 2 after an error
abbrev pub status_of : Result Bool RunError → ℕ
status_of (Ok true) = 0
status_of (Ok false) = 1
status_of (Err e) = 2
