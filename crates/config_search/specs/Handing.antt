-- What a reading has handed on so far, and how it goes on.
--
-- Look for: where memory is refused, or what gets the entries fails, nothing is said.
use Rattle.std.specs.Prelude.{◌≡◌, ◌++◌, ℕ, List, [], Option, None, Some, Result, Ok, Err, true, ⊤, map, option_copied}
use Rattle.std.specs.Global.{Vec}
use Rattle.std.specs.List.{All}
use Rattle.config_file.specs.declared.errors.Stop.{Stop as Told}
use Rattle.config_search.specs.System.{System, AreTrueIn}
use Rattle.config_search.specs.Answers.{Answers}
use Rattle.config_search.specs.Folder.{AreAsked, Asked, DoesNotStop, Here, IsKnownBy, Reads as ReadsAll, These, start_by}
use Rattle.config_search.specs.Reading.{AreRightTexts, InRounds, IsAtDir, IsKept, IsOpening, text_of, texts_in}
use Rattle.config_search.specs.Reads.{At, End, ReadEntry, Stop, Tells, Text as TextOf, Whole, some_include}
use Rattle.config_search.specs.Receiving.{ReceivesEach}
use Rattle.config_search.specs.Shown.{file_of}
use Rattle.config_search.specs.declared.answer.Answer.{Answer}
use Rattle.config_search.specs.declared.answer.Outcome.{Outcome}
use Rattle.config_search.specs.declared.answer.Outcome.TheVariants as outcome
use Rattle.config_search.specs.declared.fact.Fact.{Fact}
use Rattle.config_search.specs.declared.fact.Pause.TheVariants.{Ask, Memory}
use Rattle.config_search.specs.declared.halt.Halt.{Halt}
use Rattle.config_search.specs.declared.halt.Halt.TheVariants.{Pauses, Stops, Fails}
use Rattle.config_search.specs.declared.known.Follows.{Follows}
use Rattle.config_search.specs.declared.reading.Reading.{Reading}
use Rattle.config_search.specs.declared.rounds.Rounds.{Rounds}
use Rattle.config_search.specs.declared.state.State.{State}
use Rattle.config_search.specs.declared.state.State.TheVariants.{Begins, Given, Opens, Reads, Ends, Lost}
use Rattle.config_search.specs.declared.texts.Opening.{Opening}
use Rattle.config_search.specs.declared.texts.Text.{Text}

abbrev pub given_of : Text → TextOf
given_of text = record { scope = text.scope; name = text.name.now; text = text.text.now; is_file = text.is_file }

-- What is known of what is read

-- texts are given, or none are, as it is asked
abbrev pub Fits : Asked → Option (List ℕ) → Type 0
Fits Here start = start ≡ None
Fits (These from texts) start = start ≡ Some from

-- if it is known what Git does in the folder, it is this
abbrev pub Knows : System → List ℕ → Option Answer → Type 0
Knows system folder None = ⊤
Knows system folder (Some answer) = Answers system folder answer

-- if it is known what Git does, it does not stop as it looks for the repository
abbrev pub GoesOnBy : Option Answer → Type 0
GoesOnBy None = ⊤
GoesOnBy (Some answer) = DoesNotStop answer.outcome

-- What has come

-- these texts are opened, and no other
abbrev pub IsOpenedOf : System → List ℕ → List TextOf → Opening → Type 0
IsOpenedOf system start texts opening = (map text_of opening.texts.list.items ≡ texts) × (opening.texts.stop ≡ None)
    × (opening.is_whole ≡ true) × All (IsAtDir system start) opening.texts.list.items

abbrev pub OpensAs : System → Asked → Option Answer → Opening → Type 0
OpensAs system Here (Some answer) opening =
    IsOpening system answer.folder.items (map file_of answer.files.items) opening
OpensAs system Here None opening = ⊥
OpensAs system (These start texts) answer opening = IsOpenedOf system start texts opening

-- the texts are all opened, and these entries of them are handed on
pub record IsReadingAt (system : System) (folder : List ℕ) (follows : Follows) (asked : Asked) (answer : Option Answer)
    (rounds : Rounds) (read : List ReadEntry) : Type 0 where
  pub opened : End
  pub are_asked : AreAsked system folder asked answer (texts_in rounds) opened
  pub are_right : AreRightTexts system (start_by asked answer) rounds opened
  pub is_known : some_include (texts_in rounds) ≡ true → IsKnownBy system folder follows answer rounds.known
  pub in_rounds : InRounds system (start_by asked answer) rounds opened read

-- in this state these entries are handed on
abbrev pub InState : System → List ℕ → Follows → Asked → Option Answer → State → List ReadEntry → Type 0
InState system folder follows asked answer Begins read = (read ≡ []) × (asked ≡ Here)
InState system folder follows asked answer (Given texts) read =
    (read ≡ []) × ((start : List ℕ) × (asked ≡ These start (map given_of texts.items)))
InState system folder follows asked answer (Opens opening) read = (read ≡ []) × OpensAs system asked answer opening
InState system folder follows asked answer (Reads rounds) read =
    IsReadingAt system folder follows asked answer rounds read
InState system folder follows asked answer Ends read = ReadsAll system folder follows asked answer read Whole
InState system folder follows asked answer Lost read = ⊤

-- no text is opened
abbrev pub IsUnopened : State → Type 0
IsUnopened Begins = ⊤
IsUnopened (Given texts) = ⊤
IsUnopened _ = ⊥

-- and none is where Git stops as it looks for the repository
abbrev pub StaysWhereStopped : Option Answer → State → Type 0
StaysWhereStopped answer state = ¬ (GoesOnBy answer) → IsUnopened state

-- these entries are handed on so far
abbrev pub IsAt : System → Asked → Reading → List ReadEntry → Type 0
IsAt system asked reading read = Fits asked (option_copied reading.start)
    × Knows system reading.search.folder reading.answer
    × InState system reading.search.folder reading.follows asked reading.answer reading.state read
    × StaysWhereStopped reading.answer reading.state

-- How it goes on

-- what is handed on in one state is so in the next
abbrev pub KeepsState : List Fact → Follows → Option (List ℕ) → Option Answer → State → State → Type 0
KeepsState facts follows start answer from to = (system : System) (folder : List ℕ) (asked : Asked)
    (read : List ReadEntry) → AreTrueIn system facts → Fits asked start → Knows system folder answer
    → GoesOnBy answer → InState system folder follows asked answer from read
    → InState system folder follows asked answer to read

-- the same stop
abbrev pub IsSame : Told (Vec ℕ) → Told (Vec ℕ) → Type 0
IsSame at told = (told.file.items ≡ at.file.items) × (told.line ≡ at.line) × (told.why ≡ at.why)
    × (told.words.items ≡ at.words.items)

-- what is read ends, or halts after these entries
abbrev pub EndsIn : System → List ℕ → Follows → Asked → Option Answer → List ReadEntry → State
    → Result (Unit {0}) Halt → Type 0
EndsIn system folder follows asked answer read state (Ok done) =
    (state ≡ Ends) × ReadsAll system folder follows asked answer read Whole
EndsIn system folder follows asked answer read state (Err (Stops told)) =
    (stop : Stop) × ReadsAll system folder follows asked answer read (At stop) × Tells stop told
EndsIn system folder follows asked answer read state (Err (Pauses (Ask question))) =
    InState system folder follows asked answer state read
EndsIn system folder follows asked answer read state (Err (Pauses (Memory error))) = ⊤
EndsIn system folder follows asked answer read state (Err (Fails error)) = ⊤

-- texts that are opened hand on what comes next
abbrev pub HandsRounds : {R : Type 0} → List Fact → List ℕ → (R → ReadEntry → R → Type 0) → Rounds → State → R → R
    → Result (Unit {0}) Halt → Type 0
HandsRounds facts start receives rounds to old new result = IsKept result →
    (more : List ReadEntry) × ReceivesEach receives old more new
    × ((system : System) (folder : List ℕ) (follows : Follows) (asked : Asked) (answer : Option Answer)
    (read : List ReadEntry) → AreTrueIn system facts → start ≡ start_by asked answer
    → IsReadingAt system folder follows asked answer rounds read
    → EndsIn system folder follows asked answer (read ++ more) to result)

-- a state hands on what comes next
abbrev pub HandsIn : {R : Type 0} → List Fact → Follows → Option (List ℕ) → Option Answer
    → (R → ReadEntry → R → Type 0) → State → State → R → R → Result (Unit {0}) Halt → Type 0
HandsIn facts follows start answer receives from to old new result = IsKept result →
    (more : List ReadEntry) × ReceivesEach receives old more new
    × ((system : System) (folder : List ℕ) (asked : Asked) (read : List ReadEntry) → AreTrueIn system facts
    → Fits asked start → Knows system folder answer → GoesOnBy answer
    → InState system folder follows asked answer from read
    → EndsIn system folder follows asked answer (read ++ more) to result)

-- Git stops as it looks for the repository
abbrev pub StopsAt : Outcome → Halt → Type 0
StopsAt (outcome.Stops at) (Stops told) = IsSame at told
StopsAt (outcome.Stops at) (Pauses (Ask question)) = ⊥
StopsAt (outcome.Stops at) (Pauses (Memory error)) = ⊤
StopsAt (outcome.Stops at) (Fails error) = ⊥
StopsAt _ halt = ⊥

abbrev pub StopsBy : Option Answer → Halt → Type 0
StopsBy None halt = ⊥
StopsBy (Some answer) halt = StopsAt answer.outcome halt

-- where Git stops: as it looks for the repository, or in what it reads
abbrev pub StopsWith : System → List ℕ → Follows → Asked → Option Answer → List ReadEntry → Told (Vec ℕ) → Type 0
StopsWith system folder follows asked answer read told = (GoesOnBy answer → (stop : Stop)
    × ReadsAll system folder follows asked answer read (At stop) × Tells stop told)
    × (¬ (GoesOnBy answer) → (read ≡ []) × StopsBy answer (Stops told))

-- a reading ends, or halts after these entries
abbrev pub EndsHere : System → Asked → Reading → List ReadEntry → Result (Unit {0}) Halt → Type 0
EndsHere system asked reading read (Ok done) =
    ReadsAll system reading.search.folder reading.follows asked reading.answer read Whole
EndsHere system asked reading read (Err (Stops told)) =
    StopsWith system reading.search.folder reading.follows asked reading.answer read told
EndsHere system asked reading read (Err (Pauses (Ask question))) = IsAt system asked reading read
EndsHere system asked reading read (Err (Pauses (Memory error))) = ⊤
EndsHere system asked reading read (Err (Fails error)) = ⊤

-- it hands on what comes next
abbrev pub HandsOn : {R : Type 0} → (R → ReadEntry → R → Type 0) → Reading → Reading → R → R
    → Result (Unit {0}) Halt → Type 0
HandsOn receives from to old new result = IsKept result →
    (more : List ReadEntry) × ReceivesEach receives old more new
    × ((system : System) (asked : Asked) (read : List ReadEntry) → AreTrueIn system from.search.facts
    → IsAt system asked from read → EndsHere system asked to (read ++ more) result)
