-- What a search has read so far of texts, and how it goes on.
--
-- Look for: an entry may wait, since no fact tells yet what the file holds that it includes. Where memory is refused, or
-- what gets the entries fails, nothing is said.
use Rattle.std.specs.Prelude.{◌≡◌, ◌≢◌, ◌≤◌, ◌&&◌, ◌||◌, ℕ, Bool, true, false, Decides, List, [], ◌∷◌, ◌++◌}
use Rattle.std.specs.Prelude.{Option, None, Some, Result, Ok, Err, ⊤, codes, map, take}
use Rattle.std.specs.List.{All, Any, slice_get}
use denote.Ref.{Bor}
use Rattle.std.specs.Global.{Box, Vec}
use Rattle.config_file.specs.Command.{AddsSettings, KeyValue}
use Rattle.config_file.specs.File.{Entry}
use Rattle.config_file.specs.Reading.Walks.{Passes, Takes}
use Rattle.config_file.specs.Settings.{found_item}
use Rattle.config_file.specs.Views.{entry_of}
use Rattle.config_file.specs.Walk.{Content}
use Rattle.config_file.specs.Walk as walk
use Rattle.config_file.specs.declared.errors.Stop.{Stop as Told}
use Rattle.config_file.specs.declared.errors.Why.{Why}
use Rattle.config_file.specs.declared.reader.Entries.{Entries}
use Rattle.config_file.specs.declared.scope.Scope.{Scope}
use Rattle.config_file.specs.declared.walk.FilePlace.{FilePlace}
use Rattle.config_file.specs.declared.walk.Frame.{Frame}
use Rattle.config_file.specs.declared.walk.Include.TheVariants.{Named as of_name}
use Rattle.config_file.specs.declared.walk.Known.{Known}
use Rattle.config_file.specs.declared.walk.Step.TheVariants as step
use Rattle.config_file.proofs.Coming.{Came}
use Rattle.config_search.specs.System.{System, AreTrueIn}
use Rattle.config_search.specs.Names.{opened}
use Rattle.config_search.specs.Command.{AreCounted, AreNumbered}
use Rattle.config_file.specs.declared.include.Urls.TheVariants.{Sought}
use Rattle.config_search.specs.Files.{File}
use Rattle.config_search.specs.Reads.{ReadEntry, Text, Stop, InFile, Unread, OfCommand, End, At, Whole}
use Rattle.config_search.specs.Reads.{AreOpened, AreTexts, AreUrls, HasUrlCondition, HoldsFor, IsDir}
use Rattle.config_search.specs.Reads.{IsRefused, IsUrlOf, ReadsAsGit, ReadsOpened, ReadsTexts, Tells}
use Rattle.config_search.specs.Reads.{WalksTo, is_as_git, knowing, one_if, some_include, with_scope}
use Rattle.config_search.specs.Receiving.{ReceivesEach}
use Rattle.config_search.specs.Answers.{RefusesIt}
use Rattle.config_search.specs.Owner.{IsOwn}
use Rattle.config_search.specs.Rule.{GitDir, IsGiven}
use Rattle.config_search.specs.Search.{Inside}
use Rattle.config_search.specs.Trust.{IsTrusted, SaysSafe}
use Rattle.config_search.specs.declared.TheConstants.{VARIABLE, REAL}
use Rattle.config_search.specs.declared.fact.Fact.{Fact}
use Rattle.config_search.specs.declared.fact.Pause.{Pause}
use Rattle.config_search.specs.declared.fact.Pause.TheVariants.{Ask, Memory}
use Rattle.config_search.specs.declared.halt.Halt.{Halt}
use Rattle.config_search.specs.declared.halt.Halt.TheVariants.{Pauses, Stops, Fails}
use Rattle.config_search.specs.declared.owner.Naming.{Naming}
use Rattle.config_search.specs.declared.owner.Weighed.{Weighed}
use Rattle.config_search.specs.declared.owner.Weighed.TheVariants as weighed
use Rattle.config_search.specs.declared.reader.Reader.{Reader}
use Rattle.config_search.specs.declared.reader.Source.{Source}
use Rattle.config_search.specs.declared.reader.Waits.{Waits}
use Rattle.config_search.specs.declared.command.Counted.{Counted}
use Rattle.config_search.specs.declared.rounds.Conditions.{Conditions}
use Rattle.config_search.specs.declared.rounds.Phase.{Phase}
use Rattle.config_search.specs.declared.rounds.Phase.TheVariants as phase
use Rattle.config_search.specs.declared.rounds.Remotes.{Remotes}
use Rattle.config_search.specs.declared.rounds.Round.{Round}
use Rattle.config_search.specs.declared.rounds.Rounds.{Rounds}
use Rattle.config_search.specs.declared.texts.Opening.{Opening}
use Rattle.config_search.specs.declared.texts.Texts.{Texts}

-- GIT_CONFIG_COUNT counts this many settings
abbrev pub IsCountIn : System → ℕ → Type 0
IsCountIn system count =
    (settings : List KeyValue) → AreNumbered system count settings → AreCounted system
    (system VARIABLE (codes "GIT_CONFIG_COUNT")) settings

-- the text has the first of the settings that GIT_CONFIG_COUNT counts
pub record IsCounting (system : System) (counted : Counted) : Type 0 where
  pub settings : List KeyValue
  pub adds : AddsSettings counted.text.items settings
  pub are : AreNumbered system counted.number settings
  pub within : counted.number ≤ counted.count
  pub is_count : IsCountIn system counted.count

-- How Git stops

-- the texts of a stop once more
abbrev pub IsCopy : Told (Bor (List ℕ)) → Told (Vec ℕ) → Type 0
IsCopy at told = (told.file.items ≡ at.file.now) × (told.line ≡ at.line) × (told.why ≡ at.why)
    × (told.words.items ≡ at.words.now)

abbrev pub StopsAs : Told (Bor (List ℕ)) → Halt → Type 0
StopsAs at (Stops told) = IsCopy at told
StopsAs at (Pauses pause) = ⊥
StopsAs at (Fails error) = ⊥

-- Git stops on this line of a file, for this reason
abbrev pub StopsHere : List ℕ → ℕ → Why → Halt → Type 0
StopsHere file line why (Stops told) = (told.file.items ≡ file) × (told.line ≡ line) × (told.why ≡ why)
StopsHere file line why (Pauses pause) = ⊥
StopsHere file line why (Fails error) = ⊥

-- if Git stops, it does so at the settings of the command
abbrev pub StopsCommand : Halt → Type 0
StopsCommand (Stops told) = Tells OfCommand told
StopsCommand (Pauses pause) = ⊤
StopsCommand (Fails error) = ⊤

-- memory is refused, or what gets the entries fails: what is read is lost
abbrev pub IsLost : Halt → Type 0
IsLost (Stops told) = ⊥
IsLost (Pauses (Ask question)) = ⊥
IsLost (Pauses (Memory error)) = ⊤
IsLost (Fails error) = ⊤

-- the pause of what does not stop Git, where what fails counts as memory
abbrev pub PausesAs : Halt → Pause → Type 0
PausesAs (Pauses pause) told = told ≡ pause
PausesAs (Fails error) (Memory told) = ⊤
PausesAs (Fails error) (Ask question) = ⊥
PausesAs (Stops told) pause = ⊥

-- what is read is not lost
abbrev pub IsKept : {A : Type 0} → Result A Halt → Type 0
IsKept (Ok value) = ⊤
IsKept (Err (Stops told)) = ⊤
IsKept (Err (Pauses (Ask question))) = ⊤
IsKept (Err (Pauses (Memory error))) = ⊥
IsKept (Err (Fails error)) = ⊥

-- One text

-- the last entry that is read includes the file of this name, and the walk has come behind it
pub record IsWaiting (contents : List ℕ → Content → Type 0) (known : Known) (source : Source)
    (found : List (List ℕ × Entry)) (waits : Waits) (frames : List Frame) : Type 0 where
  pub earlier : List Frame
  pub came : Came contents known source.place source.text.now earlier
  pub last : found ≡ came.found ++ (waits.place.name.now, entry_of waits.entry) ∷ []
  pub takes : (answers : List (List ℕ × Content))
      → Takes answers known earlier (step.Entry waits.place waits.entry (of_name waits.name)) frames

-- these entries are read of a source, up to these frames of its walk
abbrev pub HasComeTo : (List ℕ → Content → Type 0) → Known → Source → List (List ℕ × Entry) → Option Waits
    → List Frame → Type 0
HasComeTo contents known source found None frames =
    (came : Came contents known source.place source.text.now frames) × (came.found ≡ found)
HasComeTo contents known source found (Some waits) frames = IsWaiting contents known source found waits frames

-- a reader has read these entries
abbrev pub HasCome : (List ℕ → Content → Type 0) → Known → Reader → List (List ℕ × Entry) → Type 0
HasCome contents known reader found =
    HasComeTo contents known reader.source found reader.waits reader.walk.frames.items

-- after these entries of its text Git stops
abbrev pub StopsIn : (List ℕ → Content → Type 0) → Known → Source → List (List ℕ × Entry) → Told (Vec ℕ)
    → Type 0
StopsIn contents known source found told = (file : List ℕ) × (stop : walk.Stop)
    × WalksTo contents known source.place source.text.now found (At (InFile file stop)) × Tells
    (InFile file stop) told

-- a reader that has read these entries halts
abbrev pub HaltsIn : (List ℕ → Content → Type 0) → Known → Reader → List (List ℕ × Entry) → Halt → Type 0
HaltsIn contents known reader found (Pauses (Ask question)) = HasCome contents known reader found
HaltsIn contents known reader found (Pauses (Memory error)) = ⊤
HaltsIn contents known reader found (Fails error) = ⊤
HaltsIn contents known reader found (Stops told) = StopsIn contents known reader.source found told

-- it goes on, or halts
abbrev pub GoesOn : (List ℕ → Content → Type 0) → Known → Reader → List (List ℕ × Entry) → Result
    (Unit {0}) Halt → Type 0
GoesOn contents known reader found (Ok done) = HasCome contents known reader found
GoesOn contents known reader found (Err halt) = HaltsIn contents known reader found halt

-- it has read its text, or halts
abbrev pub ReadsTo : (List ℕ → Content → Type 0) → Known → Reader → List (List ℕ × Entry) → Result
    (Unit {0}) Halt → Type 0
ReadsTo contents known reader found (Ok done) =
    WalksTo contents known reader.source.place reader.source.text.now found Whole
ReadsTo contents known reader found (Err halt) = HaltsIn contents known reader found halt

-- these entries of a text of this scope are received
abbrev pub Gets : {R : Type 0} → (R → ReadEntry → R → Type 0) → Scope → R → List (List ℕ × Entry) → R → Type 0
Gets receives scope old found new = ReceivesEach receives old (map (with_scope scope) found) new

-- the walk that is in the file at this place alone, of which these entries are left
abbrev pub in_one : FilePlace → Entries → List Frame
in_one place entries = record { place = place; entries = entries; forbids_urls = false } ∷ []

-- entries that include no file are received, and taken off a walk
abbrev pub ReadsPlain : {R : Type 0} → Known → (R → ReadEntry → R → Type 0) → Scope → List Frame → List
    Frame → R → R
    → Type 0
ReadsPlain known receives scope from to old new = (found : List (List ℕ × Entry)) × Gets receives scope old
    found new
    × ((answers : List (List ℕ × Content)) → Passes answers known from (map found_item found) to)

-- what the next step of a reader comes to: an entry, the end, or a stop
abbrev pub ComesNext : (List ℕ → Content → Type 0) → Known → Reader → List (List ℕ × Entry) → Result Bool
    Halt → Type 0
ComesNext contents known reader found (Ok true) = HasCome contents known reader found
ComesNext contents known reader found (Ok false) =
    WalksTo contents known reader.source.place reader.source.text.now found Whole
ComesNext contents known reader found (Err halt) = HaltsIn contents known reader found halt

-- it receives what it comes to
abbrev pub ReadsNext : {R : Type 0} → Known → (R → ReadEntry → R → Type 0) → Reader → Reader → R → R
    → Result Bool Halt
    → Type 0
ReadsNext known receives from to old new result = IsKept result → (more : List (List ℕ × Entry)) × Gets
    receives from.source.scope old more new
    × ((system : System) (start : List ℕ) (found : List (List ℕ × Entry))
    → HasCome (HoldsFor system start from.source.is_file) known from found
    → ComesNext (HoldsFor system start from.source.is_file) known to (found ++ more) result)

-- it receives what comes up to an entry that may include a file
abbrev pub StepsOn : {R : Type 0} → List Fact → List ℕ → Known → (R → ReadEntry → R → Type 0) → Reader
    → Reader → R → R
    → Result Bool Halt → Type 0
StepsOn facts start known receives from to old new result =
    IsKept result → (more : List (List ℕ × Entry)) × Gets receives from.source.scope old more new
    × ((system : System) (found : List (List ℕ × Entry)) → AreTrueIn system facts
    → HasCome (HoldsFor system start from.source.is_file) known from found
    → ComesNext (HoldsFor system start from.source.is_file) known to (found ++ more) result)

-- it receives all that it comes to
abbrev pub GoesThrough : {R : Type 0} → List Fact → List ℕ → Known → (R → ReadEntry → R → Type 0) → Reader
    → Reader
    → R → R → Result (Unit {0}) Halt → Type 0
GoesThrough facts start known receives from to old new result = IsKept result →
    (more : List (List ℕ × Entry)) × Gets receives from.source.scope old more new
    × ((system : System) (found : List (List ℕ × Entry)) → AreTrueIn system facts
    → HasCome (HoldsFor system start from.source.is_file) known from found
    → ReadsTo (HoldsFor system start from.source.is_file) known to (found ++ more) result)

-- Texts

-- a source as a text
abbrev pub text_of : Source → Text
text_of source = record {
  scope = source.scope;
  name = source.place.name.now;
  text = source.text.now;
  is_file = source.is_file;
}

abbrev pub IsAtDir : System → List ℕ → Source → Type 0
IsAtDir system start source = IsDir system start (text_of source) source.place.real_dir.now

-- Git stops at a file
abbrev pub StopsAtFile : System → List ℕ → File → Halt → Type 0
StopsAtFile system start file (Stops told) =
    (reason : List ℕ) × IsRefused system start file reason × Tells (Unread file.name reason) told
StopsAtFile system start file (Pauses pause) = ⊤
StopsAtFile system start file (Fails error) = ⊤

-- the texts of these files are opened, up to one at which Git stops
abbrev pub OpensTo : System → List ℕ → List File → List Text → Option (Told (Vec ℕ)) → Type 0
OpensTo system start files texts None = AreTexts system start files texts
OpensTo system start files texts (Some told) = (before : List File) × (file : File) × (after : List File)
    × (reason : List ℕ) × (files ≡ before ++ file ∷ after) × AreTexts system start before texts
    × IsRefused system start file reason × Tells (Unread file.name reason) told

abbrev pub OpensFiles : System → List ℕ → List File → Texts → Type 0
OpensFiles system start files texts =
    OpensTo system start files (map text_of texts.list.items) texts.stop × All (IsAtDir system start)
    texts.list.items

-- where Git stops behind texts
abbrev pub EndsAs : Option (Told (Vec ℕ)) → End → Type 0
EndsAs None opened = opened ≡ Whole
EndsAs (Some told) opened = (stop : Stop) × (opened ≡ At stop) × Tells stop told

-- these texts are all that is opened of these files and of the command
abbrev pub AreOpenedAs : System → List ℕ → List File → Texts → Type 0
AreOpenedAs system start files texts = ((opened : End) × AreOpened system start files
    (map text_of texts.list.items) opened
    × EndsAs texts.stop opened) × All (IsAtDir system start) texts.list.items

abbrev pub IsOpeningBy : System → List ℕ → List File → Opening → Bool → Type 0
IsOpeningBy system start files opening true = AreOpenedAs system start files opening.texts
IsOpeningBy system start files opening false = (opening.texts.stop ≡ None)
    × AreTexts system start files (map text_of opening.texts.list.items) × IsCounting system opening.counted
    × All (IsAtDir system start) opening.texts.list.items

-- the texts of these files are opened, and of the command's settings some are counted
abbrev pub IsOpening : System → List ℕ → List File → Opening → Type 0
IsOpening system start files opening = IsOpeningBy system start files opening opening.is_whole

-- Texts that are read

abbrev pub EndsTexts : End → Result (Unit {0}) Halt → Type 0
EndsTexts opened (Ok done) = opened ≡ Whole
EndsTexts opened (Err (Stops told)) = (stop : Stop) × (opened ≡ At stop) × Tells stop told
EndsTexts opened (Err (Pauses (Ask question))) = ⊥
EndsTexts opened (Err (Pauses (Memory error))) = ⊤
EndsTexts opened (Err (Fails error)) = ⊤

-- a reader of this source: the one that is there, or one that has read nothing
abbrev pub IsReaderOf : Option (Box Reader) → Source → Box Reader → Type 0
IsReaderOf (Some reader) source made = made ≡ reader
IsReaderOf None source made = (made.value.source ≡ source)
    × ((system : System) (start : List ℕ) (known : Known)
    → HasCome (HoldsFor system start source.is_file) known made.value [])

-- these entries are read of the text that comes next, if it is begun
abbrev pub InReader : System → List ℕ → Known → List Source → ℕ → Option (Box Reader) → List ReadEntry
    → Type 0
InReader system start known texts done None read = read ≡ []
InReader system start known texts done (Some reader) read = (slice_get texts done ≡ Some reader.value.source)
    × ((found : List (List ℕ × Entry)) × HasCome (HoldsFor system start reader.value.source.is_file) known
    reader.value found
    × (read ≡ map (with_scope reader.value.source.scope) found))

-- these entries are read in a round over texts
pub record InRound (system : System) (start : List ℕ) (known : Known) (texts : List Source) (round : Round)
    (read : List ReadEntry) : Type 0 where
  pub before : List ReadEntry
  pub are_read : ReadsTexts system start known (map text_of (take round.done texts)) before Whole
  pub more : List ReadEntry
  pub in_reader : InReader system start known texts round.done round.reader more
  pub sum : read ≡ before ++ more

-- a round ends, or halts after these entries
abbrev pub RoundsTo : System → List ℕ → Known → Texts → End → Round → List ReadEntry → Result (Unit {0})
    Halt → Type 0
RoundsTo system start known texts opened round read (Ok done) =
    ReadsOpened system start known (map text_of texts.list.items) opened read Whole
RoundsTo system start known texts opened round read (Err (Stops told)) =
    (stop : Stop) × ReadsOpened system start known (map text_of texts.list.items) opened read (At stop)
    × Tells stop told
RoundsTo system start known texts opened round read (Err (Pauses (Ask question))) =
    InRound system start known texts.list.items round read
RoundsTo system start known texts opened round read (Err (Pauses (Memory error))) = ⊤
RoundsTo system start known texts opened round read (Err (Fails error)) = ⊤

-- it receives what it comes to
abbrev pub GoesRound : {R : Type 0} → List Fact → List ℕ → Known → Texts → (R → ReadEntry → R → Type 0)
    → Round → Round
    → R → R → Result (Unit {0}) Halt → Type 0
GoesRound facts start known texts receives from to old new result = IsKept result →
    (more : List ReadEntry) × ReceivesEach receives old more new
    × ((system : System) (opened : End) (read : List ReadEntry) → AreTrueIn system facts
    → All (IsAtDir system start) texts.list.items → EndsAs texts.stop opened
    → InRound system start known texts.list.items from read
    → RoundsTo system start known texts opened to (read ++ more) result)

-- Rounds

abbrev pub texts_in : Rounds → List Text
texts_in rounds = map text_of rounds.texts.list.items

-- a condition asks about the URLs of remotes
abbrev pub AskForUrls : System → List ℕ → Rounds → End → Type 0
AskForUrls system start rounds opened = (first : List ReadEntry) × (earlier : End)
    × ReadsOpened system start rounds.known (texts_in rounds) opened first earlier
    × Any (λ it. HasUrlCondition it.entry true) first

-- or none does
abbrev pub AskForNone : System → List ℕ → Rounds → End → Type 0
AskForNone system start rounds opened = is_as_git rounds.known.includes && some_include (texts_in rounds)
    ≡ true
    → (first : List ReadEntry) × (earlier : End)
    × ReadsOpened system start rounds.known (texts_in rounds) opened first earlier
    × All (λ it. HasUrlCondition it.entry false) first

abbrev pub InRoundOf : System → List ℕ → Known → Rounds → List ReadEntry → Type 0
InRoundOf system start known rounds read = InRound system start known rounds.texts.list.items rounds.round
    read

-- whether one of these entries has a condition on the URLs of remotes
abbrev pub HaveCondition : Bool → List ReadEntry → Type 0
HaveCondition true read = Any (λ it. HasUrlCondition it.entry true) read
HaveCondition false read = All (λ it. HasUrlCondition it.entry false) read

abbrev pub FindsCondition : Conditions → ReadEntry → Conditions → Type 0
FindsCondition old it new = (has : Bool) × HasUrlCondition it.entry has × (new.has ≡ (old.has || has))

abbrev pub texts_of : Remotes → List (List ℕ)
texts_of remotes = map (λ text. text.items) remotes.urls.items

abbrev pub FindsUrl : Remotes → ReadEntry → Remotes → Type 0
FindsUrl old it new = (url : Option (List ℕ)) × IsUrlOf it.entry url
    × (texts_of new ≡ texts_of old ++ one_if url)

abbrev pub InPhase : System → List ℕ → Rounds → End → List ReadEntry → Phase → Type 0
InPhase system start rounds opened read (phase.Asks conditions) = (read ≡ []) × ((first : List ReadEntry)
    × InRoundOf system start rounds.known rounds first × HaveCondition conditions.has first)
InPhase system start rounds opened read (phase.Seeks remotes) = (read ≡ []) × AskForUrls system start
    rounds opened
    × ((all : List ReadEntry) × InRoundOf system start (knowing rounds.known Sought) rounds all
    × AreUrls all (texts_of remotes))
InPhase system start rounds opened read phase.Plain =
    AskForNone system start rounds opened × InRoundOf system start rounds.known rounds read

-- these entries are read in rounds
abbrev pub InRounds : System → List ℕ → Rounds → End → List ReadEntry → Type 0
InRounds system start rounds opened read = InPhase system start rounds opened read rounds.phase

abbrev pub AreRightTexts : System → List ℕ → Rounds → End → Type 0
AreRightTexts system start rounds opened =
    All (IsAtDir system start) rounds.texts.list.items × EndsAs rounds.texts.stop opened

-- it is known whether a condition asks about the URLs of remotes
abbrev pub IsAsked : Phase → Type 0
IsAsked (phase.Asks conditions) = ⊥
IsAsked (phase.Seeks remotes) = ⊤
IsAsked phase.Plain = ⊤

abbrev pub HaltsRounds : System → List ℕ → Rounds → End → List ReadEntry → Halt → Type 0
HaltsRounds system start rounds opened read (Stops told) =
    (stop : Stop) × ReadsAsGit system start rounds.known (texts_in rounds) opened read (At stop) × Tells
    stop told
HaltsRounds system start rounds opened read (Pauses (Ask question)) = InRounds system start rounds opened read
HaltsRounds system start rounds opened read (Pauses (Memory error)) = ⊤
HaltsRounds system start rounds opened read (Fails error) = ⊤

-- they end, or halt after these entries
abbrev pub EndsRounds : System → List ℕ → Rounds → End → List ReadEntry → Result (Unit {0}) Halt → Type 0
EndsRounds system start rounds opened read (Ok done) =
    ReadsAsGit system start rounds.known (texts_in rounds) opened read Whole
EndsRounds system start rounds opened read (Err halt) = HaltsRounds system start rounds opened read halt

abbrev pub AreSame : Rounds → Rounds → Type 0
AreSame old new = (new.texts ≡ old.texts) × (new.known ≡ old.known)

-- the phase after it is known whether a condition asks about the URLs of remotes
abbrev pub IsAfter : Bool → Phase → Type 0
IsAfter true (phase.Seeks remotes) = remotes.urls.items ≡ []
IsAfter true _ = ⊥
IsAfter false phase.Plain = ⊤
IsAfter false _ = ⊥

-- whether one of the entries up to the end, or up to where Git stops, has a condition on the URLs of remotes
abbrev pub FindsInRound : System → List ℕ → Rounds → End → Conditions → Result Bool Pause → Type 0
FindsInRound system start rounds opened conditions (Ok have) = (first : List ReadEntry) × (earlier : End)
    × ReadsOpened system start rounds.known (texts_in rounds) opened first earlier × HaveCondition have first
FindsInRound system start rounds opened conditions (Err (Ask question)) = (first : List ReadEntry)
    × InRoundOf system start rounds.known rounds first × HaveCondition conditions.has first
FindsInRound system start rounds opened conditions (Err (Memory error)) = ⊤

abbrev pub FindsConditions : List Fact → List ℕ → Rounds → Rounds → Conditions → Conditions → Result Bool
    Pause → Type 0
FindsConditions facts start from to old new result = (system : System) (opened : End) (first : List ReadEntry)
    → AreTrueIn system facts → AreRightTexts system start from opened → InRoundOf system start from.known
    from first
    → HaveCondition old.has first → FindsInRound system start to opened new result

-- rounds that are right stay so
abbrev pub KeepsRounds : List Fact → List ℕ → Rounds → Rounds → Result (Unit {0}) Pause → Type 0
KeepsRounds facts start old new (Err (Memory error)) = AreSame old new
KeepsRounds facts start old new result = AreSame old new
    × ((system : System) (opened : End) (read : List ReadEntry) → AreTrueIn system facts
    → AreRightTexts system start old opened → InRounds system start old opened read
    → InRounds system start new opened read)

-- a condition asks about the URLs of remotes, and these are the URLs
abbrev pub HasSought : System → List ℕ → Rounds → End → List ReadEntry → Remotes → Type 0
HasSought system start rounds opened read remotes = (read ≡ []) × (rounds.round.done ≡ 0)
    × (rounds.round.reader ≡ None)
    × AskForUrls system start rounds opened
    × ((all : List ReadEntry)
    × ReadsOpened system start (knowing rounds.known Sought) (texts_in rounds) opened all Whole
    × AreUrls all (texts_of remotes))

abbrev pub FindsUrls : System → List ℕ → Rounds → End → List ReadEntry → Result (Option Remotes) Halt → Type 0
FindsUrls system start rounds opened read (Ok None) =
    (rounds.phase ≡ phase.Plain) × InRounds system start rounds opened read
FindsUrls system start rounds opened read (Ok (Some remotes)) = HasSought system start rounds opened read
    remotes
FindsUrls system start rounds opened read (Err halt) = HaltsRounds system start rounds opened read halt

abbrev pub SeeksRounds : List Fact → List ℕ → Rounds → Rounds → Result (Option Remotes) Halt → Type 0
SeeksRounds facts start old new result = AreSame old new
    × ((system : System) (opened : End) (read : List ReadEntry) → AreTrueIn system facts
    → AreRightTexts system start old opened → InRounds system start old opened read
    → FindsUrls system start new opened read result)

-- what they come to is received where the URLs are known
abbrev pub ReadsByUrls : {R : Type 0} → List Fact → List ℕ → Rounds → Rounds → Remotes
    → (R → ReadEntry → R → Type 0)
    → R → R → Result (Unit {0}) Halt → Type 0
ReadsByUrls facts start from to remotes receives old new result = AreSame from to
    × (IsKept result → (more : List ReadEntry) × ReceivesEach receives old more new
    × ((system : System) (opened : End) (read : List ReadEntry) → AreTrueIn system facts
    → AreRightTexts system start from opened → HasSought system start from opened read remotes
    → EndsRounds system start to opened (read ++ more) result))

-- what they come to is received
abbrev pub GoesRounds : {R : Type 0} → List Fact → List ℕ → (R → ReadEntry → R → Type 0) → Rounds → Rounds
    → R → R
    → Result (Unit {0}) Halt → Type 0
GoesRounds facts start receives from to old new result = AreSame from to
    × (IsKept result → (more : List ReadEntry) × ReceivesEach receives old more new
    × ((system : System) (opened : End) (read : List ReadEntry) → AreTrueIn system facts
    → AreRightTexts system start from opened → InRounds system start from opened read
    → EndsRounds system start to opened (read ++ more) result))

-- by the first of the settings the folder is safe or not
abbrev pub IsNamedSafe : System → List ℕ → Naming → Type 0
IsNamedSafe system start naming = Decides naming.is_safe
    (SaysSafe system start naming.folder.now (take naming.done naming.settings.entries.items))

-- GIT_DIR does not name a git directory, and it is not the user's own
abbrev pub IsOther : System → List ℕ → GitDir → Type 0
IsOther system folder it = (it.form ≢ IsGiven) × (¬ (IsOwn system folder it))

-- Git trusts it, refuses it, or trusts it if the folder of this name without links is safe
abbrev pub IsWeighed : System → List ℕ → List ℕ → GitDir → Weighed → Type 0
IsWeighed system start folder it weighed.Trusted = IsTrusted system start folder it
IsWeighed system start folder it (weighed.Refused refusal) = RefusesIt system start (Inside folder it) refusal
IsWeighed system start folder it (weighed.Other real) =
    IsOther system folder it × (system REAL (opened folder) ≡ Some real.now)
