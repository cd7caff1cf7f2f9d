-- What a reading hands on.
use Rattle.std.proofs.Common.{◌≡◌, ◌++◌, ◌∙◌, [], ℕ, Bool, List, Option, None, Some, Result, Ok, Err, true}
use Rattle.std.proofs.Common.{ap, false, refl, subst, sym, true≢false}
use Rattle.std.specs.Prelude.{⊤, map, option_copied}
use Rattle.std.specs.Global.{Vec}
use Rattle.std.specs.List.{All}
use Rattle.std.proofs.lemmas.List.{append-nil}
use Rattle.config_file.specs.declared.errors.Stop.{Stop as Told}
use Rattle.config_search.specs.System.{System, AreTrueIn}
use Rattle.config_search.specs.Answers.{Answers}
use Rattle.config_search.specs.Files.{File}
use Rattle.config_file.specs.declared.path.Directories.{Directories}
use Rattle.config_file.specs.declared.walk.Known.{Known}
use Rattle.config_file.specs.declared.include.Includes.TheVariants as which
use Rattle.config_search.specs.Folder.{AreAsked, AreDirectories, AreFollowed, Asked, DoesNotStop, Here, IsKnownBy, home}
use Rattle.config_search.specs.Folder.{Reads as ReadsAll, These, start_by}
use Rattle.config_search.specs.Handing.{EndsHere, EndsIn, Fits, GoesOnBy, HandsIn, HandsOn, HandsRounds, InState, IsAt, IsOpenedOf}
use Rattle.config_search.specs.Handing.{IsReadingAt, IsUnopened, KeepsState, Knows, OpensAs, StopsAt, StopsBy, StopsWith, given_of}
use Rattle.config_search.specs.Reads.{At, End, ReadEntry, ReadsAsGit, Text as TextOf, Whole}
use Rattle.config_search.specs.Reading.{AreRightTexts, AreSame, EndsAs, EndsRounds, GoesRounds, InRounds, IsAtDir}
use Rattle.config_search.specs.Reading.{IsKept, IsOpening, IsOpeningBy, text_of, texts_in}
use Rattle.config_search.specs.Receiving.{ReceivesEach, nothing}
use Rattle.config_search.specs.Shown.{file_of}
use Rattle.config_search.proofs.Phases.{right_of}
use Rattle.config_search.specs.declared.answer.Answer.{Answer}
use Rattle.config_search.specs.declared.answer.Outcome.{Outcome}
use Rattle.config_search.specs.declared.answer.Outcome.TheVariants as outcome
use Rattle.config_search.specs.declared.fact.Fact.{Fact}
use Rattle.config_search.specs.declared.fact.Pause.{Pause}
use Rattle.config_search.specs.declared.fact.Pause.TheVariants.{Ask, Memory}
use Rattle.config_search.specs.declared.fact.Question.{Question}
use Rattle.config_search.specs.declared.halt.Halt.{Halt}
use Rattle.config_search.specs.declared.halt.Halt.TheVariants.{Pauses, Stops, Fails}
use Rattle.config_search.specs.declared.answer.Outcome.TheVariants.{FindsNone}
use Rattle.config_search.specs.declared.known.Follows.{Follows}
use Rattle.config_search.specs.declared.known.Follows.TheVariants.{AsGit, Everything, Nothing}
use Rattle.config_search.specs.declared.reading.Reading.{Reading}
use Rattle.config_search.specs.declared.rounds.Rounds.{Rounds}
use Rattle.config_search.specs.declared.state.State.{State}
use Rattle.config_search.specs.declared.state.State.TheVariants.{Begins, Given, Opens, Reads, Ends, Lost}
use Rattle.config_search.specs.declared.texts.Opening.{Opening}

pub directories_at : (system : System) (follows : Follows) (directories : Directories)
    → option_copied directories.home ≡ home system → option_copied directories.install_dir ≡ None
    → AreDirectories system follows directories
directories_at system Nothing directories of_home none = tt
directories_at system AsGit directories of_home none = (of_home, none)
directories_at system Everything directories of_home none = (of_home, none)

-- where no include is followed it does not matter what Git does in the folder
unfollowed_by : (system : System) (folder : List ℕ) (answer : Option Answer) (known : Known)
    → Knows system folder answer → GoesOnBy answer → known.includes ≡ which.Skipped
    → IsKnownBy system folder Nothing answer known
unfollowed_by system folder None known knows goes skipped = skipped
unfollowed_by system folder (Some answer) known knows goes skipped = (knows, goes, skipped, tt)

pub unfollowed : (system : System) (folder : List ℕ) (follows : Follows) (answer : Option Answer) (known : Known)
    → follows ≡ Nothing → Knows system folder answer → GoesOnBy answer
    → AreFollowed system follows FindsNone known.includes → IsKnownBy system folder follows answer known
unfollowed system folder follows answer known none knows goes skipped =
    subst (λ (f : Follows). IsKnownBy system folder f answer known) (sym none)
    (unfollowed_by system folder answer known knows goes
    (subst (λ (f : Follows). AreFollowed system f FindsNone known.includes) none skipped))

-- the texts that Git reads in the folder are opened
pub begins_opened : (system : System) (asked : Asked) (answer : Option Answer) (it : Answer) (opening : Opening)
    → answer ≡ Some it → asked ≡ Here
    → IsOpening system it.folder.items (map file_of it.files.items) opening → OpensAs system asked answer opening
begins_opened system asked answer it opening is here opens =
    subst (λ (a : Asked). OpensAs system a answer opening) (sym here)
    (subst (λ (x : Option Answer). OpensAs system Here x opening) (sym is) opens)

-- what is being opened goes on
pub more_opened : (system : System) (asked : Asked) (answer : Option Answer) (old new : Opening)
    → old.is_whole ≡ false
    → ((start : List ℕ) (files : List File) → IsOpening system start files old → IsOpening system start files new)
    → OpensAs system asked answer old → OpensAs system asked answer new
more_opened system Here (Some it) old new begun keeps opens = keeps it.folder.items (map file_of it.files.items) opens
more_opened system Here None old new begun keeps opens = absurd opens
more_opened system (These start texts) answer old new begun keeps (are, none, whole, dirs) =
    absurd (true≢false (sym whole ∙ begun))

-- texts that are all opened are read
pub opened_as : (system : System) (folder : List ℕ) (asked : Asked) (answer : Option Answer) (opening : Opening)
    → opening.is_whole ≡ true → Knows system folder answer → GoesOnBy answer → OpensAs system asked answer opening
    → (opened : End) × AreAsked system folder asked answer (map text_of opening.texts.list.items) opened
    × All (IsAtDir system (start_by asked answer)) opening.texts.list.items × EndsAs opening.texts.stop opened
opened_as system folder Here (Some it) opening whole knows goes opens =
    let ((opened, are, ends), dirs) = subst (λ (w : Bool). IsOpeningBy system it.folder.items
    (map file_of it.files.items) opening w) whole opens in (opened, (knows, goes, are), dirs, ends)
opened_as system folder Here None opening whole knows goes opens = absurd opens
opened_as system folder (These start texts) answer opening whole knows goes (are, none, is_whole, dirs) =
    (Whole, (are, refl), dirs, subst (λ (stop : Option (Told (Vec ℕ))). EndsAs stop Whole) (sym none) refl)

-- how the entries of texts end is how the reading ends in this state
abbrev pub EndsAt : State → Rounds → Result (Unit {0}) Halt → Type 0
EndsAt state rounds (Ok done) = state ≡ Ends
EndsAt state rounds (Err (Pauses (Ask question))) = state ≡ Reads rounds
EndsAt state rounds (Err halt) = ⊤

module _ (system : System) (folder : List ℕ) (follows : Follows) (asked : Asked) (answer : Option Answer)
    (from to : Rounds) (read : List ReadEntry) (same : AreSame from to)
    (is : IsReadingAt system folder follows asked answer from read) where
  read_to : (all : List ReadEntry) (end : End)
      → ReadsAsGit system (start_by asked answer) to.known (texts_in to) is.opened all end
      → ReadsAll system folder follows asked answer all end
  read_to all end reads = record {
    texts = texts_in to;
    opened = is.opened;
    are_asked = rw same.0 is.are_asked;
    known = to.known;
    is_known = rw same.1 (rw same.0 is.is_known);
    are_read = reads;
  }

  rounds_end : (all : List ReadEntry) (state : State) (end : Result (Unit {0}) Halt) → EndsAt state to end
      → EndsRounds system (start_by asked answer) to is.opened all end
      → EndsIn system folder follows asked answer all state end
  rounds_end all state (Ok done) at reads = (at, read_to all Whole reads)
  rounds_end all state (Err (Stops told)) at (stop, reads, tells) = (stop, read_to all (At stop) reads, tells)
  rounds_end all state (Err (Pauses (Ask question))) at rounds =
      subst (λ (s : State). InState system folder follows asked answer s all) (sym at) (record {
        opened = is.opened;
        are_asked = rw same.0 is.are_asked;
        are_right = right_of system (start_by asked answer) from to is.opened same is.are_right;
        is_known = rw same.1 (rw same.0 is.is_known);
        in_rounds = rounds;
      })
  rounds_end all state (Err (Pauses (Memory error))) at rounds = tt
  rounds_end all state (Err (Fails error)) at rounds = tt

-- texts that are opened hand on what they come to
pub hands_rounds : {R : Type 0} (facts : List Fact) (start : List ℕ) (receives : R → ReadEntry → R → Type 0)
    (from to : Rounds) (state : State) (old new : R) (end : Result (Unit {0}) Halt) → EndsAt state to end
    → GoesRounds facts start receives from to old new end → HandsRounds facts start receives from state old new end
hands_rounds facts start receives from to state old new end at (same, reads) = λ kept.
    let (more, each, ends) = reads kept in (
      more,
      each,
      λ system folder follows asked answer read agrees starts is.
          rounds_end system folder follows asked answer from to read same is (read ++ more) state end at
          (subst (λ (s : List ℕ). EndsRounds system s to is.opened (read ++ more) end) starts
          (ends system is.opened read agrees
          (subst (λ (s : List ℕ). AreRightTexts system s from is.opened) (sym starts) is.are_right)
          (subst (λ (s : List ℕ). InRounds system s from is.opened read) (sym starts) is.in_rounds))),
    )

module _ {R : Type 0} (facts : List Fact) (follows : Follows) (start : Option (List ℕ)) (answer : Option Answer)
    (receives : R → ReadEntry → R → Type 0) (from to : State) (old : R)
    (keeps : KeepsState facts follows start answer from to) where
  -- a state that pauses hands on nothing
  pub pauses_in : (pause : Pause) → HandsIn facts follows start answer receives from to old old (Err (Pauses pause))
  pauses_in (Ask question) = λ kept. (
    [],
    nothing,
    λ system folder asked read agrees fits knows goes is.
        subst (λ (r : List ReadEntry). InState system folder follows asked answer to r) (sym (append-nil read))
        (keeps system folder asked read agrees fits knows goes is),
  )
  pauses_in (Memory error) = λ kept. absurd kept

  -- no more does one that has ended
  pub ends_in : to ≡ Ends → HandsIn facts follows start answer receives from Ends old old (Ok tt)
  ends_in ended = λ kept. (
    [],
    nothing,
    λ system folder asked read agrees fits knows goes is. (
      refl,
      subst (λ (r : List ReadEntry). ReadsAll system folder follows asked answer r Whole) (sym (append-nil read))
          (subst (λ (s : State). InState system folder follows asked answer s read) ended
          (keeps system folder asked read agrees fits knows goes is)),
    ),
  )

  -- one in which texts are read hands on what they do
  pub rounds_in : (rounds : Rounds) → to ≡ Reads rounds → (from_here : List ℕ)
      → ((asked : Asked) → Fits asked start → from_here ≡ start_by asked answer) → (end : State) (new : R)
      (result : Result (Unit {0}) Halt) → HandsRounds facts from_here receives rounds end old new result
      → HandsIn facts follows start answer receives from end old new result
  rounds_in rounds reads from_here starts end new result hands = λ kept. let (more, each, ends) = hands kept in (
    more,
    each,
    λ system folder asked read agrees fits knows goes is. ends system folder follows asked answer read agrees
        (starts asked fits)
        (subst (λ (s : State). InState system folder follows asked answer s read) reads
        (keeps system folder asked read agrees fits knows goes is)),
  )

-- texts that are given are opened
pub given_opened : (system : System) (asked : Asked) (answer : Option Answer) (texts : List TextOf) (from : List ℕ)
    (opening : Opening) → asked ≡ These from texts → IsOpenedOf system (start_by asked answer) texts opening
    → OpensAs system asked answer opening
given_opened system Here answer texts from opening is opened = absurd (no_texts is)
  where
    takes_texts : Asked → Type 0
    takes_texts Here = ⊤
    takes_texts (These start given) = ⊥

    no_texts : Here ≡ These from texts → ⊥
    no_texts same = subst takes_texts same tt
given_opened system (These start given) answer texts from opening is opened =
    subst (λ (ts : List TextOf). IsOpenedOf system start ts opening) (sym (given_same is)) opened
  where
    texts_of : Asked → List TextOf
    texts_of Here = []
    texts_of (These start given) = given

    given_same : These start given ≡ These from texts → given ≡ texts
    given_same same = ap texts_of same

-- in a state in which no text is opened it does not matter what Git does in the folder
now_known : (system : System) (folder : List ℕ) (follows : Follows) (asked : Asked) (state : State)
    (read : List ReadEntry) (before after : Option Answer) → IsUnopened state
    → InState system folder follows asked before state read → InState system folder follows asked after state read
now_known system folder follows asked Begins read before after unopened is = is
now_known system folder follows asked (Given texts) read before after unopened is = is
now_known system folder follows asked (Opens opening) read before after unopened is = absurd unopened
now_known system folder follows asked (Reads rounds) read before after unopened is = absurd unopened
now_known system folder follows asked Ends read before after unopened is = absurd unopened
now_known system folder follows asked Lost read before after unopened is = absurd unopened

unread : (system : System) (folder : List ℕ) (follows : Follows) (asked : Asked) (answer : Option Answer) (state : State)
    (read : List ReadEntry) → IsUnopened state → InState system folder follows asked answer state read → read ≡ []
unread system folder follows asked answer Begins read unopened is = is.0
unread system folder follows asked answer (Given texts) read unopened is = is.0
unread system folder follows asked answer (Opens opening) read unopened is = absurd unopened
unread system folder follows asked answer (Reads rounds) read unopened is = absurd unopened
unread system folder follows asked answer Ends read unopened is = absurd unopened
unread system folder follows asked answer Lost read unopened is = absurd unopened

-- what Git does in the folder is found
pub found_here : (system : System) (asked : Asked) (from : Reading) (read : List ReadEntry) (answer : Answer)
    → IsUnopened from.state → IsAt system asked from read → Answers system from.search.folder answer
    → Fits asked (option_copied from.start) × Answers system from.search.folder answer
    × InState system from.search.folder from.follows asked (Some answer) from.state read
    × (¬ (GoesOnBy (Some answer)) → IsUnopened from.state)
found_here system asked from read answer unopened (fits, knows, in_state, stays) answers = (
  fits,
  answers,
  now_known system from.search.folder from.follows asked from.state read from.answer (Some answer) unopened in_state,
  λ stops. unopened,
)

-- a reading that pauses hands on nothing
pub pauses_here : {R : Type 0} (receives : R → ReadEntry → R → Type 0) (from to : Reading) (old : R) (pause : Pause)
    → ((system : System) (asked : Asked) (read : List ReadEntry) → AreTrueIn system from.search.facts
    → IsAt system asked from read → IsAt system asked to read) → HandsOn receives from to old old (Err (Pauses pause))
pauses_here receives from to old (Ask question) keeps = λ kept. (
  [],
  nothing,
  λ system asked read agrees is.
      subst (λ (r : List ReadEntry). IsAt system asked to r) (sym (append-nil read)) (keeps system asked read agrees is),
)
pauses_here receives from to old (Memory error) keeps = λ kept. absurd kept

not_on_at : (it : Outcome) (halt : Halt) → StopsAt it halt → DoesNotStop it → ⊥
not_on_at (outcome.Uses repository) halt stops goes = absurd stops
not_on_at outcome.FindsNone halt stops goes = absurd stops
not_on_at (outcome.Refuses refusal) halt stops goes = absurd stops
not_on_at (outcome.Stops stop) halt stops goes = absurd goes

not_on : (answer : Option Answer) (halt : Halt) → StopsBy answer halt → GoesOnBy answer → ⊥
not_on None halt stops goes = absurd stops
not_on (Some answer) halt stops goes = not_on_at answer.outcome halt stops goes

asks_not_at : {A : Type 0} (it : Outcome) (question : Question) → StopsAt it (Pauses (Ask question)) → A
asks_not_at (outcome.Uses repository) question stops = absurd stops
asks_not_at outcome.FindsNone question stops = absurd stops
asks_not_at (outcome.Refuses refusal) question stops = absurd stops
asks_not_at (outcome.Stops stop) question stops = absurd stops

asks_not : {A : Type 0} (answer : Option Answer) (question : Question) → StopsBy answer (Pauses (Ask question)) → A
asks_not None question stops = absurd stops
asks_not (Some answer) question stops = asks_not_at answer.outcome question stops

-- where Git stops as it looks for the repository nothing is handed on
stop_ends : (system : System) (asked : Asked) (to : Reading) (read : List ReadEntry) (halt : Halt)
    → IsKept {A = Unit {0}} (Err halt) → StopsBy to.answer halt → IsAt system asked to read
    → EndsHere system asked to read (Err halt)
stop_ends system asked to read (Stops told) kept stops (fits, knows, in_state, stays) =
    let not_so = not_on to.answer (Stops told) stops in (
      λ goes. absurd (not_so goes),
      λ no. (
        unread system to.search.folder to.follows asked to.answer to.state read (stays no) in_state,
        stops,
      ),
    )
stop_ends system asked to read (Pauses (Ask question)) kept stops is = asks_not to.answer question stops
stop_ends system asked to read (Pauses (Memory error)) kept stops is = tt
stop_ends system asked to read (Fails error) kept stops is = tt

pub stops_here : {R : Type 0} (receives : R → ReadEntry → R → Type 0) (from to : Reading) (old : R) (halt : Halt)
    → StopsBy to.answer halt
    → ((system : System) (asked : Asked) (read : List ReadEntry) → AreTrueIn system from.search.facts
    → IsAt system asked from read → IsAt system asked to read) → HandsOn receives from to old old (Err halt)
stops_here receives from to old halt stops keeps = λ kept. (
  [],
  nothing,
  λ system asked read agrees is.
      subst (λ (r : List ReadEntry). EndsHere system asked to r (Err halt)) (sym (append-nil read))
      (stop_ends system asked to read halt kept stops (keeps system asked read agrees is)),
)

-- what is read ends with this answer
ends_here : (system : System) (asked : Asked) (to : Reading) (read : List ReadEntry) (end : Result (Unit {0}) Halt)
    → Fits asked (option_copied to.start) → Knows system to.search.folder to.answer → GoesOnBy to.answer
    → EndsIn system to.search.folder to.follows asked to.answer read to.state end → EndsHere system asked to read end
ends_here system asked to read (Ok done) fits knows goes ends = ends.1
ends_here system asked to read (Err (Stops told)) fits knows goes ends = (λ on. ends, λ no. absurd (no goes))
ends_here system asked to read (Err (Pauses (Ask question))) fits knows goes ends =
    (fits, knows, ends, λ no. absurd (no goes))
ends_here system asked to read (Err (Pauses (Memory error))) fits knows goes ends = tt
ends_here system asked to read (Err (Fails error)) fits knows goes ends = tt

-- what is handed on from a state is what is read
pub hands_here : {R : Type 0} (receives : R → ReadEntry → R → Type 0) (from mid to : Reading) (facts : List Fact)
    (before : State) (old new : R) (end : Result (Unit {0}) Halt) → facts ≡ from.search.facts → before ≡ mid.state
    → to.search ≡ mid.search → to.follows ≡ mid.follows → to.start ≡ mid.start → to.answer ≡ mid.answer
    → GoesOnBy mid.answer
    → ((system : System) (asked : Asked) (read : List ReadEntry) → AreTrueIn system from.search.facts
    → IsAt system asked from read → IsAt system asked mid read)
    → HandsIn facts to.follows (option_copied to.start) to.answer receives before to.state old new end
    → HandsOn receives from to old new end
hands_here receives from mid to facts before old new end of_facts of_state searches follows starts answers goes keeps
    hands = λ kept. let (more, each, ends) = hands kept in (
      more,
      each,
      λ system asked read agrees at.
          let (fits, knows, in_state, stays) = keeps system asked read agrees at in
          let fits_to : Fits asked (option_copied to.start) = rw starts fits in
          let knows_to : Knows system to.search.folder to.answer = rw (searches, answers) knows in
          let goes_to : GoesOnBy to.answer = rw answers goes in
          ends_here system asked to (read ++ more) end fits_to knows_to goes_to
          (ends system to.search.folder asked read (rw of_facts agrees) fits_to knows_to goes_to
          (rw (of_state, searches, follows, answers) in_state)),
    )

-- what is told moves nothing
pub at_same : (system : System) (asked : Asked) (from to : Reading) (read : List ReadEntry)
    → to.search.folder ≡ from.search.folder → to.follows ≡ from.follows → to.start ≡ from.start
    → to.answer ≡ from.answer → to.state ≡ from.state → IsAt system asked from read → IsAt system asked to read
at_same system asked from to read folder follows start answer state is = rw (folder, follows, start, answer, state) is
