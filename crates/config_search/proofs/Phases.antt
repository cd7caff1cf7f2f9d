-- The phases in which texts are read as Git does.
use Rattle.std.proofs.Common.{◌≡◌, ◌++◌, ◌∷◌, ◌∙◌, ◌||◌, [], ℕ, Bool, List, None, Result, Ok, Err, true}
use Rattle.std.proofs.Common.{false, arith, ap, map, refl, sym}
use Rattle.std.specs.Prelude.{⊤}
use Rattle.std.specs.List.{Any}
use denote.Ref.{Bor}
use Rattle.std.proofs.lemmas.List.{append_assoc, append-nil, length-append}
use Rattle.std.proofs.Math.ListN.{get_or-append}
use Rattle.std.proofs.lemmas.List.Elements.{All-push}
use Rattle.std.proofs.lemmas.List.Quantifiers.{Any-push}
use Rattle.config_file.specs.declared.include.Urls.TheVariants.{Sought, Known as Urls}
use Rattle.config_search.specs.System.{System, AreTrueIn}
use Rattle.config_search.specs.Reads.{AreUrls, End, HasUrlCondition, ReadEntry, ReadsOpened, by_urls}
use Rattle.config_search.specs.Reads.{in_urls, knowing, no_entry, one_entry, plain}
use Rattle.config_search.specs.Receiving.{ReceivesEach, nothing, one_more}
use Rattle.config_search.specs.Reading.{AreRightTexts, AreSame, AskForNone, AskForUrls, EndsRounds}
use Rattle.config_search.specs.Reading.{FindsCondition, FindsInRound, FindsUrl, GoesRounds, HaltsRounds}
use Rattle.config_search.specs.Reading.{HasSought, HaveCondition, InPhase, InRoundOf, InRounds, IsAfter}
use Rattle.config_search.specs.Reading.{IsKept, KeepsRounds, PausesAs, RoundsTo, texts_in, texts_of}
use Rattle.config_search.specs.declared.fact.Fact.{Fact}
use Rattle.config_search.specs.declared.fact.Pause.{Pause}
use Rattle.config_search.specs.declared.fact.Pause.TheVariants.{Ask, Memory}
use Rattle.config_search.specs.declared.fact.Question.{Question}
use Rattle.config_search.specs.declared.halt.Halt.{Halt}
use Rattle.config_search.specs.declared.halt.Halt.TheVariants.{Pauses, Stops, Fails}
use Rattle.config_search.specs.declared.rounds.Conditions.{Conditions}
use Rattle.config_search.specs.declared.rounds.Phase.{Phase}
use Rattle.config_search.specs.declared.rounds.Phase.TheVariants as phase
use Rattle.config_search.specs.declared.rounds.Remotes.{Remotes}
use Rattle.config_search.specs.declared.rounds.Rounds.{Rounds}
use Rattle.config_search.proofs.RoundSteps.{round_begins}

any_left : {X : Type 0} (P : X → Type 0) (xs ys : List X) → Any P xs → Any P (xs ++ ys)
any_left P xs ys (k, x, within, at, holds) =
    (k, x, omega (arith, within, length-append xs ys), get_or-append xs ys x k within ∙ at, holds)

or_have : (a b : Bool) (read : List ReadEntry) (it : ReadEntry) → HaveCondition a read → HasUrlCondition
    it.entry b
    → HaveCondition (a || b) (read ++ it ∷ [])
or_have true b read it have is = any_left (λ it. HasUrlCondition it.entry true) read (it ∷ []) have
or_have false true read it have is = Any-push (λ it. HasUrlCondition it.entry true) read it is
or_have false false read it have is = All-push (λ it. HasUrlCondition it.entry false) read it have is

-- it asks for nothing
abbrev pub EndsOnly : Result (Unit {0}) Halt → Type 0
EndsOnly (Err (Pauses (Ask question))) = ⊥
EndsOnly _ = ⊤

-- whether the entries that are received have a condition on the URLs of remotes
pub finds_more : {old new : Conditions} {more : List ReadEntry} (read : List ReadEntry)
    → ReceivesEach FindsCondition old more new → HaveCondition old.has read → HaveCondition new.has
    (read ++ more)
finds_more read nothing have = rw (append-nil read) have
finds_more read (one_more {read = more} {so_far = so_far} it each (one, is, same)) have =
    rw (same, sym (append_assoc read more (it ∷ []))) (or_have so_far.has one (read ++ more) it
    (finds_more read each have) is)

-- the URLs of remotes that the entries have that are received
pub urls_more : {old new : Remotes} {more : List ReadEntry} (read : List ReadEntry)
    → ReceivesEach FindsUrl old more new → AreUrls read (texts_of old) → AreUrls (read ++ more) (texts_of new)
urls_more read nothing are = rw (append-nil read) are
urls_more read (one_more {read = more} it each (url, is, same)) are =
    rw (same, sym (append_assoc read more (it ∷ []))) (one_entry it url (urls_more read each are) is)

module _ (system : System) (start : List ℕ) where
  -- the same texts are right
  pub right_of : (old new : Rounds) (opened : End) → AreSame old new → AreRightTexts system start old opened
      → AreRightTexts system start new opened
  right_of old new opened same right = rw same.0 right

  same_phase : (old new : Rounds) (opened : End) (read : List ReadEntry) (p : Phase) → AreSame old new
      → new.round ≡ old.round → InPhase system start old opened read p → InPhase system start new opened
      read p
  same_phase old new opened read (phase.Asks conditions) same round is = rw (same.0, same.1, round) is
  same_phase old new opened read (phase.Seeks remotes) same round is = rw (same.0, same.1, round) is
  same_phase old new opened read phase.Plain same round is = rw (same.0, same.1, round) is

  pub same_rounds : (old new : Rounds) (opened : End) (read : List ReadEntry) → AreSame old new
      → new.round ≡ old.round → new.phase ≡ old.phase → InRounds system start old opened read
      → InRounds system start new opened read
  same_rounds old new opened read same round to is = rw to (same_phase old new opened read old.phase same
      round is)

  -- a phase begins once it is known whether a condition asks
  pub begins_after : (old new : Rounds) (have : Bool) (next : Phase) (opened : End) → AreSame old new
      → IsAfter have next
      → new.phase ≡ next → new.round.done ≡ 0 → new.round.reader ≡ None
      → ((first : List ReadEntry) × (earlier : End)
      × ReadsOpened system start old.known (texts_in old) opened first earlier × HaveCondition have first)
      → InRounds system start new opened []
  begins_after old new true (phase.Seeks remotes) opened same after is done reader
      (first, earlier, reads, have) =
      rw is (
        refl,
        (first, earlier, rw (same.0, same.1) reads, have),
        (
          [],
          round_begins system start (knowing new.known Sought) new.texts.list.items new.round done reader,
          rw after no_entry,
        ),
      )
  begins_after old new true (phase.Asks conditions) opened same after is done reader found = absurd after
  begins_after old new true phase.Plain opened same after is done reader found = absurd after
  begins_after old new false phase.Plain opened same after is done reader
      (first, earlier, reads, have) = rw is (
        λ asks. (first, earlier, rw (same.0, same.1) reads, have),
        round_begins system start new.known new.texts.list.items new.round done reader,
      )
  begins_after old new false (phase.Asks conditions) opened same after is done reader found = absurd after
  begins_after old new false (phase.Seeks remotes) opened same after is done reader found = absurd after

  -- a round that pauses while it is not known whether a condition asks
  pub finds_halt : (to : Rounds) (old new : Conditions) (first : List ReadEntry) (opened : End)
      (halt : Halt) (pause : Pause)
      → PausesAs halt pause → HaveCondition old.has first
      → (IsKept {A = Unit {0}} (Err halt) → (more : List ReadEntry) × ReceivesEach FindsCondition old more new
      × RoundsTo system start to.known to.texts opened to.round (first ++ more) (Err halt))
      → FindsInRound system start to opened new (Err pause)
  finds_halt to old new first opened (Pauses (Ask question)) pause same have reads =
      let (more, each, round) = reads tt in rw same (first ++ more, round, finds_more first each have)
  finds_halt to old new first opened (Pauses (Memory error)) pause same have reads = rw same tt
  finds_halt to old new first opened (Fails error) (Memory refused) same have reads = tt
  finds_halt to old new first opened (Fails error) (Ask question) same have reads = absurd same
  finds_halt to old new first opened (Stops told) pause same have reads = absurd same

-- what asks is no stop, and nothing fails
pub asks_only : (halt : Halt) (question : Question) → PausesAs halt (Ask question) → halt ≡ Pauses
    (Ask question)
asks_only (Pauses pause) question same = ap Pauses (sym same)
asks_only (Fails error) question same = absurd same
asks_only (Stops told) question same = absurd same

-- while that is not known, nothing is handed on
pub keeps_pause : (facts : List Fact) (start : List ℕ) (old mid new : Rounds)
    (conditions after : Conditions) (pause : Pause)
    → old.phase ≡ phase.Asks conditions → AreSame old mid → AreSame mid new → new.round ≡ mid.round
    → new.phase ≡ phase.Asks after
    → ((system : System) (opened : End) (first : List ReadEntry) → AreTrueIn system facts
    → AreRightTexts system start old opened → InRoundOf system start old.known old first → HaveCondition
    conditions.has first
    → FindsInRound system start mid opened after (Err pause))
    → KeepsRounds facts start old new (Err pause)
keeps_pause facts start old mid new conditions after (Memory error) is same also round to finds =
    (also.0 ∙ same.0, also.1 ∙ same.1)
keeps_pause facts start old mid new conditions after (Ask question) is same also round to finds = (
  (also.0 ∙ same.0, also.1 ∙ same.1),
  λ system opened read agrees right are.
      let (empty, (first, come, have)) = rw is at are in
      let (more, comes, now) = finds system opened first agrees right come have in
      rw to (empty, (more, rw (also.0, also.1, round) comes, now)),
)

module _ (facts : List Fact) (start : List ℕ) {R : Type 0} (receives : R → ReadEntry → R → Type 0) where
  -- such a pause of rounds
  pub pauses : (old new : Rounds) (receiver : R) (pause : Pause) → KeepsRounds facts start old new (Err pause)
      → GoesRounds facts start receives old new receiver receiver (Err (Pauses pause))
  pauses old new receiver (Ask question) (same, keeps) = (
    same,
    λ kept. (
      [],
      nothing,
      λ system opened read agrees right are.
          rw (append-nil read) (keeps system opened read agrees right are),
    ),
  )
  pauses old new receiver (Memory error) same = (same, λ kept. absurd kept)

module _ (system : System) (start : List ℕ) where
  -- the URLs of remotes are sought, or Git stops at that
  pub seeks_halt : (old new : Rounds) (before after : Remotes) (opened : End) (read : List ReadEntry)
      (halt : Halt)
      → AreSame old new → new.phase ≡ phase.Seeks after → (read ≡ []) → AskForUrls system start old opened
      → (all : List ReadEntry) → AreUrls all (texts_of before)
      → (IsKept {A = Unit {0}} (Err halt) → (more : List ReadEntry) × ReceivesEach FindsUrl before more after
      × RoundsTo system start (knowing old.known Sought) old.texts opened new.round (all ++ more) (Err halt))
      → HaltsRounds system start new opened read halt
  seeks_halt old new before after opened read (Pauses (Ask question)) same to empty asks all are reads =
      let (more, each, round) = reads tt in
      rw to (
        empty,
        rw (same.0, same.1) asks,
        (
          all ++ more,
          rw (same.0, same.1) round,
          urls_more all each
              are,
        ),
      )
  seeks_halt old new before after opened read (Pauses (Memory error)) same to empty asks all are reads = tt
  seeks_halt old new before after opened read (Fails error) same to empty asks all are reads = tt
  seeks_halt old new before after opened read (Stops told) same to empty (first, earlier, opens, any) all
      are reads =
      let (more, each, (stop, stops, tells)) = reads tt in
      (stop, rw (same.0, same.1, empty) (in_urls first (all ++ more) earlier opens any stops), tells)

  -- the only round ends, or halts
  pub plain_ends : (old new : Rounds) (opened : End) (read : List ReadEntry) (result : Result (Unit {0}) Halt)
      → AreSame old new → new.phase ≡ phase.Plain → AskForNone system start old opened
      → RoundsTo system start old.known old.texts opened new.round read result
      → EndsRounds system start new opened read result
  plain_ends old new opened read (Ok done) same to asks ends = rw (same.0, same.1) (plain asks ends)
  plain_ends old new opened read (Err (Pauses (Ask question))) same to asks ends =
      rw to (rw (same.0, same.1) asks, rw (same.0, same.1) ends)
  plain_ends old new opened read (Err (Pauses (Memory error))) same to asks ends = tt
  plain_ends old new opened read (Err (Fails error)) same to asks ends = tt
  plain_ends old new opened read (Err (Stops told)) same to asks (stop, ends, tells) =
      (stop, rw (same.0, same.1) (plain asks ends), tells)

  -- the last round ends, in which the URLs are known
  pub url_ends : (old new : Rounds) (opened : End) (read more : List ReadEntry)
      (are : Bor (List (Bor (List ℕ))))
      (remotes : Remotes) (result : Result (Unit {0}) Halt) → AreSame old new → HasSought system start old
      opened read remotes
      → map (λ url. url.now) are.now ≡ texts_of remotes → EndsOnly result
      → RoundsTo system start (knowing old.known (Urls are)) old.texts opened new.round more result
      → EndsRounds system start new opened (read ++ more) result
  url_ends old new opened read more are remotes (Ok done) same
      (empty, begun, none, (first, earlier, opens, any), (all, sought, urls)) is only ends =
      rw (same.0, same.1, empty) (by_urls first all earlier are opens any sought (rw is urls) ends)
  url_ends old new opened read more are remotes (Err (Stops told)) same
      (empty, begun, none, (first, earlier, opens, any), (all, sought, urls)) is only (stop, ends, tells) = (
        stop,
        rw (same.0, same.1, empty) (by_urls first all earlier are opens any sought (rw is urls) ends),
        tells,
      )
  url_ends old new opened read more are remotes (Err (Pauses (Ask question))) same has is only
      ends = absurd only
  url_ends old new opened read more are remotes (Err (Pauses (Memory error))) same has is only ends = tt
  url_ends old new opened read more are remotes (Err (Fails error)) same has is only ends = tt
