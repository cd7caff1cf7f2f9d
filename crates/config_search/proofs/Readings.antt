-- A text that is read an entry at a time.
use Rattle.std.proofs.Common.{◌≡◌, ◌<◌, ◌≤◌, ◌++◌, ◌∷◌, ◌∙◌, ◌||◌, [], ℕ, Bool, List, None, Some, Ok, inl}
use Rattle.std.proofs.Common.{arith, ap, get_or, codes, length, map, refl, subst, sym, true, false}
use Rattle.std.proofs.Common.{true≢false}
use denote.Ref.{Bor}
use Rattle.std.specs.Global.{Vec}
use Rattle.std.proofs.lemmas.List.{append_assoc, append-nil, map-append}
use Rattle.std.proofs.lemmas.Option.{same_Some}
use Rattle.config_file.specs.File.{Entry}
use Rattle.config_file.specs.Left.{Advances, GivesEntry, last_entry}
use Rattle.config_file.specs.Reading.Adds.{Comes}
use Rattle.config_file.specs.Reading.Ends.{FitsEntry, FitsForm}
use Rattle.config_file.specs.Reading.Walks.{Enters, LeftOf, Passes, Said, Takes, goes_on, is_cut}
use Rattle.config_file.specs.Settings.{found_item, line_of, why_of, IsSaid, IsStop}
use Rattle.config_file.specs.Views.{entry_of}
use Rattle.config_file.specs.Walk.{Content, IsInclude, Item, Missing, Stops, Text, Unreadable}
use Rattle.config_file.specs.Walk as w
use Rattle.config_file.specs.declared.entry.Entry as code
use Rattle.config_file.specs.declared.entry.EntryForm.{EntryForm}
use Rattle.config_file.specs.declared.entry.EntryForm.TheVariants.{Alone, Plain, Marked, Refused}
use Rattle.config_file.specs.declared.errors.FileError.{FileError}
use Rattle.config_file.specs.declared.errors.Stop.{Stop as Told}
use Rattle.config_file.specs.declared.errors.Why.{Why}
use Rattle.config_file.specs.declared.errors.Why.TheVariants as because
use Rattle.config_file.specs.declared.reader.Entries.{Entries}
use Rattle.config_file.specs.declared.walk.FilePlace.{FilePlace}
use Rattle.config_file.specs.declared.walk.Frame.{Frame}
use Rattle.config_file.specs.declared.walk.Include.{Include}
use Rattle.config_file.specs.declared.walk.Include.TheVariants.{NotFollowed, Named as of_name}
use Rattle.config_file.specs.declared.walk.Known.{Known}
use Rattle.config_file.specs.declared.walk.Step.TheVariants as step
use Rattle.config_file.proofs.Coming.{came_on, comes_on, deep_next, ends_next, entered_next, line_next}
use Rattle.config_file.proofs.Coming.{passed_next, stop_comes, walked, walked_all}
use Rattle.config_file.proofs.Steps.{cut_here, takes}
use Rattle.config_search.specs.System.{System}
use Rattle.config_search.specs.Names.{begins}
use Rattle.config_search.specs.Reads.{Holds, HoldsFor, ReadEntry, with_scope}
use Rattle.config_search.specs.Receiving.{ReceivesEach, nothing, one_more}
use Rattle.config_search.specs.Reading.{Gets, HaltsIn, HasComeTo, IsCopy, IsWaiting, ReadsPlain, StopsAs}
use Rattle.config_search.specs.Reading.{StopsHere, StopsIn, in_one}
use Rattle.config_search.specs.declared.halt.Halt.{Halt}
use Rattle.config_search.specs.declared.halt.Halt.TheVariants as halts
use Rattle.config_search.specs.declared.reader.Reader.{Reader}
use Rattle.config_search.specs.declared.reader.Source.{Source}
use Rattle.config_search.specs.declared.reader.Waits.{Waits}
use Rattle.config_file.specs.declared.scope.Scope.{Scope}

-- entries that are received, and then more
pub each_both : {R : Type 0} {receives : R → ReadEntry → R → Type 0} {old mid new : R}
    {read more : List ReadEntry}
    → ReceivesEach receives old read mid → ReceivesEach receives mid more new → ReceivesEach receives old
    (read ++ more) new
each_both {read = read} first nothing = rw (append-nil read) first
each_both {read = read} first (one_more {read = more} it so_far gets) =
    rw (sym (append_assoc read more (it ∷ []))) (one_more it (each_both first so_far) gets)

module _ {R : Type 0} (receives : R → ReadEntry → R → Type 0) (scope : Scope) where
  pub gets_none : (old : R) → Gets receives scope old [] old
  gets_none old = nothing

  pub gets_one : (old new : R) (one : List ℕ × Entry) → receives old (with_scope scope one) new
      → Gets receives scope old (one ∷ []) new
  gets_one old new one gets = one_more (with_scope scope one) nothing gets

  pub gets_both : (old mid new : R) (found more : List (List ℕ × Entry)) → Gets receives scope old found mid
      → Gets receives scope mid more new → Gets receives scope old (found ++ more) new
  gets_both old mid new found more first second = rw (map-append (with_scope scope) found more)
      (each_both first second)

-- what is received in two steps
pub and_more : {R : Type 0} (receives : R → ReadEntry → R → Type 0) (scope : Scope) (old now new : R)
    (Agrees : System → Type 0) (From Mid To : System → List (List ℕ × Entry) → Type 0)
    → ((more : List (List ℕ × Entry)) × Gets receives scope old more now
    × ((system : System) (found : List (List ℕ × Entry)) → Agrees system → From system found → Mid system
    (found ++ more)))
    → ((more : List (List ℕ × Entry)) × Gets receives scope now more new
    × ((system : System) (found : List (List ℕ × Entry)) → Agrees system → Mid system found → To system
    (found ++ more)))
    → ((more : List (List ℕ × Entry)) × Gets receives scope old more new
    × ((system : System) (found : List (List ℕ × Entry)) → Agrees system → From system found → To system
    (found ++ more)))
and_more receives scope old now new Agrees From Mid To (first, gets, goes) (second, gets2, goes2) = (
  first ++ second,
  gets_both receives scope old now new first second gets gets2,
  λ system found agrees come. rw (append_assoc found first second) at
      (goes2 system (found ++ first) agrees (goes system found agrees come)),
)

-- the same, where the source is told apart
pub and_more_of : {R : Type 0} (receives : R → ReadEntry → R → Type 0) (source other : Source) → other
    ≡ source
    → (old now new : R) (Agrees : System → Type 0) (From : System → List (List ℕ × Entry) → Type 0)
    (Mid To : Source → System → List (List ℕ × Entry) → Type 0)
    → ((more : List (List ℕ × Entry)) × Gets receives source.scope old more now
    × ((system : System) (found : List (List ℕ × Entry)) → Agrees system → From system found → Mid source
    system (found ++ more)))
    → ((more : List (List ℕ × Entry)) × Gets receives other.scope now more new
    × ((system : System) (found : List (List ℕ × Entry)) → Agrees system → Mid other system found → To
    other system (found ++ more)))
    → ((more : List (List ℕ × Entry)) × Gets receives source.scope old more new
    × ((system : System) (found : List (List ℕ × Entry)) → Agrees system → From system found → To source
    system (found ++ more)))
and_more_of receives source other same old now new Agrees From Mid To first second =
    and_more receives source.scope old now new Agrees From (Mid source) (To source) first
    (subst (λ (s : Source). (more : List (List ℕ × Entry)) × Gets receives s.scope now more new
    × ((system : System) (found : List (List ℕ × Entry)) → Agrees system → Mid s system found → To s system
    (found ++ more)))
    same second)

-- the value of an entry that the reader has come to fits the form of the entry
pub fits_entry : (form : EntryForm) (old new : Entries) (entry : code.Entry) → ¬ (form ≡ Refused)
    → entry_of entry ≡ last_entry new form → Advances old (Some form) new → FitsEntry form (entry_of entry)
fits_entry Alone old new entry some is advances = λ raw has. tt
fits_entry Plain old new entry some is (fits, more) = λ raw has.
    let same : new.raw.now ≡ raw = same_Some new.raw.now raw (sym (ap (λ e. e.value) is) ∙ has) in
    subst (FitsForm Plain) same fits
fits_entry Marked old new entry some is advances = λ raw has. tt
fits_entry Refused old new entry some is advances = absurd (some refl)

-- an entry that includes no file is taken off the walk of one file
pub plain_step : (known : Known) (place : FilePlace) (a b : Entries) (entry : code.Entry)
    → GivesEntry a (Some (Ok entry)) b → IsInclude known place (entry_of entry) NotFollowed
    → (answers : List (List ℕ × Content))
    → Passes answers known (in_one place a) (found_item (place.name.now, entry_of entry) ∷ [])
    (in_one place b)
plain_step known place a b entry gives is answers =
    takes answers known (in_one place a) (in_one place a) (in_one place b) []
    (record { place = place; entries = a; forbids_urls = false })
    (record { place = place; entries = b; forbids_urls = false }) entry (λ items whole has. has) refl refl
    refl gives
    NotFollowed (is, λ text listed. (λ no. absurd (true≢false (sym no)), λ both. both.0)) tt

-- entries that are read again from the same place are left as before
as_left : {contents : List ℕ → Content → Type 0} {known : Known} {items : List (List ℕ × Item)} {whole : Bool}
    (a b : Frame) → b.place ≡ a.place → b.entries.section ≡ a.entries.section → b.entries.line
    ≡ a.entries.line
    → b.entries.rest ≡ a.entries.rest
    → LeftOf contents known (b ∷ []) items whole → LeftOf contents known (a ∷ []) items whole
as_left a b place section line rest (goes_on depth inner end within deep has walks others) =
    goes_on depth inner end within deep (rw (section, line, rest) at has) (rw place at walks) others
as_left a b place section line rest (is_cut depth inner end within deep has walks) =
    is_cut depth inner end within deep (rw (section, line, rest) at has) (rw place at walks)

module _ {R : Type 0} (known : Known) (receives : R → ReadEntry → R → Type 0) (scope : Scope)
    (from : List Frame) (old : R)
  where
    pub plain_more : (mid to : List Frame) (now new : R) (one : List ℕ × Entry)
        → ReadsPlain known receives scope from mid old now → receives now (with_scope scope one) new
        → ((answers : List (List ℕ × Content)) → Passes answers known mid (found_item one ∷ []) to)
        → ReadsPlain known receives scope from to old new
    plain_more mid to now new one (found, gets, passes) more step = (
      found ++ one ∷ [],
      gets_both receives scope old now new found (one ∷ []) gets (gets_one receives scope now new one more),
      λ answers left whole has. rw (
        map-append found_item found (one ∷ []),
        append_assoc (map found_item found) (found_item one ∷ []) left,
      )
          (passes answers (found_item one ∷ left) whole (step answers left whole has)),
    )

    -- what is left is read again from the same place
    pub plain_again : (place : FilePlace) (a b : Entries) (new : R) → b.section ≡ a.section → b.line ≡ a.line
        → b.rest ≡ a.rest → ReadsPlain known receives scope from (in_one place a) old new
        → ReadsPlain known receives scope from (in_one place b) old new
    plain_again place a b new section line rest (found, gets, passes) = (
      found,
      gets,
      λ answers left whole has. passes answers left whole
          (as_left (record { place = place; entries = a; forbids_urls = false })
          (record { place = place; entries = b; forbids_urls = false }) refl section line rest has),
    )

    -- the file is the only one of the walk
    pub plain_first : (f : Frame) (to : List Frame) (a b : Entries) (new : R) → from ≡ f ∷ [] → to ≡ in_one
        f.place b
        → a.section ≡ f.entries.section → a.line ≡ f.entries.line → a.rest ≡ f.entries.rest
        → ReadsPlain known receives scope (in_one f.place a) (in_one f.place b) old new
        → ReadsPlain known receives scope from to old new
    plain_first f to a b new alone goes section line rest (found, gets, passes) = rw (alone, goes) (
      found,
      gets,
      λ answers left whole has. as_left f (record { place = f.place; entries = a; forbids_urls = false })
          refl section line
          rest (passes answers left whole has),
    )

pub only_one : {X : Type 0} (xs : List X) (x : X) → 1 ≤ length xs → length xs < 2 → x ≡ get_or xs 0 x → xs
    ≡ x ∷ []
only_one [] x least below is = absurd (omega (arith, least))
only_one (y ∷ []) x least below is = ap (λ z. z ∷ []) (sym is)
only_one (y ∷ z ∷ zs) x least below is = absurd (omega (arith, below))

none_said : (name : List ℕ) (content : Content) → Said [] name content → ⊥
none_said name content said = let below = said.1 in omega arith

-- entries that include no file are read
pub plain_came : (contents : List ℕ → Content → Type 0) (known : Known) (source : Source)
    (frames to : List Frame)
    (found more : List (List ℕ × Entry)) → HasComeTo contents known source found None frames
    → ((answers : List (List ℕ × Content)) → Passes answers known frames (map found_item more) to)
    → HasComeTo contents known source (found ++ more) None to
plain_came contents known source frames to found more (came, same) passes =
    let step : Comes contents known frames (map found_item more ++ []) to = (
      [],
      λ name content said. absurd (none_said name content said),
      λ all within. rw (append-nil (map found_item more)) (passes all),
    ) in (
      record {
        first = came.first;
        enters = came.enters;
        found = came.found ++ more;
        comes = rw (append-nil (map found_item (came.found ++ more))) at (comes_on came more [] to step);
      },
      ap (λ (all : List (List ℕ × Entry)). all ++ more) same,
    )

module _ {contents : List ℕ → Content → Type 0} {known : Known} {source : Source}
    {found : List (List ℕ × Entry)}
    {waits : Waits} {frames : List Frame} (is : IsWaiting contents known source found waits frames) where
  -- an entry whose file is not there is passed
  pub passes : contents waits.name.items Missing → HasComeTo contents known source found None frames
  passes missing = (
    came_on is.came (waits.place.name.now, entry_of waits.entry) frames
        (passed_next contents known is.earlier frames
        waits.place waits.entry (of_name waits.name) is.takes missing),
    sym is.last,
  )

  -- an entry is followed into the text of its file
  pub follows : (newer : List Frame) (at : FilePlace) (text : List ℕ) → at.name.now ≡ waits.name.items
      → contents at.name.now (Text at.real_dir.now text) → Enters frames at text newer
      → HasComeTo contents known source found None newer
  follows newer at text same holds enters = (
    came_on is.came (waits.place.name.now, entry_of waits.entry) newer
        (entered_next contents known is.earlier frames newer
        waits.place at waits.entry (of_name waits.name) text is.takes (same, holds) enters),
    sym is.last,
  )

  -- Git stops at an entry that is followed too deep
  pub too_deep : (at : FilePlace) (text : List ℕ) → at.name.now ≡ waits.name.items
      → contents at.name.now (Text at.real_dir.now text) → length frames ≡ 11
      → w.WalksText contents known source.place source.text.now
      (map found_item found ++ (waits.place.name.now, Stops (w.TooDeep (entry_of waits.entry))) ∷ []) false
  too_deep at text same holds full = rw is.last (walked is.came
      ((waits.place.name.now, entry_of waits.entry) ∷ [])
      ((waits.place.name.now, Stops (w.TooDeep (entry_of waits.entry))) ∷ []) frames false
      (deep_next contents known is.earlier frames waits.place at waits.entry (of_name waits.name) text
      is.takes
      (same, holds) full)
      (λ answers. cut_here (Said answers) known frames (omega (arith, full))))

  -- Git stops at an entry whose file is not read
  pub not_read : contents waits.name.items Unreadable → length frames ≤ 11 → (stop : w.Stop)
      × ((entry_of waits.entry).line ≡ line_of stop) × (because.Unreadable ≡ why_of stop)
      × w.WalksText contents known source.place source.text.now
      (map found_item found ++ (waits.place.name.now, Stops stop) ∷ []) false
  not_read holds small =
      let (stop, tells, comes) = stop_comes contents known is.earlier frames waits.place waits.entry
      (of_name waits.name)
      (record {
        file = waits.place.name;
        line = (entry_of waits.entry).line;
        why = because.Unreadable;
        words = waits.place.name;
      })
      is.takes (refl, holds) (λ other. absurd (other refl)) refl refl in (
        stop,
        tells.line,
        tells.why,
        rw is.last (walked is.came ((waits.place.name.now, entry_of waits.entry) ∷ [])
            ((waits.place.name.now, Stops stop) ∷ []) frames false comes
            (λ answers. cut_here (Said answers) known frames small)),
      )

-- what the file of a name holds, for a text that may include it
pub held_for : (system : System) (start : List ℕ) (is_file : Bool) (name : List ℕ) (content : Content)
    → (is_file || begins (codes "/") name) ≡ true → Holds system start name content
    → HoldsFor system start is_file name content
held_for system start is_file name content may holds = rw may holds

-- and for one that may not
pub refused_for : (system : System) (start : List ℕ) (is_file : Bool) (name : List ℕ)
    → (is_file || begins (codes "/") name) ≡ false → HoldsFor system start is_file name Unreadable
refused_for system start is_file name not = rw not refl

-- what Git stops at is told
module _ (contents : List ℕ → Content → Type 0) (known : Known) (reader : Reader)
    (found : List (List ℕ × Entry)) where
  pub halts_as : (at : Told (Bor (List ℕ))) (halt : Halt) → StopsAs at halt
      → ((told : Told (Vec ℕ)) → IsCopy at told → StopsIn contents known reader.source found told)
      → HaltsIn contents known reader found halt
  halts_as at (halts.Stops told) is stops = stops told is
  halts_as at (halts.Pauses pause) is stops = absurd is
  halts_as at (halts.Fails error) is stops = absurd is

  pub halts_here : (file : List ℕ) (line : ℕ) (why : Why) (halt : Halt) → StopsHere file line why halt
      → ((told : Told (Vec ℕ)) → told.file.items ≡ file → told.line ≡ line → told.why ≡ why
      → StopsIn contents known reader.source found told)
      → HaltsIn contents known reader found halt
  halts_here file line why (halts.Stops told) is stops = stops told is.0 is.1 is.2
  halts_here file line why (halts.Pauses pause) is stops = absurd is
  halts_here file line why (halts.Fails error) is stops = absurd is

module _ (contents : List ℕ → Content → Type 0) (known : Known) (source : Source)
    (found : List (List ℕ × Entry))
    (frames to : List Frame) (came : HasComeTo contents known source found None frames) where
  -- an entry that is passed
  pub one_passed : (place : FilePlace) (entry : code.Entry)
      → ((answers : List (List ℕ × Content)) → Takes answers known frames
      (step.Entry place entry NotFollowed) to)
      → HasComeTo contents known source (found ++ (place.name.now, entry_of entry) ∷ []) None to
  one_passed place entry taken = (
    came_on came.0 (place.name.now, entry_of entry) to (passed_next contents known frames to place entry
        NotFollowed taken tt),
    ap (λ (all : List (List ℕ × Entry)). all ++ (place.name.now, entry_of entry) ∷ []) came.1,
  )

  -- an entry that waits
  pub one_waits : (place : FilePlace) (entry : code.Entry) (name : Vec ℕ)
      → ((answers : List (List ℕ × Content)) → Takes answers known frames
      (step.Entry place entry (of_name name)) to)
      → IsWaiting contents known source (found ++ (place.name.now, entry_of entry) ∷ [])
      (record { place = place; entry = entry; name = name }) to
  one_waits place entry name taken = record {
    earlier = frames;
    came = came.0;
    last = ap (λ (all : List (List ℕ × Entry)). all ++ (place.name.now, entry_of entry) ∷ []) (sym came.1);
    takes = taken;
  }

  -- the end
  pub ends : ((answers : List (List ℕ × Content)) → Takes answers known frames step.Ends to)
      → w.WalksText contents known source.place source.text.now (map found_item (found ++ [])) true
  ends taken = let (none, comes) = ends_next contents known frames to taken in
      rw (append-nil found, sym came.1) (walked_all came.0 (rw none at comes))

  -- a line that cannot be read
  pub line_stops : (place : FilePlace) (at : FileError) (told : Told (Vec ℕ)) → length to ≤ 11
      → ((answers : List (List ℕ × Content)) → Takes answers known frames (step.Line place at) to)
      → told.file.items ≡ place.name.now → told.line ≡ at.line → told.why ≡ at.why
      → StopsIn contents known source (found ++ []) told
  line_stops place at told small taken file line why = (
    place.name.now,
    w.Line at,
    rw (sym came.1) (walked came.0 [] ((place.name.now, Stops (w.Line at)) ∷ []) to false
        (line_next contents known frames to place at taken) (λ answers. cut_here (Said answers) known to
        small)),
    (file, line, inl why),
  )

  -- an entry that is not followed
  pub entry_stops : (place : FilePlace) (entry : code.Entry) (include : Include) (at : Told (Bor (List ℕ)))
      (told : Told (Vec ℕ)) → length to ≤ 11
      → ((answers : List (List ℕ × Content)) → Takes answers known frames (step.Entry place entry include) to)
      → IsStop contents include at.why → IsSaid at.why at.words.now → at.file.now ≡ place.name.now
      → at.line ≡ (entry_of entry).line → IsCopy at told
      → StopsIn contents known source (found ++ (place.name.now, entry_of entry) ∷ []) told
  entry_stops place entry include at told small taken is said file line copy =
      let (stop, tells, comes) = stop_comes contents known frames to place entry include at taken is said
      file line in (
        place.name.now,
        stop,
        rw (sym came.1) (walked came.0 ((place.name.now, entry_of entry) ∷ [])
            ((place.name.now, Stops stop) ∷ []) to false
            comes (λ answers. cut_here (Said answers) known to small)),
        (copy.0 ∙ file, copy.1 ∙ tells.line, inl (copy.2 ∙ tells.why)),
      )
