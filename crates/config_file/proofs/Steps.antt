-- What steps take off a walk.
use Rattle.std.proofs.Common.{arith, ◌≡◌, ◌≤◌, ◌+◌, ◌-◌, ◌++◌, ◌||◌, ℕ, Bool, true, false, List, [], ◌∷◌, None}
use Rattle.std.proofs.Common.{Some, Option, Ok}
use Rattle.std.proofs.Common.{subst, refl, sym, ap, length, option_map}
use Rattle.std.specs.Prelude.{reverse}
use Rattle.std.proofs.lemmas.List.{append_assoc, append-nil, reverse-append, length-reverse, length-append}
use Rattle.config_file.specs.File as file
use Rattle.config_file.specs.File.{Entry, IsFile, Begins, Reads}
use Rattle.config_file.specs.Left.{HasLeft, GivesEntry}
use Rattle.config_file.specs.Views.{entry_of, section_of}
use Rattle.config_file.specs.declared.entry.Entry as code
use Rattle.config_file.specs.declared.errors.FileError.{FileError}
use Rattle.config_file.specs.declared.reader.Entries.{Entries}
use Rattle.config_file.specs.declared.walk.FilePlace.{FilePlace}
use Rattle.config_file.specs.declared.walk.Known.{Known}
use Rattle.config_file.specs.declared.walk.Include.{Include}
use Rattle.config_file.specs.declared.walk.Include.TheVariants.{NotFollowed, MissingValue, UnknownDirectory}
use Rattle.config_file.specs.declared.walk.Include.TheVariants.{Named}
use Rattle.config_file.specs.declared.walk.Include.TheVariants as what
use Rattle.config_file.specs.declared.walk.Frame.{Frame}
use Rattle.config_file.specs.declared.walk.Step.TheVariants as step
use Rattle.config_file.specs.Walk.{Content, Item, Stop, Found, Stops, Walks, WalksText, IncludesFile}
use Rattle.config_file.specs.Walk.{in_file}
use Rattle.config_file.specs.Walk as w
use Rattle.config_file.specs.Reading.Walks.{LeftOf, nothing, goes_on, is_cut, Left, Enters, Said, Passes, Asks, Takes}
use Rattle.config_file.specs.Reading.Walks.{none_allowed, IsIncludeIn, ForbidsBelow}
use Rattle.config_file.specs.Include.{Forbids}
use Rattle.config_file.specs.Reading.Adds.{Within}
use Rattle.config_file.proofs.EachReading.{are_read}

abbrev found_at : FilePlace → Entry → List (List ℕ × Item)
found_at place entry = in_file place (Found entry) ∷ []

abbrev stop_at : FilePlace → Entry → Stop → List (List ℕ × Item)
stop_at place entry stop = in_file place (Found entry) ∷ in_file place (Stops stop) ∷ []

-- so many files above, an entry of this file puts these items before those of a walk; the flag says that Git allows
-- no URL of a remote in the file
abbrev Puts : (List ℕ → Content → Type 0) → Known → ℕ → Bool → FilePlace → Entry → List (List ℕ × Item) → Type 0
Puts contents known above here place entry front = (depth : ℕ) (entries : List Entry) (error : Option FileError)
    (items : List (List ℕ × Item)) (whole : Bool) → above + depth ≡ 10
    → Walks contents known depth here place entries error items whole
    → Walks contents known depth here place (entry ∷ entries) error (front ++ items) whole

turned : {frames : List Frame} (below : List Frame) (f : Frame) → frames ≡ below ++ f ∷ []
    → reverse frames ≡ f ∷ reverse below
turned below f e = rw e (reverse-append below (f ∷ []))

-- each reader has entries left, up to the end of its text or to an error
some_left : (reader : Entries) → (left : List Entry) × (error : Option FileError) × HasLeft reader left error
some_left reader =
    are_read (length reader.rest.now) (option_map section_of reader.section) reader.line reader.rest.now (omega arith)

depth_of : (below : List Frame) (f : Frame) (old : List Frame) → old ≡ below ++ f ∷ [] → length old ≤ 11
    → length (reverse below) + (10 - length (reverse below)) ≡ 10
depth_of below f old e fits = omega (arith, ap length e, length-append below (f ∷ []), length-reverse below)

-- a walk over some contents is one over more, and a whole walk is one that may be cut
pub walks_as : {some all : List ℕ → Content → Type 0} {known : Known} {depth : ℕ} {here : Bool}
    {place : FilePlace} {entries : List Entry} {error : Option FileError} {items : List (List ℕ × Item)} {whole : Bool}
    → Within some all → (kept : Bool) → (kept ≡ true → whole ≡ true)
    → Walks some known depth here place entries error items whole
    → Walks all known depth here place entries error items kept
walks_as more true so w.cut = cc (so refl)
walks_as more false so w.cut = w.cut
walks_as more kept so w.ends = w.ends
walks_as more kept so w.line = w.line
walks_as more kept so (w.plain not free walks) = w.plain not free (walks_as more kept so walks)
walks_as more kept so (w.forbidden_url not is walks) = w.forbidden_url not is (walks_as more kept so walks)
walks_as more kept so (w.missing name is has walks) = w.missing name is (more name _ has) (walks_as more kept so walks)
walks_as more kept so (w.included less at text forbids inner end within is has says reads deep first walks) =
    w.included less at text forbids inner end within is (more at.name.now _ has) says reads deep
    (walks_as more true (λ e. e) first) (walks_as more kept so walks)
walks_as more true so (w.cut_within less at text forbids inner end within is has says reads deep first) = cc (so refl)
walks_as more false so (w.cut_within less at text forbids inner end within is has says reads deep first) =
    w.cut_within less at text forbids inner end within is (more at.name.now _ has) says reads deep
    (walks_as more false (λ e. e) first)
walks_as more kept so (w.no_value is walks) = w.no_value is (walks_as more kept so walks)
walks_as more kept so (w.unknown is walks) = w.unknown is (walks_as more kept so walks)
walks_as more kept so (w.not_read name is has walks) = w.not_read name is (more name _ has) (walks_as more kept so walks)
walks_as more kept so (w.too_deep name real_dir text is has deep walks) =
    w.too_deep name real_dir text is (more name _ has) deep (walks_as more kept so walks)

module _ {contents : List ℕ → Content → Type 0} {known : Known} where
  -- a frame of which nothing is left adds nothing
  pub exhausted : {items : List (List ℕ × Item)} {whole : Bool} (old below : List Frame) (f : Frame)
      → old ≡ below ++ f ∷ [] → length old ≤ 11
      → HasLeft f.entries [] None → Left contents known below items whole → Left contents known old items whole
  exhausted old below f e fits has rest =
      rw (turned below f e) (goes_on (10 - length (reverse below)) [] None [] (depth_of below f old e fits) has w.ends rest)

  -- at a line that cannot be read the file ends, and Git stops
  pub invalid : {items : List (List ℕ × Item)} {whole : Bool} (old below : List Frame) (f : Frame)
      (error : FileError) → old ≡ below ++ f ∷ [] → length old ≤ 11
      → HasLeft f.entries [] (Some error) → Left contents known below items whole
      → Left contents known old (in_file f.place (Stops (w.Line error)) ∷ items) whole
  invalid old below f error e fits has rest =
      rw (turned below f e) (goes_on (10 - length (reverse below)) [] (Some error) (in_file f.place (Stops (w.Line error)) ∷ [])
      (depth_of below f old e fits) has w.line rest)

  -- the walk goes on after this entry, which gives these items
  passes : {f next : Frame} {below : List Frame} {items : List (List ℕ × Item)} {whole : Bool} (entry : code.Entry)
      (front : List (List ℕ × Item)) → GivesEntry f.entries (Some (Ok entry)) next.entries → next.place ≡ f.place
      → Puts contents known (length below) (none_allowed below) f.place (entry_of entry) front
      → LeftOf contents known (next ∷ below) items whole
      → LeftOf contents known (f ∷ below) (front ++ items) whole
  passes entry front gives same puts (goes_on {rest = rest} depth inner end within deep has walks others) =
      rw (sym (append_assoc front within rest)) (goes_on depth (entry_of entry ∷ inner) end (front ++ within) deep
      (gives inner end has) (puts depth inner end within true deep (rw same at walks)) others)
  passes entry front gives same puts (is_cut depth inner end within deep has walks) =
      is_cut depth (entry_of entry ∷ inner) end (front ++ within) deep (gives inner end has)
      (puts depth inner end within false deep (rw same at walks))

  -- the walk goes on in the file that this entry includes
  goes_in : {f next entered : Frame} {below : List Frame} {items : List (List ℕ × Item)} {whole : Bool}
      (entry : code.Entry) (text : List ℕ) → GivesEntry f.entries (Some (Ok entry)) next.entries
      → next.place ≡ f.place → (forbids : Bool) → Forbids known.includes (entry_of entry) forbids
      → next.forbids_urls ≡ (none_allowed below || forbids)
      → IncludesFile known f.place (entry_of entry) entered.place.name.now
      → contents entered.place.name.now (w.Text entered.place.real_dir.now text)
      → ((left : List Entry) (error : Option FileError) → HasLeft entered.entries left error → IsFile text left error)
      → LeftOf contents known (entered ∷ next ∷ below) items whole
      → LeftOf contents known (f ∷ below) (in_file f.place (Found (entry_of entry)) ∷ items) whole
  goes_in {f = f} {entered = entered} entry text gives same forbids says flag is said reads
      (goes_on less inside last within deep has walks left) =
      passes entry (in_file f.place (Found (entry_of entry)) ∷ within) gives same
      (λ depth entries error more whole length_is others. w.included less entered.place text forbids inside last within
      is said says (reads inside last has) (omega arith) (rw flag at walks) others) left
  goes_in {f = f} {next = next} {entered = entered} {below = below} entry text gives same forbids says flag is said
      reads (is_cut less inside last within deep has walks) =
      let (inner, end, more) = some_left next.entries in
      is_cut (less + 1) (entry_of entry ∷ inner) end (in_file f.place (Found (entry_of entry)) ∷ within) (omega arith)
      (gives inner end more)
      (w.cut_within less entered.place text forbids inside last within is said says (reads inside last has) refl
      (rw flag at walks))

pub file_begins : (reader : Entries) (text : List ℕ) (left : List Entry) (error : Option FileError)
    → reader.section ≡ None
    → Begins text reader.line reader.rest.now → HasLeft reader left error → IsFile text left error
file_begins reader text left error fresh begins has = record {
  line = reader.line;
  rest = reader.rest.now;
  begins = begins;
  reads = subst (λ s. Reads (option_map section_of s) reader.line reader.rest.now left error) fresh has;
}

empty_rest : {line : ℕ} {text rest : List ℕ} → Begins text line rest → text ≡ [] → rest ≡ []
empty_rest (file.marked e) none = absurd (cc)
empty_rest (file.part_of_mark is) none = absurd (rw none at is)
empty_rest (file.unmarked e not) none = none

-- an empty text has no entries left
pub nothing_left : (reader : Entries) → Begins [] reader.line reader.rest.now → HasLeft reader [] None
nothing_left reader begins = rw (empty_rest begins refl) file.ends

pub enters : (old new : List Frame) (place : FilePlace) (text : List ℕ) (reader : Entries)
    → reader.section ≡ None
    → Begins text reader.line reader.rest.now → new ≡ old ++ record { place = place; entries = reader; forbids_urls = false } ∷ []
    → Enters old place text new
enters old new place text reader fresh begins e = (
  record { place = place; entries = reader; forbids_urls = false },
  e,
  refl,
  λ left error has. file_begins reader text left error fresh begins has,
)

only : {contents : List ℕ → Content → Type 0} {known : Known} {place : FilePlace} {text : List ℕ} {f : Frame}
    {items : List (List ℕ × Item)} {whole : Bool} → f.place ≡ place
    → ((left : List Entry) (error : Option FileError) → HasLeft f.entries left error → IsFile text left error)
    → LeftOf contents known (f ∷ []) items whole → WalksText contents known place text items whole
only at reads (goes_on {whole = whole} depth inner end within deep has walks nothing) =
    let ten : depth ≡ 10 = omega arith in (
      inner,
      end,
      reads inner end has,
      rw (append-nil within) (rw (ten, at) at (walks_as (λ n c is. is) whole (λ e. refl) walks)),
    )
only at reads (is_cut depth inner end within deep has walks) =
    let ten : depth ≡ 10 = omega arith in (inner, end, reads inner end has, rw (ten, at) at walks)

-- what is left of a walk of one text is the walk of it
pub all_of : (contents : List ℕ → Content → Type 0) (known : Known) (place : FilePlace) (text : List ℕ)
    (frames : List Frame) (items : List (List ℕ × Item)) (whole : Bool) → Enters [] place text frames
    → Left contents known frames items whole → WalksText contents known place text items whole
all_of contents known place text frames items whole (f, e, at, reads) left =
    only {text = text} at reads (rw (turned [] f e) at left)

cut_of : {contents : List ℕ → Content → Type 0} {known : Known} (frames : List Frame) → length frames ≤ 11
    → LeftOf contents known frames [] false
cut_of [] fits = nothing
cut_of (f ∷ below) fits =
    let (inner, end, has) = some_left f.entries in
    is_cut (10 - length below) inner end [] (omega arith) has w.cut

-- each walk may be cut
pub cut_here : (contents : List ℕ → Content → Type 0) (known : Known) (frames : List Frame)
    → length frames ≤ 11
    → Left contents known frames [] false
cut_here contents known frames fits = cut_of (reverse frames) (omega (arith, length-reverse frames))

-- an entry and what it includes are taken off the frames that a loop began with
module _ (answers : List (List ℕ × Content)) (known : Known) (start old new below : List Frame) (f next : Frame)
    (entry : code.Entry)
    (from : (items : List (List ℕ × Item)) (whole : Bool) → Left (Said answers) known old items whole
    → Left (Said answers) known start items whole)
    (opens : old ≡ below ++ f ∷ []) (leaves : new ≡ below ++ next ∷ []) (same : next.place ≡ f.place)
    (gives : GivesEntry f.entries (Some (Ok entry)) next.entries) where
  passed : (front : List (List ℕ × Item))
      → Puts (Said answers) known (length (reverse below)) (none_allowed (reverse below)) f.place (entry_of entry) front
      → Passes answers known start front new
  passed front puts items whole has =
      from _ _ (rw (turned below f opens) (passes entry front gives same puts (rw (turned below next leaves) at has)))

  asks : (name : List ℕ) (forbids : Bool) → Forbids known.includes (entry_of entry) forbids
      → next.forbids_urls ≡ (none_allowed (reverse below) || forbids) → IncludesFile known f.place (entry_of entry) name
      → Asks answers known start f.place (entry_of entry) name new
  asks name forbids says flag is = record {
    missing = λ said. passed (found_at f.place (entry_of entry))
        (λ depth entries error more whole deep walks. w.missing name is said walks);
    not_read = λ said. passed (stop_at f.place (entry_of entry) (w.NotRead (entry_of entry)))
        (λ depth entries error more whole deep walks. w.not_read name is said walks);
    too_deep = λ real_dir text said full. passed (stop_at f.place (entry_of entry) (w.TooDeep (entry_of entry)))
        (λ depth entries error more whole deep walks.
        let none : depth ≡ 0 = omega (arith, ap length leaves, length-append below (next ∷ []), length-reverse below) in
        w.too_deep name real_dir text is said none walks);
    entered = λ at text frames named said enters items whole has.
        let (g, e, place, reads) = enters in
        from _ _ (rw (turned below f opens) (goes_in entry text gives same forbids says flag (rw (place, named) is) (rw place said) reads
        (rw (turned new g e, turned below next leaves) at has)));
  }

  pub takes : (include : Include) → IsIncludeIn known f.place (none_allowed (reverse below)) (entry_of entry) include
      → ForbidsBelow known.includes (none_allowed (reverse below)) (entry_of entry) include next.forbids_urls
      → Takes answers known start (step.Entry f.place entry include) new
  takes NotFollowed is below = passed (found_at f.place (entry_of entry))
      (λ depth entries error more whole deep walks. w.plain is.0 is.1 walks)
  takes what.ForbiddenUrl is below = passed (stop_at f.place (entry_of entry) (w.ForbiddenUrl (entry_of entry)))
      (λ depth entries error more whole deep walks. w.forbidden_url is.0 is.1 walks)
  takes MissingValue is below = passed (stop_at f.place (entry_of entry) (w.NoValue (entry_of entry)))
      (λ depth entries error more whole deep walks. w.no_value is walks)
  takes UnknownDirectory is below = passed (stop_at f.place (entry_of entry) (w.Unknown (entry_of entry)))
      (λ depth entries error more whole deep walks. w.unknown is walks)
  takes (Named name) is (forbids, says, flag) = asks name.items forbids says flag is
