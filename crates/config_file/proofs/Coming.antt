-- A loop over the steps of a walk: what it comes to, and the settings that are added of that.
use denote.Ref.{Bor}
use Rattle.std.proofs.Common.{ap, arith, inl, inr, sym, ◌∙◌, ◌≡◌, ◌≤◌, ◌++◌, ℕ, Bool, true, false, List, [], ◌∷◌, subst}
use Rattle.std.proofs.Common.{refl, length, map}
use Rattle.std.specs.Prelude.{Ok, Err}
use Rattle.std.proofs.lemmas.List.{append_assoc, append-nil, map-append}
use Rattle.std.proofs.lemmas.List.Elements.{Contains-push, Contains-append_left, Contains-append_right}
use Rattle.std.proofs.lemmas.List.Elements.{Contains-append_cases, Contains-push_cases}
use Rattle.config_file.specs.Errors.{why_text}
use Rattle.config_file.specs.File.{Entry}
use Rattle.config_file.specs.Settings.{AddsEach, AddsWalk, IsSaid, TellsStop, found_item, IsPassed, IsEntered, IsStop, line_of, why_of}
use Rattle.config_file.specs.Walk.{Content, Item, Stops, Stop, WalksText}
use Rattle.config_file.specs.Walk as w
use Rattle.config_file.specs.Reading.Adds.{Comes, AddsNext}
use Rattle.config_file.specs.Reading.Walks.{Left, nothing, Enters, Passes, Said, Takes}
use Rattle.config_file.specs.Views.{entry_of}
use Rattle.config_file.specs.declared.entry.Entry as code
use Rattle.config_file.specs.declared.errors.FileError.{FileError}
use Rattle.config_file.specs.declared.walk.Include.{Include}
use Rattle.config_file.specs.declared.walk.Include.TheVariants.{NotFollowed, MissingValue, UnknownDirectory}
use Rattle.config_file.specs.declared.walk.Include.TheVariants.{Named}
use Rattle.config_file.specs.declared.walk.Include.TheVariants as what
use Rattle.config_file.specs.declared.walk.Step.TheVariants as step
use Rattle.config_file.specs.declared.settings.AddError.{AddError}
use Rattle.config_file.specs.declared.settings.AddError.TheVariants as error
use Rattle.config_file.specs.declared.errors.Stop.{Stop as Told}
use Rattle.config_file.specs.declared.settings.Setting.{Setting}
use Rattle.config_file.specs.declared.walk.Frame.{Frame}
use Rattle.config_file.specs.declared.walk.Known.{Known}
use Rattle.config_file.specs.declared.walk.FilePlace.{FilePlace}
use Rattle.config_file.proofs.Adding.{adds_none, adds_both}
use Rattle.config_file.proofs.Steps.{all_of, cut_here, walks_as}

-- a stop is told in the words of its reason
pub told_in_words : {file : List ℕ} {stop : Stop} {told : Told (Bor (List ℕ))} → told.file.now ≡ file
    → told.line ≡ line_of stop → told.why ≡ why_of stop → told.words.now ≡ why_text (why_of stop)
    → TellsStop file stop told
told_in_words file line why words =
    record { file = file; line = line; why = why; words = λ other. words ∙ ap why_text (sym why) }

none_said : (name : List ℕ) (content : Content) → Said [] name content → ⊥
none_said name content said = let below = said.1 in omega arith

module _ (contents : List ℕ → Content → Type 0) (known : Known) where
  comes_from : (old new : List Frame) (items : List (List ℕ × Item))
      → ((answers : List (List ℕ × Content)) → Passes answers known old items new)
      → Comes contents known old items new
  comes_from old new items passes =
      ([], λ name content said. absurd (none_said name content said), λ more within. passes more)

  comes_with : (old new : List Frame) (items : List (List ℕ × Item)) (name : List ℕ) (content : Content)
      → contents name content
      → ((answers : List (List ℕ × Content)) → Said answers name content → Passes answers known old items new)
      → Comes contents known old items new
  comes_with old new items name content is passes = (
    (name, content) ∷ [],
    λ n c said. elim (Contains-push_cases [] (name, content) (n, c) said) [
      | inl none ↦ absurd (none_said n c none)
      | inr same ↦ subst (λ p. contents p.0 p.1) same is
    ],
    λ more within. passes more (within name content (Contains-push [] (name, content))),
  )

  pub comes_none : (frames : List Frame) → Comes contents known frames [] frames
  comes_none frames = comes_from frames frames [] (λ answers left whole has. has)

  comes_both : (old mid new : List Frame) (items more : List (List ℕ × Item)) → Comes contents known old items mid
      → Comes contents known mid more new → Comes contents known old (items ++ more) new
  comes_both old mid new items more (said, among, passes) (said2, among2, passes2) = (
    said ++ said2,
    λ n c is. elim (Contains-append_cases said said2 (n, c) is) [ inl one ↦ among n c one | inr two ↦ among2 n c two ],
    λ all within left whole has. rw (append_assoc items more left)
        (passes all (λ n c is. within n c (Contains-append_left said said2 (n, c) is)) (more ++ left) whole
        (passes2 all (λ n c is. within n c (Contains-append_right said said2 (n, c) is)) left whole has)),
  )

  -- an entry that is passed
  pub passed_next : (old new : List Frame) (place : FilePlace) (entry : code.Entry) (include : Include)
      → ((answers : List (List ℕ × Content)) → Takes answers known old (step.Entry place entry include) new)
      → IsPassed contents include
      → Comes contents known old (found_item (place.name.now, entry_of entry) ∷ []) new
  passed_next old new place entry NotFollowed takes is =
      comes_from old new (found_item (place.name.now, entry_of entry) ∷ []) takes
  passed_next old new place entry (Named name) takes is =
      comes_with old new (found_item (place.name.now, entry_of entry) ∷ []) name.items w.Missing is
      (λ answers said. (takes answers).missing said)
  passed_next old new place entry include takes is = absurd is

  -- an entry that is followed
  pub entered_next : (old new newer : List Frame) (place at : FilePlace) (entry : code.Entry) (include : Include)
      (text : List ℕ)
      → ((answers : List (List ℕ × Content)) → Takes answers known old (step.Entry place entry include) new)
      → IsEntered contents at text include → Enters new at text newer
      → Comes contents known old (found_item (place.name.now, entry_of entry) ∷ []) newer
  entered_next old new newer place at entry (Named name) text takes (same, is) enters =
      comes_with old newer (found_item (place.name.now, entry_of entry) ∷ []) at.name.now (w.Text at.real_dir.now text) is
      (λ answers said. (takes answers).entered at text newer same said enters)
  entered_next old new newer place at entry include text takes is enters = absurd is

  -- an entry that is included too deep
  pub deep_next : (old new : List Frame) (place at : FilePlace) (entry : code.Entry) (include : Include)
      (text : List ℕ)
      → ((answers : List (List ℕ × Content)) → Takes answers known old (step.Entry place entry include) new)
      → IsEntered contents at text include → length new ≡ 11
      → Comes contents known old (found_item (place.name.now, entry_of entry)
      ∷ (place.name.now, Stops (w.TooDeep (entry_of entry))) ∷ []) new
  deep_next old new place at entry (Named name) text takes (same, is) full =
      comes_with old new
      (found_item (place.name.now, entry_of entry) ∷ (place.name.now, Stops (w.TooDeep (entry_of entry))) ∷ [])
      name.items (w.Text at.real_dir.now text) (rw same at is)
      (λ answers said. (takes answers).too_deep at.real_dir.now text said full)
  deep_next old new place at entry include text takes is full = absurd is

  -- an entry at which Git stops
  pub stop_comes : (old new : List Frame) (place : FilePlace) (entry : code.Entry) (include : Include)
      (told : Told (Bor (List ℕ)))
      → ((answers : List (List ℕ × Content)) → Takes answers known old (step.Entry place entry include) new)
      → IsStop contents include told.why → IsSaid told.why told.words.now
      → told.file.now ≡ place.name.now → told.line ≡ (entry_of entry).line
      → (stop : Stop) × TellsStop place.name.now stop told
      × Comes contents known old (found_item (place.name.now, entry_of entry) ∷ (place.name.now, Stops stop) ∷ []) new
  stop_comes old new place entry MissingValue told takes is said file line = (
    w.NoValue (entry_of entry),
    record { file = file; line = line; why = is; words = said },
    comes_from old new
        (found_item (place.name.now, entry_of entry) ∷ (place.name.now, Stops (w.NoValue (entry_of entry))) ∷ []) takes,
  )
  stop_comes old new place entry UnknownDirectory told takes is said file line = (
    w.Unknown (entry_of entry),
    record { file = file; line = line; why = is; words = said },
    comes_from old new
        (found_item (place.name.now, entry_of entry) ∷ (place.name.now, Stops (w.Unknown (entry_of entry))) ∷ []) takes,
  )
  stop_comes old new place entry what.ForbiddenUrl told takes is said file line = (
    w.ForbiddenUrl (entry_of entry),
    record { file = file; line = line; why = is; words = said },
    comes_from old new
        (found_item (place.name.now, entry_of entry) ∷ (place.name.now, Stops (w.ForbiddenUrl (entry_of entry))) ∷ [])
        takes,
  )
  stop_comes old new place entry (Named name) told takes (is, holds) said file line = (
    w.NotRead (entry_of entry),
    record { file = file; line = line; why = is; words = said },
    comes_with old new
        (found_item (place.name.now, entry_of entry) ∷ (place.name.now, Stops (w.NotRead (entry_of entry))) ∷ [])
        name.items w.Unreadable holds (λ answers said. (takes answers).not_read said),
  )
  stop_comes old new place entry include told takes is said file line = absurd is

  -- a line that cannot be read
  pub line_next : (old new : List Frame) (place : FilePlace) (at : FileError)
      → ((answers : List (List ℕ × Content)) → Takes answers known old (step.Line place at) new)
      → Comes contents known old ((place.name.now, Stops (w.Line at)) ∷ []) new
  line_next old new place at takes = comes_from old new ((place.name.now, Stops (w.Line at)) ∷ []) takes

  -- the end
  pub ends_next : (old new : List Frame) → ((answers : List (List ℕ × Content)) → Takes answers known old step.Ends new)
      → (new ≡ []) × Comes contents known old [] new
  ends_next old new takes = ((takes []).0, comes_from old new [] (λ answers. (takes answers).1))

-- the entries of a text that its walk has come to
pub record Came (contents : List ℕ → Content → Type 0) (known : Known) (place : FilePlace) (text : List ℕ)
    (frames : List Frame) : Type 0 where
  pub first : List Frame
  pub enters : Enters [] place text first
  pub found : List (List ℕ × Entry)
  pub comes : Comes contents known first (map found_item found) frames

abbrev pub came_first : (contents : List ℕ → Content → Type 0) (known : Known) (place : FilePlace) (text : List ℕ)
    (frames : List Frame) → Enters [] place text frames → Came contents known place text frames
came_first contents known place text frames enters =
    record { first = frames; enters = enters; found = []; comes = comes_none contents known frames }

module _ {contents : List ℕ → Content → Type 0} {known : Known} {place : FilePlace} {text : List ℕ}
    {frames : List Frame} (came : Came contents known place text frames) where
  pub comes_on : (more : List (List ℕ × Entry)) (rest : List (List ℕ × Item)) (to : List Frame)
      → Comes contents known frames (map found_item more ++ rest) to
      → Comes contents known came.first (map found_item (came.found ++ more) ++ rest) to
  comes_on more rest to step =
      rw (map-append found_item came.found more, append_assoc (map found_item came.found) (map found_item more) rest)
      (comes_both contents known came.first frames to (map found_item came.found) (map found_item more ++ rest)
      came.comes step)

  -- one more entry
  abbrev pub came_on : (one : List ℕ × Entry) (to : List Frame) → Comes contents known frames (found_item one ∷ []) to
      → Came contents known place text to
  came_on one to step = record {
    first = came.first;
    enters = came.enters;
    found = came.found ++ one ∷ [];
    comes = rw (append-nil (map found_item (came.found ++ one ∷ []))) at (comes_on (one ∷ []) [] to step);
  }

  -- the walk that is left, if nothing more comes
  pub walked : (more : List (List ℕ × Entry)) (rest : List (List ℕ × Item)) (to : List Frame) (whole : Bool)
      → Comes contents known frames (map found_item more ++ rest) to
      → ((answers : List (List ℕ × Content)) → Left (Said answers) known to [] whole)
      → WalksText contents known place text (map found_item (came.found ++ more) ++ rest) whole
  walked more rest to whole step ended =
      let items = map found_item (came.found ++ more) ++ rest in
      let (said, among, passes) = comes_on more rest to step in
      let (entries, error, reads, walks) = all_of (Said said) known place text came.first items whole came.enters
      (rw (append-nil items) at (passes said (λ n c is. is) [] whole (ended said))) in
      (entries, error, reads, walks_as among whole (λ e. e) walks)

  -- the walk at its end
  pub walked_all : Comes contents known frames [] [] → WalksText contents known place text (map found_item came.found) true
  walked_all step = rw (append-nil came.found, append-nil (map found_item came.found)) at
      (walked [] [] [] true step (λ answers. nothing))

-- what the loop keeps: the entries that are added are those that the walk has come to
pub record Keeps (contents : List ℕ → Content → Type 0) (known : Known) (place : FilePlace) (text : List ℕ)
    (start now : List Setting) (frames : List Frame) : Type 0 where
  pub came : Came contents known place text frames
  pub adds : AddsEach came.found start now

pub keeps_first : (contents : List ℕ → Content → Type 0) (known : Known) (place : FilePlace) (text : List ℕ)
    (start : List Setting) (frames : List Frame) → Enters [] place text frames
    → Keeps contents known place text start start frames
keeps_first contents known place text start frames enters =
    record { came = came_first contents known place text frames enters; adds = adds_none start }

module _ {contents : List ℕ → Content → Type 0} {known : Known} {place : FilePlace} {text : List ℕ}
    {start now : List Setting} {frames : List Frame} (keeps : Keeps contents known place text start now frames) where
  pub keeps_more : (newer : List Setting) (to : List Frame) (b : Bool) → b ≡ true
      → AddsNext contents known frames to now newer (Ok b) → Keeps contents known place text start newer to
  keeps_more newer to false e next = cc
  keeps_more newer to true e (one, more, step) = record {
    came = came_on keeps.came one to step;
    adds = adds_both keeps.came.found (one ∷ []) start now newer keeps.adds more;
  }

  pub keeps_memory : (newer : List Setting) (refused : _) → length frames ≤ 11 → newer ≡ now
      → AddsWalk contents known place text start newer (Err (error.Memory refused))
  keeps_memory newer refused fits same = (
    keeps.came.found,
    rw same keeps.adds,
    rw (append-nil keeps.came.found, append-nil (map found_item keeps.came.found)) at (walked keeps.came [] [] frames false
        (comes_none contents known frames) (λ answers. cut_here (Said answers) known frames fits)),
  )

  pub keeps_end : (newer : List Setting) (to : List Frame) (b : Bool) (u : Unit {0}) → b ≡ false
      → AddsNext contents known frames to now newer (Ok b)
      → AddsWalk contents known place text start newer (Ok u)
  keeps_end newer to true u e next = cc
  keeps_end newer to false u e (same, none, step) =
      (keeps.came.found, rw same keeps.adds, walked_all keeps.came (rw none at step))

  pub keeps_error : (newer : List Setting) (to : List Frame) (e : AddError) → length frames ≤ 11
      → AddsNext contents known frames to now newer (Err e)
      → AddsWalk contents known place text start newer (Err e)
  keeps_error newer to (error.Memory r) fits same = keeps_memory newer r fits same
  keeps_error newer to (error.Stops told) fits (more, file, stop, adds, tells, (last, small, step)) = (
    keeps.came.found ++ more,
    file,
    stop,
    adds_both keeps.came.found more start now newer keeps.adds adds,
    tells,
    walked keeps.came more ((file, Stops stop) ∷ []) last false step (λ answers. cut_here (Said answers) known last small),
  )
