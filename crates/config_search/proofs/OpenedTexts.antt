-- Texts of files, one after the other.
use Rattle.std.proofs.Common.{◌≡◌, ◌++◌, ◌∷◌, ◌∙◌, ◌+◌, [], ℕ, List, Option, None, Some, true, false}
use Rattle.std.proofs.Common.{◌<◌, true≢false, is_some, ap, drop, get_or, length, subst, map, refl, sym, take}
use Rattle.std.specs.Global.{Vec}
use Rattle.std.specs.List.{slice_get}
use Rattle.std.proofs.lemmas.List.{append_assoc, map-append, take-append-drop}
use Rattle.std.proofs.lemmas.List.Elements.{All-push}
use Rattle.std.proofs.lemmas.Option.{slice_get-get_or, slice_get_within}
use Rattle.config_file.proofs.Picked.{take_next}
use Rattle.config_file.specs.declared.errors.Stop.{Stop as Told}
use Rattle.config_file.specs.declared.errors.Why.TheVariants as because
use denote.Ref.{Bor}
use Rattle.config_search.specs.System.{System}
use Rattle.config_search.specs.Files.{File}
use Rattle.config_search.specs.Shown.{file_of}
use Rattle.config_search.specs.Command.{IsOfCommand}
use Rattle.config_search.specs.Reads.{AreOpened, AreTexts, At, End, IsRefused, OfCommand, Tells, Text}
use Rattle.config_search.specs.Reads.{Unread, Whole, at_command, at_file, command_of, shown_reason}
use Rattle.config_search.specs.Reads.{whole as whole_text}
use Rattle.config_search.specs.Reading.{AreOpenedAs, EndsAs, IsAtDir, IsCounting, IsOpening, IsOpeningBy}
use Rattle.config_search.specs.Reading.{OpensTo, StopsAs, StopsAtFile, text_of}
use Rattle.config_search.specs.declared.command.Counted.{Counted}
use Rattle.config_search.specs.declared.reader.Source.{Source}
use Rattle.config_search.specs.declared.texts.Opening.{Opening}
use Rattle.config_search.specs.declared.answer.Named.{Named}
use Rattle.config_search.specs.declared.halt.Halt.{Halt}
use Rattle.config_search.specs.declared.halt.Halt.TheVariants as halts

-- a file at which Git stops is told
pub file_stops : (system : System) (start : List ℕ) (file : File) (reason : List ℕ)
    (at : Told (Bor (List ℕ))) (halt : Halt)
    → StopsAs at halt → IsRefused system start file reason → at.file.now ≡ file.name → at.line ≡ 0
    → at.why ≡ because.Unreadable → at.words.now ≡ shown_reason reason → StopsAtFile system start file halt
file_stops system start file reason at (halts.Stops told) is refused name line why words =
    (reason, refused, (is.0 ∙ name, is.1 ∙ line, is.2 ∙ why, is.3 ∙ words))
file_stops system start file reason at (halts.Pauses pause) is refused name line why words = absurd is
file_stops system start file reason at (halts.Fails error) is refused name line why words = absurd is

-- what comes before one of several, and that one
pub next_by : {A B : Type 0} (f : A → B) (all : List A) (i : ℕ) (it : A) → slice_get all i ≡ Some it
    → map f (take (i + 1) all) ≡ map f (take i all) ++ f it ∷ []
next_by f all i it is = ap (map f) (take_next all i it is (slice_get_within all i it is))
    ∙ map-append f (take i all) (it ∷ [])

-- what comes before the next one, with that one
pub with_next : {A : Type 0} (all front : List A) (i : ℕ) (other : A) → i < length all → front ≡ take i all
    → front ++ get_or all i other ∷ [] ≡ take (i + 1) all
with_next all front i other within is =
    rw is (sym (take_next all i (get_or all i other) (slice_get-get_or all i other within) within))

-- the files before one of them, and that one
pub and_next : (files : List Named) (i : ℕ) (file : Named) → slice_get files i ≡ Some file
    → map file_of (take (i + 1) files) ≡ map file_of (take i files) ++ file_of file ∷ []
and_next files i file is = next_by file_of files i file is

-- and those after it
pub and_after : (files : List Named) (i : ℕ) (file : Named) → slice_get files i ≡ Some file
    → map file_of files ≡ map file_of (take i files) ++ file_of file ∷ map file_of (drop (i + 1) files)
and_after files i file is = ap (map file_of) (sym (take-append-drop (i + 1) files))
    ∙ map-append file_of (take (i + 1) files) (drop (i + 1) files)
    ∙ ap (λ (front : List File). front ++ map file_of (drop (i + 1) files)) (and_next files i file is)
    ∙ append_assoc (map file_of (take i files)) (file_of file ∷ []) (map file_of (drop (i + 1) files))

-- files of which one stops Git
pub opened_by : {system : System} {start : List ℕ} {files : List File} (list : List Text)
    (stop : Option (Told (Vec ℕ)))
    → is_some stop ≡ true → OpensTo system start files list stop
    → (opened : End) × AreOpened system start files list opened × EndsAs stop opened
opened_by list None some is = absurd (true≢false (sym some))
opened_by list (Some told) some (before, file, after, reason, split, are, refused, tells) = (
  At (Unread file.name reason),
  rw split (at_file file after reason are refused),
  (Unread file.name reason, refl, tells),
)

-- files of which none does
pub texts_by : {system : System} {start : List ℕ} {files : List File} (list : List Text)
    (stop : Option (Told (Vec ℕ)))
    → is_some stop ≡ false → OpensTo system start files list stop → (stop ≡ None) × AreTexts system start
    files list
texts_by list None none is = (refl, is)
texts_by list (Some told) none is = absurd (true≢false none)

module _ (system : System) (start : List ℕ) (files : List File) where
  -- the settings of the command are counted while not all is opened
  pub open_now : (opening : Opening) → opening.is_whole ≡ false
      → IsOpening system start files opening → IsOpeningBy system start files opening false
  open_now opening not is = subst (IsOpeningBy system start files opening) not is

  pub opened_now : (opening : Opening) → opening.is_whole ≡ true
      → AreOpenedAs system start files opening.texts → IsOpening system start files opening
  opened_now opening whole is = subst (IsOpeningBy system start files opening) (sym whole) is

  -- one more setting is counted
  pub counts_more : (opening : Opening) → opening.is_whole ≡ false → IsOpening system start files opening
      → (counted : Counted) → (IsCounting system opening.counted → IsCounting system counted)
      → IsOpening system start files (record {
        texts = opening.texts;
        counted = counted;
        is_whole = opening.is_whole;
      })
  counts_more opening not is counted more = let (stop, are, counting, dirs) = open_now opening not is in
      subst (IsOpeningBy system start files (record {
        texts = opening.texts;
        counted = counted;
        is_whole = opening.is_whole;
      }))
      (sym not) (stop, are, more counting, dirs)

  -- Git stops at the settings of the command
  pub stops_there : (opening : Opening) → opening.is_whole ≡ false → IsOpening system start files opening
      → (new : Opening) (told : Told (Vec ℕ)) → new.texts.list ≡ opening.texts.list
      → new.texts.stop ≡ Some told → new.is_whole ≡ true → Tells OfCommand told → IsOpening system start
      files new
  stops_there opening not is new told list stop whole tells = let (none, are, counting, dirs) = open_now
      opening not is in
      opened_now new whole (rw (list, stop) ((At OfCommand, at_command are, (OfCommand, refl, tells)), dirs))

  -- they are the last text
  pub opens_command : (opening : Opening) → opening.is_whole ≡ false → IsOpening system start files opening
      → (new : Opening) (command : List ℕ) (source : Source)
      → (IsCounting system opening.counted → IsOfCommand system command)
      → new.texts.list.items ≡ opening.texts.list.items ++ source ∷ [] → new.texts.stop ≡ opening.texts.stop
      → new.is_whole ≡ true → text_of source ≡ command_of command → IsAtDir system start source
      → IsOpening system start files new
  opens_command opening not is new command source is_command list stop whole text dir =
      let (none, are, counting, dirs) = open_now opening not is in
      opened_now new whole (rw (list, stop, none) (
        (
          Whole,
          rw (map-append text_of opening.texts.list.items (source ∷ []), text)
              (whole_text command are (is_command counting)),
          refl,
        ),
        All-push (IsAtDir system start) opening.texts.list.items source dirs dir,
      ))
