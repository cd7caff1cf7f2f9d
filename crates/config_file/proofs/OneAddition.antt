-- Two additions of a text that do not lack memory add the same settings, and stop at the same place. Git lists what
-- is added.
use Rattle.std.proofs.Common.{◌≡◌, ℕ, Bool, true, false, List, [], ◌∷◌, ◌++◌, Option, None, Some, map}
use Rattle.std.proofs.Common.{refl, sym, ap, subst, ◌∙◌, inl, inr}
use Rattle.std.specs.Prelude.{Result, Ok, Err, ⊤}
use Rattle.std.proofs.lemmas.Option.{same_Some}
use Rattle.std.proofs.lemmas.List.{append-nil, append_assoc}
use Rattle.std.proofs.lemmas.List.Elements.{All-head, All-tail, All-nil, All-cons, All-append}
use Rattle.std.specs.List.{All, AllZip, AllByRecursion}
use Rattle.std.specs.declared.alloc.AllocError.{AllocError}
use Rattle.config_file.specs.File.{Entry, IsFile}
use Rattle.config_file.specs.Walk as walk
use Rattle.config_file.specs.Walk.{Content, Stop, Line, NoValue, Unknown, NotRead, TooDeep, Item, Found}
use Rattle.config_file.specs.Walk.{Stops, Walks, WalksText, HasOneContent}
use Rattle.config_file.specs.Listing.{IsListed}
use Rattle.config_file.specs.Views.{entry_of}
use Rattle.config_file.specs.Settings.{AddsFile, AreListed}
use Rattle.config_file.specs.Settings.{IsValueOf, IsSettingOf, AddsEach, TellsStop, found_item, AddsWalk}
use Rattle.config_file.specs.Settings.{IsSameSetting, HasSameFront, HasMemory, IsSameEnd, value_text}
use Rattle.config_file.specs.declared.errors.FileError.{FileError}
use Rattle.config_file.specs.declared.settings.AddError.{AddError}
use Rattle.config_file.specs.declared.settings.AddError.TheVariants as error
use Rattle.config_file.specs.declared.settings.Setting.{Setting}
use Rattle.config_file.specs.declared.walk.Known.{Known}
use Rattle.config_file.specs.declared.walk.FilePlace.{FilePlace}
use Rattle.config_file.proofs.EachListed.{IsRead, IsSpelled, entries_are_read}
use Rattle.config_file.proofs.OneWalk.{Agree, texts_agree}

-- ---- the entries of a walk are those of files

abbrev AreRead : List (List ℕ × Item) → Type 0
AreRead [] = ⊤
AreRead ((file, Found entry) ∷ items) = IsRead entry × AreRead items
AreRead ((file, Stops stop) ∷ items) = AreRead items

both_read : (first second : List (List ℕ × Item)) → AreRead first → AreRead second → AreRead (first ++ second)
both_read [] second read more = more
both_read ((file, Found entry) ∷ first) second read more = (read.0, both_read first second read.1 more)
both_read ((file, Stops stop) ∷ first) second read more = both_read first second read more

each_read : (entries : List Entry) → All IsRead entries → AllByRecursion IsRead entries
each_read [] read = tt
each_read (e ∷ entries) read = (All-head IsRead e entries read, each_read entries (All-tail IsRead e entries read))

of_file : {text : List ℕ} {entries : List Entry} {error : Option FileError} → IsFile text entries error
    → AllByRecursion IsRead entries
of_file {entries = entries} file = each_read entries (entries_are_read file)

items_are_read : {contents : List ℕ → Content → Type 0} {known : Known} {depth : ℕ} {here : Bool}
    {place : FilePlace} {entries : List Entry} {error : Option FileError} {items : List (List ℕ × Item)} {whole : Bool}
    → Walks contents known depth here place entries error items whole → AllByRecursion IsRead entries → AreRead items
items_are_read walk.cut read = tt
items_are_read walk.ends read = tt
items_are_read walk.line read = tt
items_are_read (walk.plain is free more) read = (read.0, items_are_read more read.1)
items_are_read (walk.forbidden_url is forbidden more) read = (read.0, items_are_read more read.1)
items_are_read (walk.missing name is holds more) read = (read.0, items_are_read more read.1)
items_are_read (walk.included {items = rest} less at text forbids inner end within is holds says file deep first more) read =
    (read.0, both_read within rest (items_are_read first (of_file file)) (items_are_read more read.1))
items_are_read (walk.cut_within less at text forbids inner end within is holds says file deep first) read =
    (read.0, items_are_read first (of_file file))
items_are_read (walk.no_value is more) read = (read.0, items_are_read more read.1)
items_are_read (walk.unknown is more) read = (read.0, items_are_read more read.1)
items_are_read (walk.not_read name is holds more) read = (read.0, items_are_read more read.1)
items_are_read (walk.too_deep name dir text is holds deep more) read = (read.0, items_are_read more read.1)

-- ---- the settings of entries

same_value : (written a b : Option (List ℕ)) → IsSpelled written → IsValueOf written a
    → IsValueOf written b → a ≡ b
same_value None a b spelled is so = is ∙ sym so
same_value (Some raw) a b spelled is so =
    let (text, ending, spells) = spelled raw refl in is text ending spells ∙ sym (so text ending spells)

same_added : (found : List (List ℕ × Entry)) (rest : List (List ℕ × Item)) (a b : List Setting)
    → AreRead (map found_item found ++ rest) → AllZip IsSettingOf found a → AllZip IsSettingOf found b
    → AllZip IsSameSetting a b
same_added [] rest [] [] read is so = tt
same_added [] rest [] b read is so = absurd so
same_added [] rest a b read is so = absurd is
same_added (f ∷ found) rest [] b read is so = absurd is
same_added (f ∷ found) rest a [] read is so = absurd so
same_added (f ∷ found) rest (x ∷ a) (y ∷ b) read (is, more) (so, others) = (
  (
    is.file ∙ sym so.file,
    is.entry ∙ sym so.entry,
    same_value f.1.value (value_text x) (value_text y) read.0.spelled is.value so.value,
  ),
  same_added found rest a b read.1 more others,
)

same_after : (old a b : List Setting) → AllZip IsSameSetting a b → AllZip IsSameSetting (old ++ a) (old ++ b)
same_after [] a b same = same
same_after (x ∷ old) a b same = ((refl, refl, refl), same_after old a b same)

-- ---- the end of a walk

abbrev pub last : Option (List ℕ × Stop) → List (List ℕ × Item)
last None = []
last (Some (file, stop)) = (file, Stops stop) ∷ []

abbrev Tells : Result (Unit {0}) AddError → Option (List ℕ × Stop) → Type 0
Tells (Ok _) stop = stop ≡ None
Tells (Err (error.Memory _)) stop = ⊥
Tells (Err (error.Stops told)) stop = (file : List ℕ) × (at : Stop) × (stop ≡ Some (file, at)) × TellsStop file at told

record Reached (contents : List ℕ → Content → Type 0) (known : Known) (place : FilePlace) (text : List ℕ)
    (old new : List Setting) (result : Result (Unit {0}) AddError) : Type 0 where
  found : List (List ℕ × Entry)
  stop : Option (List ℕ × Stop)
  whole : Bool
  adds : AddsEach found old new
  walks : WalksText contents known place text (map found_item found ++ last stop) whole
  all : stop ≡ None → whole ≡ true
  tells : Tells result stop

reached : {contents : List ℕ → Content → Type 0} {known : Known} {place : FilePlace} {text : List ℕ}
    {old new : List Setting} (result : Result (Unit {0}) AddError) → HasMemory result
    → AddsWalk contents known place text old new result → Reached contents known place text old new result
reached (Ok u) memory (found, adds, walks) = record {
  found = found;
  stop = None;
  whole = true;
  adds = adds;
  walks = rw (append-nil (map found_item found)) walks;
  all = λ none. refl;
  tells = refl;
}
reached (Err (error.Memory e)) memory is = absurd memory
reached (Err (error.Stops told)) memory (found, file, stop, adds, tells, walks) = record {
  found = found;
  stop = Some (file, stop);
  whole = false;
  adds = adds;
  walks = walks;
  all = λ none. cc;
  tells = (file, stop, refl, tells);
}

-- the entries up to the first stop, and that stop
abbrev seen : List (List ℕ × Item) → List (List ℕ × Entry) × Option (List ℕ × Stop)
seen [] = ([], None)
seen ((file, Found entry) ∷ items) = ((file, entry) ∷ (seen items).0, (seen items).1)
seen ((file, Stops stop) ∷ items) = ([], Some (file, stop))

seen_is : (f : List (List ℕ × Entry)) (s : Option (List ℕ × Stop)) (more : List (List ℕ × Item))
    → (s ≡ None → more ≡ []) → seen ((map found_item f ++ last s) ++ more) ≡ (f, s)
seen_is [] None more all = rw (all refl)
seen_is [] (Some (file, stop)) more all = refl
seen_is (x ∷ f) s more all = ap (λ p. (x ∷ p.0, p.1)) (seen_is f s more all)

-- a walk of entries up to one end is not the beginning of another one
ends_same : (f g : List (List ℕ × Entry)) (s t : Option (List ℕ × Stop)) (more : List (List ℕ × Item))
    → (t ≡ None → more ≡ []) → map found_item f ++ last s ≡ (map found_item g ++ last t) ++ more
    → (f ≡ g) × (s ≡ t)
ends_same f g s t more all e =
    let same = sym (seen_is f s [] (λ n. refl)) ∙ ap seen (append-nil _ ∙ e) ∙ seen_is g t more all in
    (ap (λ p. p.0) same, ap (λ p. p.1) same)

pub same_found : (f g : List (List ℕ × Entry)) (s t : Option (List ℕ × Stop)) (v w : Bool) → (s ≡ None → v ≡ true)
    → (t ≡ None → w ≡ true) → Agree (map found_item f ++ last s) v (map found_item g ++ last t) w
    → (f ≡ g) × (s ≡ t)
same_found f g s t v w first second (inl is) =
    let (founds, stops) = ends_same g f t s is.more (λ e. is.all (first e)) is.joined in
    (sym founds, sym stops)
same_found f g s t v w first second (inr is) =
    ends_same f g s t is.more (λ e. is.all (second e)) is.joined

same_end : (a b : Result (Unit {0}) AddError) (s t : Option (List ℕ × Stop)) → s ≡ t → Tells a s → Tells b t
    → IsSameEnd a b
same_end (Ok u) (Ok v) s t same is so = tt
same_end (Ok u) (Err (error.Stops f)) s t same is (file, stop, at, tells) = cc
same_end (Err (error.Stops e)) (Ok v) s t same (file, stop, at, tells) so = cc
same_end (Err (error.Memory e)) b s t same is so = absurd is
same_end a (Err (error.Memory f)) s t same is so = absurd so
same_end (Err (error.Stops e)) (Err (error.Stops f)) s t same (file, stop, is, tells) (other, end, so, also) =
    let parts = same_Some (file, stop) (other, end) (sym is ∙ same ∙ so) in
    (file, stop, tells, rw (ap (λ p. p.0) parts, ap (λ p. p.1) parts) also)

pub one_addition : (contents : List ℕ → Content → Type 0) (known : Known) (place : FilePlace) (text : List ℕ)
    (old a b : List Setting) (r s : Result (Unit {0}) AddError) → HasOneContent contents
    → HasMemory r → HasMemory s
    → AddsWalk contents known place text old a r → AddsWalk contents known place text old b s
    → AllZip IsSameSetting a b × IsSameEnd r s
one_addition contents known place text old a b r s one memory also first second =
    let x = reached {text = text} r memory first in
    let y = reached {text = text} s also second in
    let (founds, stops) = same_found x.found y.found x.stop y.stop x.whole y.whole x.all y.all
    (texts_agree {text = text} one x.walks y.walks) in
    let (entries, error, is, walks) = x.walks in
    let (added, e, zip) = x.adds in
    let (others, f, too) = rw (sym founds) at y.adds in
    let read = items_are_read walks (of_file is) in (
      rw (e, f) (same_after old added others (same_added x.found (last x.stop) added others read zip too)),
      same_end r s x.stop y.stop stops x.tells y.tells,
    )

-- ---- an addition that lacks memory

seen_front : (f : List (List ℕ × Entry)) (more : List (List ℕ × Item))
    → (seen (map found_item f ++ more)).0 ≡ f ++ (seen more).0
seen_front [] more = refl
seen_front (x ∷ f) more = ap (λ g. x ∷ g) (seen_front f more)

found_begins : (f g : List (List ℕ × Entry)) (t : Option (List ℕ × Stop)) (w : Bool) → (t ≡ None → w ≡ true)
    → Agree (map found_item f) false (map found_item g ++ last t) w
    → (h : List (List ℕ × Entry)) × (g ≡ f ++ h)
found_begins f g t w all (inl is) =
    let same = sym (seen_is g t [] (λ n. refl)) ∙ ap seen (append-nil _ ∙ is.joined) in
    ((seen is.more).0, ap (λ p. p.0) same ∙ seen_front f is.more)
found_begins f g t w all (inr is) =
    let (founds, stops) = ends_same f g None t is.more (λ e. is.all (all e))
    (append-nil (map found_item f) ∙ is.joined) in
    ([], sym founds ∙ sym (append-nil f))

added_front : (f h : List (List ℕ × Entry)) (added : List Setting) → AllZip IsSettingOf (f ++ h) added
    → (front rest : List Setting) × (added ≡ front ++ rest) × AllZip IsSettingOf f front
added_front [] h added zip = ([], added, refl, tt)
added_front (x ∷ f) h [] zip = absurd zip
added_front (x ∷ f) h (y ∷ added) zip =
    let (front, rest, e, more) = added_front f h added zip.1 in
    (y ∷ front, rest, ap (λ x. y ∷ x) e, (zip.0, more))

settings_begin : (f h : List (List ℕ × Entry)) (old first second : List Setting) → AreRead (map found_item f ++ [])
    → AllZip IsSettingOf f first → AllZip IsSettingOf (f ++ h) second → HasSameFront (old ++ first) (old ++ second)
settings_begin f h old first second read zip also =
    let (front, rest, joined, more) = added_front f h second also in (
      old ++ front,
      rest,
      ap (λ x. old ++ x) joined ∙ sym (append_assoc old front rest),
      same_after old first front (same_added f [] first front read zip more),
    )

pub cut_addition : (contents : List ℕ → Content → Type 0) (known : Known) (place : FilePlace) (text : List ℕ)
    (old a b : List Setting) (e : AllocError) (s : Result (Unit {0}) AddError) → HasOneContent contents
    → HasMemory s → AddsWalk contents known place text old a (Err (error.Memory e))
    → AddsWalk contents known place text old b s → HasSameFront a b
cut_addition contents known place text old a b e s one memory (found, (first, same, zip), is) second =
    let y = reached {text = text} s memory second in
    let (h, whole) = found_begins found y.found y.stop y.whole y.all (texts_agree {text = text} one is y.walks) in
    let (entries, error, file, walks) = is in
    let (others, so, also) = y.adds in
    let read : AreRead (map found_item found ++ []) =
    rw (append-nil (map found_item found)) (items_are_read walks (of_file file)) in
    rw (same, so) (settings_begin found h old first others read zip (rw whole at also))

-- ---- what is added is listed

abbrev IsListedSetting : Setting → Type 0
IsListedSetting setting =
    (text : List ℕ) × IsListed (entry_of setting.entry).section (entry_of setting.entry).key text

listed_each : (found : List (List ℕ × Entry)) (rest : List (List ℕ × Item)) (added : List Setting)
    → AreRead (map found_item found ++ rest) → AllZip IsSettingOf found added → AreListed added
listed_each [] rest [] read zip = All-nil IsListedSetting
listed_each (one ∷ found) rest (s ∷ added) read zip = All-cons IsListedSetting s added
    (subst (λ e. (text : List ℕ) × IsListed e.section e.key text) (sym zip.0.entry) read.0.listed)
    (listed_each found rest added read.1 zip.1)
listed_each found rest added read zip = absurd (search)

still_listed : (found : List (List ℕ × Entry)) (rest : List (List ℕ × Item)) (old new : List Setting)
    → AreRead (map found_item found ++ rest) → AddsEach found old new → AreListed old → AreListed new
still_listed found rest old new read (added, is, zip) listed =
    rw is (All-append IsListedSetting old added listed (listed_each found rest added read zip))

text_read : {contents : List ℕ → Content → Type 0} {known : Known} {place : FilePlace} {text : List ℕ}
    {items : List (List ℕ × Item)} {whole : Bool} → WalksText contents known place text items whole → AreRead items
text_read (entries, error, file, walks) = items_are_read walks (of_file file)

pub walk_keeps_listed : (contents : List ℕ → Content → Type 0) (known : Known) (place : FilePlace) (text : List ℕ)
    (old new : List Setting) (result : Result (Unit {0}) AddError)
    → AddsWalk contents known place text old new result → AreListed old → AreListed new
walk_keeps_listed contents known place text old new (Ok u) (found, adds, walks) listed =
    still_listed found [] old new (rw (append-nil (map found_item found)) (text_read {text = text} walks)) adds listed
walk_keeps_listed contents known place text old new (Err (error.Memory e)) (found, adds, walks) listed =
    still_listed found [] old new (rw (append-nil (map found_item found)) (text_read {text = text} walks)) adds listed
walk_keeps_listed contents known place text old new (Err (error.Stops told)) (found, file, stop, adds, tells, walks) listed =
    still_listed found ((file, Stops stop) ∷ []) old new (text_read {text = text} walks) adds listed

of_one : (file : List ℕ) (entries more : List Entry) → AllByRecursion IsRead (entries ++ more)
    → AreRead (map found_item (map (λ entry. (file, entry)) entries) ++ [])
of_one file [] more read = tt
of_one file (entry ∷ entries) more read = (read.0, of_one file entries more read.1)

pub file_keeps_listed : (file text : List ℕ) (old new : List Setting) (result : Result (Unit {0}) AddError)
    → AddsFile file text old new result → AreListed old → AreListed new
file_keeps_listed file text old new (Ok u) (entries, is, adds) listed =
    still_listed _ [] old new (of_one file entries [] (rw (append-nil entries) (of_file is))) adds listed
file_keeps_listed file text old new (Err (error.Stops told)) (at, tells, (entries, is, adds)) listed =
    still_listed _ [] old new (of_one file entries [] (rw (append-nil entries) (of_file is))) adds listed
file_keeps_listed file text old new (Err (error.Memory e)) (entries, (rest, end, is), adds) listed =
    still_listed _ [] old new (of_one file entries rest (of_file is)) adds listed
