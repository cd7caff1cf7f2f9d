-- What settings say of the entries to which walks come.
use Rattle.std.proofs.Common.{◌≡◌, ◌++◌, ◌∷◌, [], ◌<◌, ◌+◌, ℕ, zero, suc, List, Bool, Option, None, Some, Ok, Err}
use Rattle.std.specs.Bool.{⊤}
use Rattle.std.proofs.Common.{length, map, take, drop, get_or, refl, sym, ap, subst, arith, ◌∙◌}
use Rattle.std.specs.List.{All, AllByRecursion, AllWithin, AllZip, slice_get}
use Rattle.std.proofs.lemmas.List.{append_assoc, append-nil, take_more, take-append-drop}
use Rattle.std.proofs.lemmas.List.Elements.{All-nil, All-cons, All-append, recursion_from_All}
use Rattle.config_file.specs.File.{Entry, IsFile}
use Rattle.config_file.specs.Key.{Key, HasKey}
use Rattle.config_file.specs.Listing.{IsListed}
use Rattle.config_file.specs.Settings as settings
use Rattle.config_file.specs.Settings.{AddsEach, AddsFile, AddsWalk, AreListed, IsSettingOf, IsValueOf, LacksKey}
use Rattle.config_file.specs.Settings.{found_item, text_of, value_text}
use Rattle.config_file.specs.Value.{Ending, SpellsValue}
use Rattle.config_file.specs.Views.{entry_of}
use Rattle.config_file.specs.Walk as walk
use Rattle.config_file.specs.Walk.{Content, Item, Found, Stops, Stop, Walks, WalksText}
use Rattle.config_file.specs.declared.errors.FileError.{FileError}
use Rattle.config_file.specs.declared.settings.AddError.{AddError}
use Rattle.config_file.specs.declared.settings.AddError.TheVariants as error
use Rattle.config_file.specs.declared.settings.Setting.{Setting}
use Rattle.config_file.specs.declared.walk.Known.{Known}
use Rattle.config_file.specs.declared.walk.FilePlace.{FilePlace}
use Rattle.uses.specs.SettingHeadline.{WalksAll, ends, whole, stops, NoneHas, IsLast, here, later, HasText, alone, spelled, IsDecided, StopsWith}
use Rattle.uses.specs.Reading.{AreRead}
use Rattle.uses.specs.declared.setting_headline.FirstFile.{FirstFile}

-- Git lists the entry under a key, and its value, if it has one, spells a text
pub record IsRead (entry : Entry) : Type 0 where
  pub listed : (key : List ℕ) × IsListed entry.section entry.key key
  pub spells : (raw : List ℕ) → entry.value ≡ Some raw
      → (text : List ℕ) × (ending : Ending) × SpellsValue raw text ending

-- the entries of each file are so
abbrev pub EachIsRead : Type 0
EachIsRead = (text : List ℕ) (entries : List Entry) (error : Option FileError) → IsFile text entries error
    → AllByRecursion IsRead entries

pub each_is_read : ((text : List ℕ) (entries : List Entry) (error : Option FileError) → IsFile text entries error
    → All (λ entry. (key : List ℕ) × IsListed entry.section entry.key key) entries)
    → ((text : List ℕ) (entries : List Entry) (error : Option FileError) → IsFile text entries error
    → All (λ entry. (raw : List ℕ) → entry.value ≡ Some raw
    → (spelled : List ℕ) × (ending : Ending) × SpellsValue raw spelled ending) entries)
    → EachIsRead
each_is_read keys values text entries error is = recursion_from_All IsRead entries (λ k d within. record {
  listed = keys text entries error is k d within;
  spells = values text entries error is k d within;
})

abbrev AreItemsRead : List (List ℕ × Item) → Type 0
AreItemsRead [] = ⊤
AreItemsRead ((file, Found entry) ∷ items) = IsRead entry × AreItemsRead items
AreItemsRead ((file, Stops stop) ∷ items) = AreItemsRead items

abbrev pub AreFoundRead : List (List ℕ × Entry) → Type 0
AreFoundRead found = AllByRecursion (λ one. IsRead one.1) found

items_append : (items more : List (List ℕ × Item)) → AreItemsRead items → AreItemsRead more
    → AreItemsRead (items ++ more)
items_append [] more read rest = rest
items_append ((file, Found entry) ∷ items) more read rest = (read.0, items_append items more read.1 rest)
items_append ((file, Stops stop) ∷ items) more read rest = items_append items more read rest

items_of_walk : {contents : List ℕ → Content → Type 0} {known : Known} {depth : ℕ} {here : Bool}
    {place : FilePlace} {entries : List Entry} {error : Option FileError} {items : List (List ℕ × Item)} {flag : Bool}
    → EachIsRead → Walks contents known depth here place entries error items flag → AllByRecursion IsRead entries
    → AreItemsRead items
items_of_walk each (walk.plain is free rest) read = (read.0, items_of_walk each rest read.1)
items_of_walk each (walk.forbidden_url is forbidden rest) read = (read.0, items_of_walk each rest read.1)
items_of_walk each (walk.missing name is none rest) read = (read.0, items_of_walk each rest read.1)
items_of_walk each (walk.included {items = items} less at text forbids inner end within is has says file deep inside rest) read = (
  read.0,
  items_append within items (items_of_walk each inside (each text inner end file)) (items_of_walk each rest read.1),
)
items_of_walk each (walk.cut_within less at text forbids inner end within is has says file deep inside) read =
    (read.0, items_of_walk each inside (each text inner end file))
items_of_walk each (walk.no_value is rest) read = (read.0, items_of_walk each rest read.1)
items_of_walk each (walk.unknown is rest) read = (read.0, items_of_walk each rest read.1)
items_of_walk each (walk.not_read name is has rest) read = (read.0, items_of_walk each rest read.1)
items_of_walk each (walk.too_deep name dir text is has deep rest) read = (read.0, items_of_walk each rest read.1)
items_of_walk each walks read = tt

found_before : (found : List (List ℕ × Entry)) (rest : List (List ℕ × Item))
    → AreItemsRead (map found_item found ++ rest) → AreFoundRead found
found_before [] rest read = tt
found_before (one ∷ found) rest read = (read.0, found_before found rest read.1)

found_append : (found more : List (List ℕ × Entry)) → AreFoundRead found → AreFoundRead more
    → AreFoundRead (found ++ more)
found_append [] more read rest = rest
found_append (one ∷ found) more read rest = (read.0, found_append found more read.1 rest)

items_of_text : {contents : List ℕ → Content → Type 0} {known : Known} {place : FilePlace} {text : List ℕ}
    {items : List (List ℕ × Item)} {flag : Bool}
    → EachIsRead → WalksText contents known place text items flag → AreItemsRead items
items_of_text {text = text} each (entries, error, file, walks) =
    items_of_walk each walks (each text entries error file)

pub found_are_read : {contents : List ℕ → Content → Type 0} {known : Known} {first : List FirstFile}
    {found : List (List ℕ × Entry)} {stop : Option (List ℕ × Stop)}
    → EachIsRead → WalksAll contents known first found stop → AreFoundRead found
found_are_read each ends = tt
found_are_read each (whole found more walks rest) = found_append found more
    (found_before found [] (rw append-nil (items_of_text each walks)))
    (found_are_read each rest)
found_are_read each (stops {found = found} walks) = found_before found _ (items_of_text each walks)

-- ---- files one after the other

walks_append : {contents : List ℕ → Content → Type 0} {known : Known} {files others : List FirstFile}
    {found more : List (List ℕ × Entry)} {end stop : Option (List ℕ × Stop)}
    → WalksAll contents known files found end → end ≡ None → WalksAll contents known others more stop
    → WalksAll contents known (files ++ others) (found ++ more) stop
walks_append ends none rest = rest
walks_append {contents} {known} {others = others} {more = more} {stop = stop}
    (whole {first = first} {others = files} found within walks inner) none rest =
    rw append_assoc (whole found (within ++ more) walks (walks_append inner none rest))
walks_append (stops walks) none rest = absurd (cc)

zip_append : (found more : List (List ℕ × Entry)) (first second : List Setting) → AllZip IsSettingOf found first
    → AllZip IsSettingOf more second → AllZip IsSettingOf (found ++ more) (first ++ second)
zip_append [] more [] second all rest = rest
zip_append (one ∷ found) more (s ∷ first) second all rest = (all.0, zip_append found more first second all.1 rest)
zip_append found more first second all rest = absurd (search)

pub read_none : (contents : List ℕ → Content → Type 0) (known : Known) (settings : List Setting) → settings ≡ []
    → AreRead contents known [] settings
read_none contents known settings e = ([], ends, ([], e, tt))

pub read_more : (contents : List ℕ → Content → Type 0) (known : Known) (files : List FirstFile) (first : FirstFile)
    (old new : List Setting)
    → AreRead contents known files old
    → AddsWalk contents known first.place first.text.now old new (Ok tt)
    → AreRead contents known (files ++ first ∷ []) new
read_more contents known files first old new (found, walks, (settings, is, all))
    (more, (added, is_more, all_more), walk) = (
      found ++ more,
      rw append-nil at (walks_append walks refl (whole {first = first} more [] walk ends)),
      (
        settings ++ added,
        is_more ∙ ap (λ s. s ++ added) is,
        zip_append found more settings added all all_more,
      ),
    )

pub stops_after : (contents : List ℕ → Content → Type 0) (known : Known) (files others : List FirstFile)
    (first : FirstFile) (old new : List Setting) (e : AddError)
    → AreRead contents known files old → AddsWalk contents known first.place first.text.now old new (Err e)
    → StopsWith contents known (files ++ first ∷ others) e
stops_after contents known files others first old new (error.Memory m) read adds = tt
stops_after contents known files others first old new (error.Stops told) (found, walks, rest)
    (more, file, stop, adds, tells, walk) =
    (found ++ more, file, stop, walks_append walks refl (stops walk), tells)

pub loop_more : (contents : List ℕ → Content → Type 0) (known : Known) (first : List FirstFile) (i : ℕ)
    (d : FirstFile) (old new : List Setting)
    → i < length first → AreRead contents known (take i first) old
    → AddsWalk contents known (get_or first i d).place (get_or first i d).text.now old new (Ok tt)
    → AreRead contents known (take (i + 1) first) new
loop_more contents known first i d old new within read adds =
    rw (take_more first i d within) (read_more contents known (take i first) (get_or first i d) old new read adds)

pub loop_stops : (contents : List ℕ → Content → Type 0) (known : Known) (first : List FirstFile) (i : ℕ)
    (d : FirstFile) (old new : List Setting) (e : AddError)
    → i < length first → AreRead contents known (take i first) old
    → AddsWalk contents known (get_or first i d).place (get_or first i d).text.now old new (Err e)
    → StopsWith contents known first e
loop_stops contents known first i d old new e within read adds =
    let rest = drop (i + 1) first in
    subst (λ files. StopsWith contents known files e) (sym (append_assoc (take i first) (get_or first i d ∷ []) rest)
    ∙ ap (λ files. files ++ rest) (sym (take_more first i d within)) ∙ take-append-drop (i + 1) first)
    (stops_after contents known (take i first) rest (get_or first i d) old new e read adds)

-- ---- settings and their entries

pub are_listed : (found : List (List ℕ × Entry)) (all : List Setting) → AreFoundRead found
    → AllZip IsSettingOf found all → AreListed all
are_listed [] [] read zip = All-nil _
are_listed (one ∷ found) (s ∷ all) read zip = All-cons
    (λ setting. (text : List ℕ) × IsListed (entry_of setting.entry).section (entry_of setting.entry).key text) s all
    (subst (λ e. (text : List ℕ) × IsListed e.section e.key text) (sym zip.0.entry) read.0.listed)
    (are_listed found all read.1 zip.1)
are_listed found all read zip = absurd (search)

pub none_has : (key : Key) (found : List (List ℕ × Entry)) (all : List Setting) → AllZip IsSettingOf found all
    → LacksKey all key → NoneHas key found
none_has key [] [] zip lacks = All-nil _
none_has key (one ∷ found) (s ∷ all) zip lacks = All-cons (λ one. ¬ (HasKey one.1 key)) one found
    (λ has. lacks 0 s (omega arith) (rw zip.0.entry has))
    (none_has key found all zip.1 (λ k d within. lacks (suc k) d (omega arith)))
none_has key found all zip lacks = absurd (search)

-- the last entry with the key, which is that of the setting
pub record IsLastOf (key : Key) (found : List (List ℕ × Entry)) (setting : Setting) : Type 0 where
  pub last : List ℕ × Entry
  pub is_last : IsLast key found last
  pub is_setting : IsSettingOf last setting
  pub read : IsRead last.1

last_at : (key : Key) (found : List (List ℕ × Entry)) (all : List Setting) (i : ℕ) (setting : Setting)
    → AreFoundRead found → AllZip IsSettingOf found all → slice_get all i ≡ Some setting
    → HasKey (entry_of setting.entry) key
    → AllWithin (λ other. ¬ (HasKey (entry_of other.entry) key)) all (i + 1) (length all)
    → IsLastOf key found setting
last_at key [] [] i setting read zip at has none = absurd (cc)
last_at key (one ∷ found) (s ∷ all) zero setting read zip at has none =
    let same : s ≡ setting = cc (at) in
    let is : IsSettingOf one setting = rw same at zip.0 in record {
      last = one;
      is_last = here (rw is.entry at has)
          (none_has key found all zip.1 (λ k d within. none (suc k) d (omega arith) (omega arith)));
      is_setting = is;
      read = read.0;
    }
last_at key (one ∷ found) (s ∷ all) (suc i) setting read zip at has none =
    let rest = last_at key found all i setting read.1 zip.1 at has
    (λ k d from within. none (suc k) d (omega arith) (omega arith)) in
    record { last = rest.last; is_last = later rest.is_last; is_setting = rest.is_setting; read = rest.read }
last_at key found all i setting read zip at has none = absurd (search)

pub last_of : (key : Key) (found : List (List ℕ × Entry)) (all : List Setting) (setting : Setting)
    → AreFoundRead found → AllZip IsSettingOf found all → settings.IsLast all key setting
    → IsLastOf key found setting
last_of key found all setting read zip (i, at, has, none) = last_at key found all i setting read zip at has none

text_by : (entry : Entry) (value : Option (List ℕ)) (setting : Setting) → entry.value ≡ value
    → IsValueOf value (value_text setting) → IsRead entry → HasText entry (text_of setting)
text_by entry None setting e is read = rw is (alone e)
text_by entry (Some raw) setting e is read =
    let (text, ending, spells) = read.spells raw e in rw (is text ending spells) (spelled e spells)

pub has_text : (one : List ℕ × Entry) (setting : Setting) → IsSettingOf one setting → IsRead one.1
    → HasText one.1 (text_of setting)
has_text one setting is read = text_by one.1 one.1.value setting refl is.value read

-- ---- what the caller returns

-- the settings are listed, and each is that of the entry at its place
pub settings_listed : (contents : List ℕ → Content → Type 0) (known : Known) (first : List FirstFile)
    (all : List Setting)
    → EachIsRead → AreRead contents known first all → AreListed all
settings_listed contents known first all each (found, walks, (added, is, zip)) =
    are_listed found all (found_are_read each walks) (rw is zip)

pub unset : (contents : List ℕ → Content → Type 0) (known : Known) (first : List FirstFile) (key : Key)
    (all : List Setting)
    → AreRead contents known first all → LacksKey all key
    → (found : List (List ℕ × Entry)) × WalksAll contents known first found None × NoneHas key found
unset contents known first key all (found, walks, (added, is, zip)) lacks =
    (found, walks, none_has key found all (rw is zip) lacks)

-- the last entry with the key has the text of the setting, and the place of the setting
pub decided : (contents : List ℕ → Content → Type 0) (known : Known) (first : List FirstFile) (key : Key)
    (all : List Setting) (setting : Setting) (text : List ℕ)
    → EachIsRead → AreRead contents known first all → settings.IsLast all key setting → text ≡ text_of setting
    → (last : List ℕ × Entry) × IsDecided contents known first key last text × (setting.file.now ≡ last.0)
    × (setting.entry.line ≡ last.1.line)
decided contents known first key all setting text each (found, walks, (added, is, zip)) last e =
    let at = last_of key found all setting (found_are_read each walks)
    (rw is zip) last in (
      at.last,
      record {
        found = found;
        walks = walks;
        is_last = at.is_last;
        has_text = rw e (has_text at.last setting at.is_setting at.read);
      },
      at.is_setting.file,
      ap (λ entry. entry.line) at.is_setting.entry,
    )
