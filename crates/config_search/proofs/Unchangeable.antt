-- The settings that no repository can change, one after the other.
use Rattle.std.proofs.Common.{◌≡◌, ◌++◌, ◌∷◌, [], ℕ, List, Ok, ap, append-nil, map, refl, subst, sym}
use Rattle.std.specs.List.{AllZip}
use Rattle.std.proofs.lemmas.List.{append_assoc}
use Rattle.std.proofs.lemmas.List.Elements.{All-nil}
use Rattle.config_file.specs.File.{Entry}
use Rattle.config_file.specs.Settings.{AreListed, IsSettingOf}
use Rattle.config_file.specs.declared.scope.Scope.{Scope}
use Rattle.config_file.specs.declared.settings.Setting.{Setting}
use Rattle.config_file.specs.declared.walk.Known.{Known}
use Rattle.config_file.proofs.OneAddition.{walk_keeps_listed}
use Rattle.config_search.specs.System.{System}
use Rattle.config_search.specs.Protected.{AreProtected, IsSettingOfRead}
use Rattle.config_search.specs.Receiving.{ReceivesEach, nothing, one_more as one_received}
use Rattle.config_search.specs.Stages.{Collects}
use Rattle.config_search.specs.declared.protected.Collected.{Collected}
use Rattle.config_search.specs.Reads.{At, End, HoldsFor, ReadEntry, ReadsAsGit, ReadsOpened, ReadsTexts}
use Rattle.config_search.specs.Reads.{Stop, Text, Whole, by_urls, in_urls, none, one_more, or_then, plain}
use Rattle.config_search.specs.Reads.{stopped, with_scope}

-- settings of entries and then of others
split : (read more : List ReadEntry) (settings : List Setting) → AllZip IsSettingOfRead (read ++ more)
    settings
    → (front : List Setting) × (back : List Setting) × (settings ≡ front ++ back) × AllZip IsSettingOfRead
    read front
    × AllZip IsSettingOfRead more back
split [] more settings zip = ([], settings, refl, tt, zip)
split (it ∷ read) more (setting ∷ settings) (is, zip) =
    let (front, back, same, first, second) = split read more settings zip in
    (setting ∷ front, back, ap (λ (all : List Setting). setting ∷ all) same, (is, first), second)
split (it ∷ read) more [] zip = absurd zip

of_pairs : (scope : Scope) (found : List (List ℕ × Entry)) (settings : List Setting)
    → AllZip IsSettingOfRead (map (with_scope scope) found) settings → AllZip IsSettingOf found settings
of_pairs scope [] [] zip = tt
of_pairs scope [] (setting ∷ settings) zip = absurd zip
of_pairs scope (one ∷ found) [] zip = absurd zip
of_pairs scope (one ∷ found) (setting ∷ settings) (is, zip) = (is.0, of_pairs scope found settings zip)

stops_not : (stop : Stop) → At stop ≡ Whole → ⊥
stops_not stop same = cc

none_zip : (settings : List Setting) → AllZip IsSettingOfRead [] settings → settings ≡ []
none_zip [] zip = refl
none_zip (setting ∷ settings) zip = absurd zip

texts_listed : {system : System} {start : List ℕ} {known : Known} {texts : List Text}
    {read : List ReadEntry} {end : End}
    (settings : List Setting) → ReadsTexts system start known texts read end → end ≡ Whole
    → AllZip IsSettingOfRead read settings → AreListed settings
texts_listed settings none whole zip = rw (none_zip settings zip) (All-nil _)
texts_listed {system} {start} {known} settings (one_more {found = found} {more = more} text are
    (place, pairs, name, dir, same, walks)) whole zip =
    let (front, back, both, first, second) = split found more settings zip in
    rw both (walk_keeps_listed (HoldsFor system start text.is_file) known place text.text front
    (front ++ back) (Ok tt) (
      pairs,
      (
        back,
        refl,
        of_pairs text.scope pairs back (subst
            (λ (some : List ReadEntry). AllZip IsSettingOfRead some back) same second),
      ),
      rw whole at walks,
    )
    (texts_listed front are refl first))
texts_listed settings (stopped {stop = stop} text are) whole zip = absurd (stops_not stop whole)

then_whole : (of_texts opened : End) → Whole ≡ or_then of_texts opened → of_texts ≡ Whole
then_whole Whole opened same = refl
then_whole (At stop) opened same = absurd (stops_not stop (sym same))

opened_listed : {system : System} {start : List ℕ} {known : Known} {texts : List Text} {opened : End}
    {read : List ReadEntry}
    (settings : List Setting) → ReadsOpened system start known texts opened read Whole
    → AllZip IsSettingOfRead read settings → AreListed settings
opened_listed {opened = opened} settings (of_texts, are, same) zip =
    texts_listed settings are (then_whole of_texts opened same) zip

git_listed : {system : System} {start : List ℕ} {known : Known} {texts : List Text} {opened : End}
    {read : List ReadEntry}
    {end : End} (settings : List Setting) → ReadsAsGit system start known texts opened read end → end ≡ Whole
    → AllZip IsSettingOfRead read settings → AreListed settings
git_listed settings (plain asks reads) whole zip = opened_listed settings (rw whole at reads) zip
git_listed settings (by_urls first all earlier are opens any sought urls reads) whole zip =
    opened_listed settings (rw whole at reads) zip
git_listed settings (in_urls {stop = stop} first all earlier opens any sought) whole zip = absurd
    (stops_not stop whole)

-- Git lists each setting that no repository can change
pub are_listed : (system : System) (start : List ℕ) (settings : List Setting) → AreProtected system start
    settings
    → AreListed settings
are_listed system start settings are = git_listed settings are.reads refl are.are

-- one more setting
pub and_setting : (read : List ReadEntry) (settings : List Setting) (it : ReadEntry) (setting : Setting)
    → AllZip IsSettingOfRead read settings → IsSettingOfRead it setting
    → AllZip IsSettingOfRead (read ++ it ∷ []) (settings ++ setting ∷ [])
and_setting [] [] it setting zip is = (is, tt)
and_setting [] (other ∷ settings) it setting zip is = absurd zip
and_setting (first ∷ read) [] it setting zip is = absurd zip
and_setting (first ∷ read) (other ∷ settings) it setting (also, zip)
    is = (also, and_setting read settings it setting zip is)

-- the settings of the entries that are received
pub collects_more : {old new : Collected} {more : List ReadEntry} (read : List ReadEntry)
    → ReceivesEach Collects old more new → AllZip IsSettingOfRead read old.settings.entries.items
    → AllZip IsSettingOfRead (read ++ more) new.settings.entries.items
collects_more read nothing zip = rw (append-nil read) zip
collects_more read (one_received {read = more} {so_far = so_far} it each (setting, is, same)) zip =
    rw (same, sym (append_assoc read more (it ∷ []))) (and_setting (read ++ more)
    so_far.settings.entries.items it setting
    (collects_more read each zip) is)
