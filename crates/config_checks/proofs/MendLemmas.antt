-- A text in which findings are mended.
use Rattle.std.proofs.Common.{◌≡◌, ℕ, zero, suc, Bool, true, false, List, [], ◌∷◌, ◌++◌, map, length, Option}
use Rattle.std.proofs.Common.{None, Some}
use Rattle.std.proofs.Common.{Ok, refl, sym, ap, subst, ◌∙◌, inl, inr, append_assoc, append-nil}
use Rattle.std.proofs.Common.{option_copied, MatchOption}
use Rattle.std.proofs.Common.{if◌then◌else◌, ◌+◌}
use Rattle.std.proofs.lemmas.List.{length-append, map-append}
use Rattle.std.specs.List.{slice_get, AllByRecursion, AllZip}
use Rattle.config_file.specs.declared.entry.Entry as code
use Rattle.config_file.specs.declared.errors.FileError as errors
use Rattle.config_file.specs.declared.reader.Entries.{Entries}
use Rattle.config_file.specs.File.{Entry, IsFile, Begins}
use Rattle.config_file.specs.Left.{GivesEntry, HasLeft}
use Rattle.config_file.specs.Settings.{IsValueOf}
use Rattle.config_file.specs.Views.{entry_of}
use Rattle.config_file.proofs.EachListed.{IsRead, entries_are_read}
use Rattle.config_file.proofs.ListsA.{all_by_recursion, all_appended}
use Rattle.config_file.proofs.OneKey.{cut_same}
use Rattle.config_file.proofs.OneReading.{one_reading}
use Rattle.config_file.proofs.Steps.{file_begins}
use Rattle.config_edit.specs.declared.Change.{Change}
use Rattle.config_edit.specs.declared.EditError.{EditError}
use Rattle.config_edit.specs.declared.EditError.TheVariants as error
use Rattle.config_edit.specs.Edit.{Content, content, HasValue, IsChanged, ChangesEach, ChangesEntries}
use Rattle.config_edit.specs.Edit.{RefusesChanges}
use Rattle.config_edit.specs.Edit as edit
use Rattle.config_checks.specs.declared.code.Code.{Code}
use Rattle.config_checks.specs.declared.fix.Fix.{Fix}
use Rattle.config_checks.specs.declared.fix.Fix.TheVariants.{Name, Value}
use Rattle.config_checks.specs.declared.fix.Safety.{Safety}
use Rattle.config_checks.specs.declared.fix.Safety.TheVariants.{Safe, Unsafe}
use Rattle.config_checks.specs.declared.mending.Mend.{Mend}
use Rattle.config_checks.specs.declared.mending.Proposal.{Proposal}
use Rattle.config_checks.specs.declared.options.Options.{Options}
use Rattle.config_checks.specs.declared.row.Row.{Row}
use Rattle.config_checks.specs.declared.setting.Setting.{Setting}
use Rattle.config_checks.specs.Findings.{Finding, finding_of}
use Rattle.config_checks.specs.Fixes.{IsClean, IsSafe, IsSafeName, IsSafeValue, HasSafety, Mends}
use Rattle.config_checks.specs.Mending.{name_given, value_given, change_of, IsAsSafe, IsWanted, IsMend}
use Rattle.config_checks.specs.Mending.{HasMends, IsCleanNow, RefusesMending}
use Rattle.config_checks.specs.Mending as mending
use Rattle.config_checks.specs.Report.{HasSettings}
use Rattle.config_checks.specs.Settings.{IsSettingOf, value_of}
use Rattle.config_checks.proofs.CheckLemmas.{HasRead}
use Rattle.config_checks.proofs.RenamedLemmas.{clean_value, clean_name}

-- ---- lists

get_more : {A : Type 0} (xs more : List A) (i : ℕ) (x : A) → slice_get xs i ≡ Some x
    → slice_get (xs ++ more) i ≡ Some x
get_more [] more i x e = absurd (cc)
get_more (y ∷ ys) more zero x e = e
get_more (y ∷ ys) more (suc i) x e = get_more ys more i x e

get_last : {A : Type 0} (xs : List A) (x : A) → slice_get (xs ++ x ∷ []) (length xs) ≡ Some x
get_last [] x = refl
get_last (y ∷ ys) x = get_last ys x

pub get_mapped : {A B : Type 0} (f : A → B) (xs : List A) (i : ℕ) (y : B) → slice_get (map f xs) i ≡ Some y
    → (x : A) × (slice_get xs i ≡ Some x) × (f x ≡ y)
get_mapped f [] i y e = absurd (cc)
get_mapped f (x ∷ xs) zero y e = (x, refl, cc)
get_mapped f (x ∷ xs) (suc i) y e = get_mapped f xs i y e

pub get_zipped : {A B : Type 0} (R : A → B → Type 0) (xs : List A) (ys : List B) (i : ℕ) (x : A) → AllZip R xs ys
    → slice_get xs i ≡ Some x → (y : B) × (slice_get ys i ≡ Some y) × R x y
get_zipped R [] [] i x all e = absurd (cc)
get_zipped R (w ∷ xs) (y ∷ ys) zero x all e =
    let same : w ≡ x = cc in (y, refl, subst (λ w. R w y) same all.0)
get_zipped R (w ∷ xs) (y ∷ ys) (suc i) x all e = get_zipped R xs ys i x all.1 e
get_zipped R xs ys i x all e = absurd all

pub get_one : {A : Type 0} (P : A → Type 0) (xs : List A) (i : ℕ) (x : A) → AllByRecursion P xs
    → slice_get xs i ≡ Some x → P x
get_one P [] i x all e = absurd (cc)
get_one P (y ∷ ys) zero x all e = let same : y ≡ x = cc in subst P same all.0
get_one P (y ∷ ys) (suc i) x all e = get_one P ys i x all.1 e

get_same : {A : Type 0} (xs : List A) (i : ℕ) (x y : A) → slice_get xs i ≡ Some x → slice_get xs i ≡ Some y → x ≡ y
get_same xs i x y p q = let both : Some x ≡ Some y = sym p ∙ q in cc

pub all_weaker : {A : Type 0} (P Q : A → Type 0) → ((x : A) → P x → Q x) → (xs : List A) → AllByRecursion P xs
    → AllByRecursion Q xs
all_weaker P Q so [] all = tt
all_weaker P Q so (x ∷ xs) all = (so x all.0, all_weaker P Q so xs all.1)

all_both : {A B : Type 0} (f : A → B) (P : A → Type 0) (Q : B → Type 0) (R : A → Type 0)
    → ((x : A) → P x → Q (f x) → R x) → (xs : List A) → AllByRecursion P xs → AllByRecursion Q (map f xs)
    → AllByRecursion R xs
all_both f P Q R so [] p q = tt
all_both f P Q R so (x ∷ xs) p q = (so x p.0 q.0, all_both f P Q R so xs p.1 q.1)

-- ---- the entries of a text

module _ (text : List ℕ) where
  -- these entries were read, and the reader still has the others
  pub record AreRead (reader : Entries) (entries : List code.Entry) : Type 0 where
    pub read : HasRead text (map entry_of entries) reader

  pub read_start : (reader : Entries) → reader.section ≡ None → Begins text reader.line reader.rest.now
      → AreRead reader []
  read_start reader none begins = record { read = λ left error has. file_begins reader text left error none begins has }

  module _ (reader : Entries) (entries : List code.Entry) (so_far : AreRead reader entries) where
    pub read_more : (reader' : Entries) (entry : code.Entry) → GivesEntry reader (Some (Ok entry)) reader'
        → AreRead reader' (entries ++ entry ∷ [])
    read_more reader' entry gives = record {
      read = λ left error h. rw (map-append entry_of entries (entry ∷ []), append_assoc)
          (so_far.read (entry_of entry ∷ left) error (gives left error h));
    }

    pub read_all : (error : Option errors.FileError) → HasLeft reader [] error
        → IsFile text (map entry_of entries) error
    read_all error left = rw append-nil at (so_far.read [] error left)

-- ---- which changes are wanted

module _ (rows : List Row) (options : Options) (setting : Setting) (f : Finding) where
  -- changes that mend the same finding are the same, so that one is as safe as the other
  same_safe : (code : Code) (a b : Fix) → Mends rows options setting f a → Mends rows options setting f b
      → IsSafe setting code a → IsSafe setting code b
  same_safe code (Value x) (Value y) (p, _) (q, _) safe =
      let both : Some x.now ≡ Some y.now = sym p ∙ q in
      let same : x.now ≡ y.now = cc in
      subst (λ new. IsSafeValue setting code new) same safe
  same_safe code (Name x) (Name y) (k, is, _, _, from, _) (l, also, _, _, to, _) safe =
      let both : Some k ≡ Some l = sym is ∙ also in
      let keys : k ≡ l = cc in
      let names = cut_same (rw keys at from.becomes) to.becomes in
      let same : x.now ≡ y.now = sym from.last ∙ ap (λ k. k.name) names ∙ to.last in
      subst (λ name. IsSafeName setting name) same safe
  same_safe code (Value x) (Name y) (p, _) (_, _, none, _, _, _) safe =
      let both : None ≡ Some x.now = sym none ∙ p in absurd (cc)
  same_safe code (Name x) (Value y) (_, _, none, _, _, _) (q, _) safe =
      let both : None ≡ Some y.now = sym none ∙ q in absurd (cc)

module _ (rows : List Row) (options : Options) (guesses : Bool) (settings : List Setting)
    (proposal : Proposal) where
  abbrev pub IsOne : Mend → Type 0
  IsOne mend = IsMend rows options guesses settings proposal mend

  module _ (entry : ℕ) (about : proposal.finding.entry ≡ Some entry) where
    pub same_entry : (mend : Mend) → IsOne mend → mend.entry ≡ entry
    same_entry mend is = let both : Some mend.entry ≡ Some entry = sym is.entry ∙ about in cc

    module _ (setting : Setting) (stands : slice_get settings entry ≡ Some setting) where
      same_setting : (mend : Mend) (is : IsOne mend) → is.setting ≡ setting
      same_setting mend is = get_same settings entry is.setting setting
          (rw (same_entry mend is) at is.stands) stands

      pub own_mends : (mend : Mend) → IsOne mend → Mends rows options setting (finding_of proposal.finding) mend.fix
      own_mends mend is = rw (same_setting mend is) at is.mends

      module _ (fix : Fix) (own safety : Safety)
          (mends : Mends rows options setting (finding_of proposal.finding) fix)
          (has : HasSafety setting proposal.finding.code fix own)
          (told : safety ≡ (if proposal.is_guess then Unsafe else own)) where
        as_safe : (b : Bool) (s : Safety) → proposal.is_guess ≡ b → HasSafety setting proposal.finding.code fix s
            → IsAsSafe proposal setting fix (if b then Unsafe else s)
        as_safe true s is so = inl is
        as_safe false Safe is so = (is, so)
        as_safe false Unsafe is so = inr so

        pub is_one : IsWanted guesses safety → IsOne (record { entry = entry; fix = fix; safety = safety })
        is_one wanted = record {
          entry = about;
          setting = setting;
          stands = stands;
          mends = mends;
          safety = rw told (as_safe proposal.is_guess own refl has);
          wanted = wanted;
        }

        -- what is safe is wanted, and so is all if guesses are
        safe_wanted : (s : Safety) → HasSafety setting proposal.finding.code fix s
            → IsSafe setting proposal.finding.code fix
            → IsWanted guesses s
        safe_wanted Safe so safe = tt
        safe_wanted Unsafe so safe = absurd (so safe)

        any_wanted : (s : Safety) → guesses ≡ true → IsWanted guesses s
        any_wanted Safe all = tt
        any_wanted Unsafe all = all

        wanted_too : (other : Fix) (s : Safety) → Mends rows options setting (finding_of proposal.finding) other
            → IsAsSafe proposal setting other s → IsWanted guesses s → IsWanted guesses safety
        wanted_too other Safe also (sure, safe) wanted =
            let here = safe_wanted own has
            (same_safe rows options setting
            (finding_of proposal.finding) proposal.finding.code other fix also mends safe) in
            rw (told, sure) here
        wanted_too other Unsafe also so wanted = any_wanted safety wanted

        pub unwanted : ¬ (IsWanted guesses safety) → (mend : Mend) → ¬ (IsOne mend)
        unwanted never mend is =
            never (wanted_too mend.fix mend.safety (own_mends mend is)
            (rw (same_setting mend is) at is.safety) is.wanted)

-- ---- what a change makes of its entry

-- the entry that the change names is changed
abbrev IsChangedAt : List Content → List Content → Change → Type 0
IsChangedAt old new change = (x y : Content) × (slice_get old change.entry ≡ Some x)
    × (slice_get new change.entry ≡ Some y)
    × IsChanged change x y

changed_more : (old new : List Content) (x y : Content) (change : Change) → IsChangedAt old new change
    → IsChangedAt (old ++ x ∷ []) (new ++ y ∷ []) change
changed_more old new x y change (w, z, p, q, is) =
    (w, z, get_more old (x ∷ []) change.entry w p, get_more new (y ∷ []) change.entry z q, is)

one_longer : (old new : List Content) (x y : Content) → length old ≡ length new
    → length (old ++ x ∷ []) ≡ length (new ++ y ∷ [])
one_longer old new x y same = length-append old (x ∷ []) ∙ ap (λ n. n + 1) same ∙ sym (length-append new (y ∷ []))

pub as_many : {changes : List Change} {old new : List Content} → ChangesEach changes old new
    → length old ≡ length new
as_many edit.none = refl
as_many (edit.kept x {old = old} {new = new} each) = one_longer old new x x (as_many each)
as_many (edit.changed change x y {old = old} {new = new} each place is) = one_longer old new x y (as_many each)

changed_at : {changes : List Change} {old new : List Content} → ChangesEach changes old new
    → AllByRecursion (IsChangedAt old new) changes
changed_at edit.none = tt
changed_at (edit.kept x {changes = changes} {old = old} {new = new} each) =
    all_weaker (IsChangedAt old new) (IsChangedAt (old ++ x ∷ []) (new ++ x ∷ []))
    (changed_more old new x x) changes (changed_at each)
changed_at (edit.changed change x y {changes = changes} {old = old} {new = new} each place is) =
    let P = IsChangedAt (old ++ x ∷ []) (new ++ y ∷ []) in
    let here : P change =
    (x, y, rw place (get_last old x), rw (place ∙ as_many each) (get_last new y), is) in
    all_appended P changes (change ∷ [])
    (all_weaker (IsChangedAt old new) P (changed_more old new x y) changes (changed_at each)) (here, tt)

-- ---- one entry

has_value : (v : Option (List ℕ)) (value : List ℕ) (text : Option (List ℕ)) → HasValue v value → IsValueOf v text
    → text ≡ Some value
has_value None value text has is = absurd has
has_value (Some raw) value text (ending, spells) is = is value ending spells

module _ (rows : List Row) (options : Options) (file : List ℕ) (e e' : Entry) (s s' : Setting) (read : IsRead e)
    (is : IsSettingOf file e s) (now : IsSettingOf file e' s') (same : e'.section ≡ e.section) where
  -- what the entry has after the change
  clean_after : (f : Finding) (fix : Fix) → Mends rows options s f fix
      → MatchOption (option_copied (name_given fix)) (e'.key ≡ e.key) (λ name. e'.key ≡ name)
      → MatchOption (option_copied (value_given fix)) (e'.value ≡ e.value) (HasValue e'.value)
      → IsClean rows options s'.key.items (value_of s')
  clean_after f (Value new) (meant, mends) last value =
      clean_value rows options file e e' s s' read is now same new.now last
      (has_value e'.value new.now (value_of s') value now.value) mends.clean
  clean_after f (Name name) (key, _, _, _, renamed, mends) last value =
      clean_name rows options file e e' s s' read is now same key name.now last value renamed mends.clean

-- ---- all entries

module _ (rows : List Row) (options : Options) (guesses : Bool) (settings : List Setting) where
  abbrev IsSome : Mend → Type 0
  IsSome mend = (proposal : Proposal) × IsMend rows options guesses settings proposal mend

  all_mends : {proposals : List Proposal} {mends : List Mend}
      → HasMends rows options guesses settings proposals mends
      → AllByRecursion IsSome mends
  all_mends mending.none = tt
  all_mends (mending.mended proposal mend {mends = mends} have is) =
      all_appended IsSome mends (mend ∷ []) (all_mends have) ((proposal, is), tt)
  all_mends (mending.left proposal have none) = all_mends have

  module _ (file : List ℕ) (entries entries' : List Entry) (now : List Setting)
      (read : AllByRecursion IsRead entries)
      (were : AllZip (IsSettingOf file) entries settings) (are : AllZip (IsSettingOf file) entries' now) where
    clean_now : (mend : Mend) → IsSome mend
        → IsChangedAt (map content entries) (map content entries') (change_of mend)
        → IsCleanNow rows options now mend
    clean_now mend (proposal, is) (x, y, p, q, changes) =
        let (e, here, old) = get_mapped content entries mend.entry x p in
        let (e', there, new) = get_mapped content entries' mend.entry y q in
        let (section, last, value) = rw (sym old, sym new) at changes in
        let (s, stood, was) = get_zipped (IsSettingOf file) entries settings mend.entry e were here in
        let (s', stands, becomes) = get_zipped (IsSettingOf file) entries' now mend.entry e' are there in
        let own = rw (get_same settings mend.entry is.setting s is.stands stood) at is.mends in (
          s',
          stands,
          clean_after rows options file e e' s s'
              (get_one IsRead entries mend.entry e read here) was becomes section
              (finding_of proposal.finding) mend.fix own last value,
        )

pub are_clean : (rows : List Row) (options : Options) (guesses : Bool) (file text new : List ℕ)
    (settings now : List Setting)
    (proposals : List Proposal) (mends : List Mend) → HasSettings file text settings None
    → HasMends rows options guesses settings proposals mends → ChangesEntries (map change_of mends) text new
    → HasSettings file new now None → AllByRecursion (IsCleanNow rows options now) mends
are_clean rows options guesses file text new settings now proposals mends (entries, is_file, were) have made
    (entries', is_new, are) =
    let (contents, (old, old_file, old_is), ordered, after, (newer, new_file, new_is), each, bytes) = made in
    let same = (one_reading text entries old None None is_file old_file).0 in
    let also = (one_reading new entries' newer None None is_new new_file).0 in
    let each' : ChangesEach (map change_of mends) (map content entries) (map content entries') =
    rw (same, also, old_is, new_is) each in
    all_both change_of (IsSome rows options guesses settings)
    (IsChangedAt (map content entries) (map content entries'))
    (IsCleanNow rows options now)
    (clean_now rows options guesses settings file entries entries' now
    (all_by_recursion IsRead entries (entries_are_read is_file)) were are)
    mends (all_mends rows options guesses settings have) (changed_at each')

-- ---- refusals

module _ (rows : List Row) (options : Options) (guesses : Bool) (file text : List ℕ) (settings : List Setting)
    (proposals : List Proposal) (mends : List Mend) (of_file : HasSettings file text settings None)
    (have : HasMends rows options guesses settings proposals mends) where
  pub refuses : (e : EditError) → RefusesChanges (map change_of mends) text e
      → RefusesMending rows options guesses file text proposals e
  refuses (error.Memory e) why = tt
  refuses (error.File e) (made, entries, is_file) =
      let both : None ≡ Some e = (one_reading text of_file.0 entries None (Some e) of_file.1 is_file).1 in
      absurd (cc)
  refuses (error.Key e) why = (settings, mends, of_file, have, why)
  refuses error.Section why = (settings, mends, of_file, have, why)
  refuses error.Value why = (settings, mends, of_file, have, why)
  refuses error.Comment why = (settings, mends, of_file, have, why)
  refuses error.Several why = (settings, mends, of_file, have, why)
  refuses error.Absent why = (settings, mends, of_file, have, why)
