-- A check, setting by setting.
use Rattle.std.proofs.Common.{◌≡◌, ◌+◌, ◌^◌, ◌≤◌, ◌<◌, ℕ, List, [], ◌∷◌, ◌++◌, Option, None, Some, refl}
use Rattle.std.proofs.Common.{append_assoc, append-nil, arith, Result, Ok, Err, length, option_map, OnErr}
use Rattle.std.proofs.Common.{true, false}
use Rattle.config_file.specs.declared.errors.FileError as errors
use Rattle.config_checks.specs.declared.options.Options.{Options}
use Rattle.config_checks.specs.declared.row.Row.{Row}
use Rattle.config_checks.specs.declared.setting.Setting.{Setting}
use Rattle.config_checks.specs.declared.check.Counts.{Counts}
use Rattle.config_checks.specs.Findings.{Finding}
use Rattle.config_checks.specs.Report.{unknown, misspelled, right, found, nothing, next, HasSettings}
use Rattle.config_checks.specs.Report.{HasFirstSettings, Receives, Completes, Fails, counted, no_counts}
use Rattle.config_checks.specs.Report.{ReportsSetting}
use Rattle.config_checks.specs.Reading.Steps.{Reports, ReportsAll, ReportsEntries, ReportsError, AreWithin}
use Rattle.config_checks.specs.Reading.Steps.{HasRoomForFinding, IsSaidAs, findings_as, is_some}
use Rattle.config_checks.specs.Rows.{IsUnknown}
use Rattle.config_checks.specs.Settings.{IsSettingOf}
use Rattle.config_checks.specs.Reasons.{severity_of}
use Rattle.config_checks.specs.declared.reason.Severity.{Severity}
use Rattle.config_checks.specs.Suggestions.{unknown_severity}
use Rattle.config_file.specs.declared.entry.Entry as code
use Rattle.config_file.specs.declared.reader.Entries.{Entries}
use Rattle.config_file.specs.File.{Entry, IsFile, Begins}
use Rattle.config_file.specs.Left.{GivesEntry, HasLeft}
use Rattle.config_file.specs.Views.{entry_of, section_of}
use Rattle.std.specs.List.{AllZip}
use Rattle.config_file.proofs.EachReading.{are_read, each_is_read}
use Rattle.config_file.proofs.Steps.{file_begins}
use Rattle.std.proofs.lemmas.Slice.Zip.{all_zipped_more}

-- ---- what is received

pub receives-nil : (a : Option (List Finding)) → Receives a a []
receives-nil a = grind (arith, append-nil)

pub receives-trans : (a b c : Option (List Finding)) (bs cs : List Finding) → Receives a b bs → Receives b c cs
    → Receives a c (bs ++ cs)
receives-trans a b c bs cs p q = grind (arith, append_assoc)

receives-none : (a b c : Option (List Finding)) (bs : List Finding) → Receives a b bs → Receives b c []
    → Receives a c bs
receives-none a b c bs p q = rw append-nil at (receives-trans a b c bs [] p q)

-- ---- counts

-- the count of the entries grows by one, and each other count by at most one
pub record AddsOne (s s' : Counts) : Type 0 where
  pub entries : s'.entries ≡ s.entries + 1
  pub unknown : s'.unknown ≤ s.unknown + 1
  pub findings : s'.findings ≤ s.findings + 1
  pub errors : s'.errors ≤ s.errors + 1
  pub warnings : s'.warnings ≤ s.warnings + 1

counted_one : (severity : Severity) (s : Counts)
    → AddsOne s (counted severity (record s { entries = s.entries + 1 }))
counted_one severity s = grind arith

unknown_one : (severity : Severity) (s : Counts)
    → AddsOne s (counted severity (record s { entries = s.entries + 1; unknown = s.unknown + 1 }))
unknown_one severity s = grind arith

pub adds_one : (rows : List Row) (options : Options) (setting : Setting) (s s' : Counts)
    (x x' : Option (List Finding))
    → Reports rows options setting s s' x x' → AddsOne s s'
adds_one rows options setting s s' x x' (line, adds, appended) = elim adds [
  | unknown is passed none after ↦ rw after (omega arith)
  | misspelled key is line after ↦ rw after (unknown_one (unknown_severity setting.key.items) s)
  | right row decides is none after ↦ rw after (omega arith)
  | found row reason decides is line after ↦ rw after (counted_one (severity_of row.goes_on reason) s)
]

pub within_after : (s s' : Counts) → AreWithin s → AddsOne s s' → AreWithin s'
within_after s s' within adds = omega arith

-- if there is room for one more entry, there is room for one more finding
pub leaves_room : (s : Counts) → AreWithin s → s.entries + 1 < 2 ^ 64 → HasRoomForFinding s
leaves_room s within room = omega arith

pub are_none : (s : Counts) → s.entries ≡ 0 → s.unknown ≡ 0 → s.findings ≡ 0 → s.errors ≡ 0 → s.warnings ≡ 0
    → s ≡ no_counts
are_none s a b c d e i = record { entries = a i; unknown = b i; findings = c i; errors = d i; warnings = e i }

-- ---- a file

-- these entries of the file were read, and the reader still has the others
abbrev pub HasRead : List ℕ → List Entry → Entries → Type 0
HasRead text entries reader =
    (left : List Entry) (error : Option errors.FileError) → HasLeft reader left error
    → IsFile text (entries ++ left) error

module _ (rows : List Row) (options : Options) (file text : List ℕ) where
  all_first : (settings : List Setting) (error : Option errors.FileError) → HasSettings file text settings error
      → HasFirstSettings file text settings
  all_first settings error (entries, is_file, are) =
      record { before = entries; after = []; error = error; is_file = rw append-nil is_file; are = are }

  first_settings : (entries : List Entry) (settings : List Setting) (reader : Entries) → HasRead text entries reader
      → AllZip (IsSettingOf file) entries settings → HasFirstSettings file text settings
  first_settings entries settings reader read are =
      let (left, error, reads) = are_read (length reader.rest.now) (option_map section_of reader.section) reader.line reader.rest.now
      (omega arith) in
      record { before = entries; after = left; error = error; is_file = read left error reads; are = are }

  -- the check ends after the findings of these settings
  pub stops : (w x y : Option (List Finding)) (settings : List Setting) (s : Counts)
      → HasFirstSettings file text settings
      → ReportsAll rows options settings w x s → Receives x y [] → Fails rows options file text w y
  stops w x y settings s first (list, received, report) none = (
    list,
    receives-none w x y list received none,
    record { first = settings; of_file = first; s = s; report = report },
  )

  pub fails_starting : (w : Option (List Finding)) → Fails rows options file text w w
  fails_starting w =
      let (entries, error, is_file) = each_is_read text in
      stops w w w [] no_counts
      (record { before = []; after = entries; error = error; is_file = is_file; are = tt })
      ([], receives-nil w, nothing) (receives-nil w)

  -- the entries that were read are reported, and the counts have room for the rest
  pub record IsReported (reader : Entries) (w x : Option (List Finding)) (s : Counts) : Type 0 where
    pub entries : List Entry
    pub settings : List Setting
    pub read : HasRead text entries reader
    pub are : AllZip (IsSettingOf file) entries settings
    pub all : ReportsAll rows options settings w x s
    pub fits : s.entries + length reader.rest.now < 2 ^ 63 + 2
    pub within : AreWithin s

  pub reported_start : (reader : Entries) (w : Option (List Finding)) (s : Counts) → reader.section ≡ None
      → Begins text reader.line reader.rest.now → s ≡ no_counts → IsReported reader w w s
  reported_start reader w s none begins empty =
      let bound : reader.line + length reader.rest.now < 2 ^ 63 + 2 = reader.line_fits in
      rw empty (record {
        entries = [];
        settings = [];
        read = λ left error has. file_begins reader text left error none begins has;
        are = tt;
        all = ([], receives-nil w, nothing);
        fits = omega (arith, bound);
        within = omega arith;
      })

  module _ (w x : Option (List Finding)) (s : Counts) (reader : Entries) (so_far : IsReported reader w x s) where
    -- the check ends before the next finding
    pub fails_reading : (y : Option (List Finding)) → Receives x y [] → Fails rows options file text w y
    fails_reading y none =
        stops w x y so_far.settings s (first_settings so_far.entries so_far.settings reader so_far.read so_far.are) so_far.all none

    one_read : (reader' : Entries) (entry : code.Entry) → GivesEntry reader (Some (Ok entry)) reader'
        → HasRead text (so_far.entries ++ entry_of entry ∷ []) reader'
    one_read reader' entry gives left error h =
        rw append_assoc (so_far.read (entry_of entry ∷ left) error (gives left error h))

    module _ (reader' : Entries) (entry : code.Entry) (setting : Setting)
        (gives : GivesEntry reader (Some (Ok entry)) reader')
        (is : IsSettingOf file (entry_of entry) setting) where
      -- one more setting was reported
      pub one_more : (x' : Option (List Finding)) (s' : Counts) → length reader'.rest.now < length reader.rest.now
          → Reports rows options setting s s' x x' → IsReported reader' w x' s'
      one_more x' s' shorter (said, adds, after) =
          let counts = adds_one rows options setting s s' x x' (said, adds, after) in
          let fits = so_far.fits in
          record {
            entries = so_far.entries ++ entry_of entry ∷ [];
            settings = so_far.settings ++ setting ∷ [];
            read = one_read reader' entry gives;
            are = all_zipped_more (IsSettingOf file) so_far.entries so_far.settings
                (entry_of entry) setting so_far.are is;
            all = (
              so_far.all.0 ++ said,
              receives-trans w x x' so_far.all.0 said so_far.all.1 after,
              next so_far.settings so_far.all.0 s setting said s' so_far.all.2 adds,
            );
            fits = omega (arith, shorter, counts.entries, fits);
            within = within_after s s' so_far.within counts;
          }

    -- the reader has no entries left, up to the end of the file or its error
    pub reported : (error : Option errors.FileError) → HasLeft reader [] error
        → ReportsEntries rows options file text w x s error
    reported error left = record {
      settings = so_far.settings;
      of_file = (so_far.entries, rw append-nil at (so_far.read [] error left), so_far.are);
      all = so_far.all;
    }

  module _ (settings : List Setting) (error : Option errors.FileError) (read : HasSettings file text settings error)
      (w x : Option (List Finding)) (s : Counts) (all : ReportsAll rows options settings w x s) where
    -- the error of the file was not received
    pub fails_telling : (y : Option (List Finding)) → Receives x y [] → Fails rows options file text w y
    fails_telling y none = stops w x y settings s (all_first settings error read) all none

    pub completes : (y : Option (List Finding)) (s' : Counts) → ReportsError file error s s' x y
        → Completes rows options file text w y s'
    completes y s' told = (
      all.0 ++ told.0,
      receives-trans w x y all.0 told.0 all.1 told.2,
      record {
        settings = settings;
        error = error;
        of_file = read;
        found = all.0;
        s = s;
        report = all.2;
        last = told.0;
        ends = told.1;
        parts = refl;
      },
    )

-- ---- an unknown key

module _ (rows : List Row) (options : Options) (setting : Setting) (s : Counts) where
  -- nothing is said of the key
  pub said_nothing : (reason meant : Option (List ℕ)) → IsUnknown rows setting.key.items
      → IsSaidAs rows setting.key.items reason meant → is_some reason ≡ false
      → ReportsSetting rows options setting s (findings_as s.entries setting reason meant)
      (record s { entries = s.entries + 1; unknown = s.unknown + 1 })
  said_nothing None meant is said none = unknown is said refl refl
  said_nothing (Some text) meant is said none = absurd (cc)

  -- the key is reported
  pub said_something : (reason meant : Option (List ℕ)) → IsSaidAs rows setting.key.items reason meant
      → is_some reason ≡ true
      → ReportsSetting rows options setting s (findings_as s.entries setting reason meant)
      (counted (unknown_severity setting.key.items) (record s { entries = s.entries + 1; unknown = s.unknown + 1 }))
  said_something None meant said some = absurd (cc)
  said_something (Some text) meant (key, is, texts, meants) some = misspelled key is (rw (texts, meants)) refl

-- ---- results

-- what holds whatever the error
pub on_err : {T E : Type 0} (Q : Type 0) (r : Result T E) → Q → OnErr r Q
on_err Q (Ok v) q = tt
on_err Q (Err e) q = q
