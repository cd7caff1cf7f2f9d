-- A file has one report.
use Rattle.std.proofs.Common.{arith, ◌≡◌, ◌+◌, ℕ, List, [], ◌∷◌, ◌++◌, map}
use Rattle.std.proofs.Common.{Option, None, Some, option_map, refl, sym, ap, subst, ◌∙◌, append_assoc, append-nil}
use Rattle.std.proofs.lemmas.List.{map-append}
use Rattle.std.specs.Bool.{⊤}
use Rattle.std.specs.Char.{to_ascii_lowercase}
use Rattle.std.specs.List.{AllByRecursion, AllZip}
use Rattle.config_file.specs.declared.errors.FileError as errors
use Rattle.config_file.specs.Header as header
use Rattle.config_file.specs.Header.{Section, Header}
use Rattle.config_file.specs.Value as value
use Rattle.config_file.specs.Value.{Ending, outside, at_backslash, SpellsValue}
use Rattle.config_file.specs.Key.{Key, written}
use Rattle.config_file.specs.KeyView.{key_of}
use Rattle.config_text.specs.declared.errors.Fault as faults
use Rattle.config_file.specs.Listing as listing
use Rattle.config_file.specs.Listing.{IsListed}
use Rattle.config_file.specs.File as file
use Rattle.config_file.specs.File.{Entry, TakesEntry, Reads, IsFile}
use Rattle.config_file.proofs.OneReading.{one_reading}
use Rattle.config_checks.specs.declared.options.Options.{Options}
use Rattle.config_checks.specs.declared.code.Code.{Code}
use Rattle.config_checks.specs.declared.code.Code.TheVariants as kind
use Rattle.config_checks.specs.declared.row.Row.{Row}
use Rattle.config_checks.specs.declared.setting.Setting.{Setting}
use Rattle.config_checks.specs.declared.reason.Reason.{Reason}
use Rattle.config_checks.specs.declared.reason.Reason.TheVariants.{NotCanonical, NoWord}
use Rattle.config_checks.specs.declared.reason.Severity.{Severity}
use Rattle.config_checks.specs.declared.check.Counts.{Counts}
use Rattle.config_checks.specs.declared.suggestion.UnknownKey.{UnknownKey}
use Rattle.config_checks.specs.Rows.{Decides, IsUnknown}
use Rattle.config_file.specs.Settings.{IsValueOf}
use Rattle.config_checks.specs.Settings.{IsSettingOf, value_of}
use Rattle.config_checks.specs.Suggestions.{IsPassed, IsUnknownKey, unknown_severity, suggestion_text, nearest_of}
use Rattle.config_checks.specs.Reasons.{HasFinding, IsSameFinding, severity_of}
use Rattle.config_checks.specs.Codes.{code_of}
use Rattle.config_checks.specs.Findings.{Finding, reason_text}
use Rattle.config_checks.specs.Report.{value_meant, instead_of, fault_of, counted, no_counts}
use Rattle.config_checks.specs.Report.{ReportsSetting, unknown, misspelled, right, found}
use Rattle.config_checks.specs.Report.{Report, nothing, next, EndsReport, HasSettings, IsReport, BeginsReport}
use Rattle.config_checks.proofs.OneFinding.{finding_once}
use Rattle.config_checks.proofs.OneKey.{known_once, row_once}
use Rattle.config_checks.proofs.OneSuggestion.{nearest_same, not_passed}

-- ---- the settings of a file

-- each entry of a file has a key as Git lists it, and a text if it has a value
abbrev HasListed : Option Section → Type 0
HasListed section = (key : List ℕ) → (listed : List ℕ) × IsListed section key listed

abbrev HasText : Option (List ℕ) → Type 0
HasText None = ⊤
HasText (Some raw) = (text : List ℕ) × (ending : Ending) × SpellsValue raw text ending

abbrev IsClear : Entry → Type 0
IsClear entry = ((listed : List ℕ) × IsListed entry.section entry.key listed) × HasText entry.value

no_section : (key : List ℕ) → (listed : List ℕ) × IsListed None key listed
no_section key = (map to_ascii_lowercase key, listing.alone)

header_listed : {text rest : List ℕ} {next : Section} → Header text next rest → (key : List ℕ)
    → (listed : List ℕ) × IsListed (Some next) key listed
header_listed (header.plain run some is) key = (_, listing.in_section listing.plain)
header_listed (header.quoted opens (header.closes taken is)) key =
    let (text, spells) = taken.is_subsection in (_, listing.in_section (listing.quoted spells))

entry_text : {text key rest : List ℕ} {raw : Option (List ℕ)} {lines : ℕ} → TakesEntry text key raw lines rest
    → HasText raw
entry_text (file.alone taken end) = tt
entry_text (file.valued taken is (value.closed {value = text} joined spells ends)) = (text, outside, spells)
entry_text (file.valued taken is (value.open_end {value = text} spells)) = (text, at_backslash, spells)

all_clear : {section : Option Section} {line : ℕ} {text : List ℕ} {entries : List Entry}
    {error : Option errors.FileError}
    → HasListed section → Reads section line text entries error → AllByRecursion IsClear entries
all_clear listed (file.blank is reads) = all_clear listed reads
all_clear listed (file.line_end is reads) = all_clear listed reads
all_clear listed (file.comment is run reads) = all_clear listed reads
all_clear listed (file.header is taken reads) = all_clear (header_listed taken) reads
all_clear listed (file.entry {key = key} is taken reads) = ((listed key, entry_text taken), all_clear listed reads)
all_clear listed reads = tt

-- what a report uses of a setting: its file, line, key and value
abbrev Facts : Type 0
Facts = List ℕ × ℕ × List ℕ × Option (List ℕ)

abbrev facts : Setting → Facts
facts setting = (setting.file.now, setting.line, setting.key.items, value_of setting)

value_once : (raw a b : Option (List ℕ)) → HasText raw → IsValueOf raw a → IsValueOf raw b → a ≡ b
value_once raw a b has p q = grind arith

facts_once : (name : List ℕ) (entry : Entry) (a b : Setting) → IsClear entry → IsSettingOf name entry a
    → IsSettingOf name entry b → facts a ≡ facts b
facts_once name entry a b clear p q = grind (arith, value_once)

-- the settings begin with the first ones, and one follows for each entry that is left
begin_once : (name : List ℕ) (before after : List Entry) (first all : List Setting)
    → AllByRecursion IsClear (before ++ after)
    → AllZip (IsSettingOf name) before first → AllZip (IsSettingOf name) (before ++ after) all
    → (others : List Facts) × (map facts all ≡ map facts first ++ others) × (after ≡ [] → others ≡ [])
begin_once name [] [] [] [] clear p q = ([], refl, λ none. refl)
begin_once name [] (e ∷ after) [] all clear p q = (map facts all, refl, λ none. absurd (cc))
begin_once name (e ∷ before) after (x ∷ first) (y ∷ all) clear p q =
    let one = facts_once name e y x clear.0 q.0 p.0 in
    let (others, parts, none) = begin_once name before after first all clear.1 p.1 q.1 in
    (others, (λ i. one i ∷ parts i), none)
begin_once name before after first all clear p q = absurd (search)

-- ---- the report

-- the finding about a setting with these facts
abbrev found_for : ℕ → Facts → Code → Option Key → Severity → List ℕ → Option faults.Fault → Option (List ℕ)
    → Option (List ℕ) → Finding
found_for before f code row severity text fault meant value = record {
  file = f.0;
  line = f.1;
  entry = Some before;
  code = code;
  severity = severity;
  key = Some f.2;
  row = row;
  value = f.3;
  reason = text;
  fault = fault;
  suggested_key = meant;
  suggested_value = value;
}

abbrev counted_unknown : Counts → Counts
counted_unknown s = record s { entries = s.entries + 1; unknown = s.unknown + 1 }

-- what is said of a setting with these facts, for which this key is suggested, and the counts after it
abbrev by_key : Counts → Facts → Option Key → List Finding × Counts
by_key s f key = (
  found_for s.entries (f.0, f.1, f.2, None) kind.UnknownKey None (unknown_severity f.2) (suggestion_text key) None
      (option_map written key) None ∷ [],
  counted (unknown_severity f.2) (counted_unknown s),
)

-- what is said of a setting with these facts, for a reason, and the counts after it
abbrev by_reason : Counts → Facts → Row → Option Reason → List Finding × Counts
by_reason s f row None = ([], record s { entries = s.entries + 1 })
by_reason s f row (Some r) = (
  found_for s.entries f (code_of r) (Some (key_of row.key)) (severity_of row.goes_on r) (reason_text r)
      (fault_of r) (instead_of r)
      (value_meant r) ∷ [],
  counted (severity_of row.goes_on r) (record s { entries = s.entries + 1 }),
)

same_reason : (s : Counts) (f : Facts) (row : Row) (a b : Option Reason) → IsSameFinding a b
    → by_reason s f row a ≡ by_reason s f row b
same_reason s f row (Some (NotCanonical c)) (Some (NotCanonical d)) same = rw same
same_reason s f row (Some (NoWord l v)) (Some (NoWord m w)) same = rw (same.0, same.1)
same_reason s f row a b same = ap (by_reason s f row) same

module _ (rows : List Row) (options : Options) where
  -- what is said of a setting with these facts, and the counts before and after it
  data Tells (f : Facts) (s : Counts) (r : List Finding × Counts) : Type 0 where
    passed : IsUnknown rows f.2 → IsPassed rows f.2 → r ≡ ([], counted_unknown s) → Tells f s r
    near : (key : UnknownKey) → IsUnknownKey rows f.2 key → r ≡ by_key s f (nearest_of key) → Tells f s r
    known : (row : Row) (reason : Option Reason) → Decides rows f.2 row → HasFinding options row f.3 reason
        → r ≡ by_reason s f row reason → Tells f s r

  tells : {setting : Setting} {s t : Counts} {said : List Finding} → ReportsSetting rows options setting s said t
      → Tells (facts setting) s (said, t)
  tells (unknown u none said is) = passed u none (λ i. (said i, is i))
  tells (misspelled key is_key said is) = near key is_key (λ i. (said i, is i))
  tells (right row decides good said is) = known row None decides good (λ i. (said i, is i))
  tells (found row reason decides bad said is) = known row (Some reason) decides bad (λ i. (said i, is i))

  told_once : (f : Facts) (s : Counts) (x y : List Finding × Counts) → Tells f s x → Tells f s y → x ≡ y
  told_once f s x y (passed u none is) (passed u' none' is') = is ∙ sym is'
  told_once f s x y (passed u none is) (near key is_key is') = absurd (not_passed rows f.2 key is_key none)
  told_once f s x y (passed u none is) (known row r decides finds is') = absurd (known_once rows f.2 row decides u)
  told_once f s x y (near key is_key is) (passed u none is') = absurd (not_passed rows f.2 key is_key none)
  told_once f s x y (near key is_key is) (near key' is_key' is') =
      is ∙ ap (by_key s f) (nearest_same rows f.2 key key' is_key is_key') ∙ sym is'
  told_once f s x y (near key is_key is) (known row r decides finds is') =
      absurd (known_once rows f.2 row decides is_key.unknown)
  told_once f s x y (known row r decides finds is) (passed u none is') = absurd (known_once rows f.2 row decides u)
  told_once f s x y (known row r decides finds is) (near key is_key is') =
      absurd (known_once rows f.2 row decides is_key.unknown)
  told_once f s x y (known row r decides finds is) (known row' r' decides' finds' is') =
      let same = row_once rows f.2 row' row decides' decides in
      is ∙ same_reason s f row r r' (finding_once options row f.3 r r' finds (rw same at finds'))
      ∙ sym (rw same at is')

  -- what is said of settings with these facts, and the counts before and after them
  abbrev TellsAll : Counts → List Facts → List Finding → Counts → Type 0
  TellsAll s [] o t = (o ≡ []) × (t ≡ s)
  TellsAll s (f ∷ fs) o t = (said : List Finding) × (u : Counts) × (rest : List Finding)
      × Tells f s (said, u) × TellsAll u fs rest t × (o ≡ said ++ rest)

  tells_more : (s : Counts) (fs : List Facts) (f : Facts) (o said : List Finding) (t u : Counts) → TellsAll s fs o t
      → Tells f t (said, u) → TellsAll s (fs ++ f ∷ []) (o ++ said) u
  tells_more s [] f o said t u (none, is) last =
      (said, u, [], rw is at last, (refl, refl), rw (none, append-nil))
  tells_more s (g ∷ fs) f o said t u (first, v, rest, one, others, parts) last = (
    first,
    v,
    rest ++ said,
    one,
    tells_more v fs f rest said t u others last,
    rw parts (append_assoc first rest said),
  )

  tells_all : {settings : List Setting} {o : List Finding} {s : Counts} → Report rows options settings o s
      → TellsAll no_counts (map facts settings) o s
  tells_all nothing = (refl, refl)
  tells_all (next settings o s setting said s' before adds) =
      rw map-append (tells_more no_counts (map facts settings) (facts setting) o said s s' (tells_all before)
      (tells adds))

  -- what is said of the first settings is a prefix of what is said of all settings
  first_told : (s : Counts) (first others : List Facts) (p o : List Finding) (t u : Counts) → TellsAll s first p t
      → TellsAll s (first ++ others) o u → (rest : List Finding) × (o ≡ p ++ rest)
      × (others ≡ [] → (rest ≡ []) × (u ≡ t))
  first_told s [] [] p o t u (none, is) (none', is') = ([], rw (none, none'), λ whole. (refl, is' ∙ sym is))
  first_told s [] (f ∷ others) p o t u (none, is) all = (o, rw none, λ whole. absurd (cc))
  first_told s (f ∷ first) others p o t u (said, v, rest, one, more, parts) (
    said',
    v',
    rest',
    one',
    more',
    parts',
  ) =
      let same = told_once f s (said', v') (said, v) one' one in
      let (behind, is, whole) = first_told v first others rest rest' t u more
      (subst (λ c. TellsAll c (first ++ others) rest' u) (ap (λ r. r.1) same) more') in
      (behind, rw parts (parts' ∙ (λ i. (same i).0 ++ is i) ∙ sym (append_assoc said rest behind)), whole)

  both_told : (name text : List ℕ) (before after : List Entry) (e f : Option errors.FileError)
      (first all : List Setting)
      (p o : List Finding) (s t : Counts) → IsFile text (before ++ after) e → AllZip (IsSettingOf name) before first
      → HasSettings name text all f → Report rows options first p s → Report rows options all o t
      → (rest : List Finding) × (o ≡ p ++ rest) × (after ≡ [] → (rest ≡ []) × (t ≡ s)) × (f ≡ e)
  both_told name text before after e f first all p o s t is are (entries, is', are') report report' =
      let read = one_reading text entries (before ++ after) f e is' is in
      let (others, parts, none) = begin_once name before after first all (all_clear no_section is.reads) are (rw read.0 at are') in
      let (rest, whole, same) = first_told no_counts (map facts first) others p o s t (tells_all report)
      (rw parts at (tells_all report')) in
      (rest, whole, (λ empty. same (none empty)), read.1)

  ends_once : (name : List ℕ) (error : Option errors.FileError) (s t t' : Counts) (last last' : List Finding)
      → EndsReport name error s last t → EndsReport name error s last' t' → (last ≡ last') × (t ≡ t')
  ends_once name error s t t' last last' p q = grind arith

  pub report_once : (name text : List ℕ) (a b : List Finding) (s t : Counts) → IsReport rows options name text a s
      → IsReport rows options name text b t → (a ≡ b) × (s ≡ t)
  report_once name text a b s t p q =
      let (entries, is, are) = p.of_file in
      let is' : IsFile text (entries ++ []) p.error = rw append-nil is in
      let (rest, parts, whole, same) = both_told name text entries [] p.error q.error p.settings q.settings p.found q.found p.s q.s
      is' are q.of_file p.report q.report in
      let (none, counts) = whole refl in
      let ends = ends_once name p.error p.s s t p.last q.last p.ends (rw (same, counts) at q.ends) in
      (rw (p.parts, q.parts, parts, none, append-nil) (ap (λ l. p.found ++ l) ends.0), ends.1)

  -- what was found before an error are the first findings of the report
  pub report_begins : (name text : List ℕ) (a b : List Finding) (s : Counts) → BeginsReport rows options name text a
      → IsReport rows options name text b s → (more : List Finding) × (b ≡ a ++ more)
  report_begins name text a b s p q =
      let first = p.of_file in
      let (rest, parts, _, _) = both_told name text first.before first.after first.error q.error p.first q.settings a q.found p.s q.s
      first.is_file first.are q.of_file p.report q.report in
      (rest ++ q.last, q.parts ∙ ap (λ l. l ++ q.last) parts ∙ append_assoc a rest q.last)
