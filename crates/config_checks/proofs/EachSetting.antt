-- Each entry of a file has a setting.
use Rattle.std.proofs.Common.{◌≡◌, ℕ, ◌+◌, ◌^◌, ◌≤◌, ◌<◌, Bool, true, List, [], ◌∷◌, ◌++◌, map, length}
use Rattle.std.proofs.Common.{Option, Some, None, option_map, refl, sym, ap, subst, arith, length-append}
use Rattle.std.proofs.lemmas.Bool.Decides.{nat_tests}
use Rattle.std.proofs.lemmas.List.{length-map}
use Rattle.std.specs.Bool.{⊤}
use Rattle.std.specs.Char.{to_ascii_lowercase}
use Rattle.std.specs.Global.{Vec, Global}
use Rattle.std.specs.List.{AllByRecursion, AllZip}
use denote.RawPtr.{null_ptr}
use Rattle.config_file.specs.declared.errors.FileError.{FileError}
use Rattle.config_file.specs.Bytes.{is_plain_in_quotes}
use Rattle.config_file.specs.File as file
use Rattle.config_file.specs.File.{Entry, TakesEntry, Reads, IsFile, Begins, after_mark}
use Rattle.config_file.specs.Header as header
use Rattle.config_file.specs.Header.{Section, Header}
use Rattle.config_file.specs.Listing as listing
use Rattle.config_file.specs.Listing.{IsListed, IsListedSection}
use Rattle.config_file.specs.Settings.{IsValueOf}
use Rattle.config_file.specs.Subsection as sub
use Rattle.config_file.specs.Subsection.{SpellsSubsection}
use Rattle.config_file.specs.Value as value
use Rattle.config_file.specs.Value.{Ending, Spells, SpellsValue, TakesValue, kept}
use Rattle.config_file.specs.Views.{entry_of}
use Rattle.config_file.proofs.Bounds.{length_joined}
use Rattle.config_file.proofs.OneText.{one_text}
use Rattle.config_checks.specs.declared.mending.FileEntries.{FileEntries}
use Rattle.config_checks.specs.declared.setting.Setting.{Setting}
use Rattle.config_checks.specs.Reading.Steps.{HasEntries, AreSettings}
use Rattle.config_checks.specs.Report.{HasSettings}
use Rattle.config_checks.specs.Settings.{IsSettingOf, first_line}

-- ---- a key is listed as one text

no_backslash : (b : ℕ) → b ≡ 92 → is_plain_in_quotes b ≡ true → ⊥
no_backslash b is plain = grind (arith, nat_tests)

one_spelled : {raw s t : List ℕ} → SpellsSubsection raw s → SpellsSubsection raw t → s ≡ t
one_spelled sub.ends sub.ends = refl
one_spelled (sub.escaped {e = e} is text s) (sub.escaped also same t) = ap (λ x. e ∷ x) (one_spelled s t)
one_spelled (sub.escaped is text s) (sub.plain plain t) = absurd (no_backslash _ is plain)
one_spelled (sub.plain plain s) (sub.escaped is text t) = absurd (no_backslash _ is plain)
one_spelled (sub.plain {b = b} is s) (sub.plain also t) = ap (λ x. b ∷ x) (one_spelled s t)

one_section : {section : Section} {a b : List ℕ} → IsListedSection section a → IsListedSection section b → a ≡ b
one_section listing.plain listing.plain = refl
one_section (listing.quoted {name = name} s) (listing.quoted t) =
    ap (λ x. (map to_ascii_lowercase name ++ 46 ∷ []) ++ (x ++ 46 ∷ [])) (one_spelled s t)

one_listed : {section : Option Section} {key a b : List ℕ} → IsListed section key a → IsListed section key b → a ≡ b
one_listed listing.alone listing.alone = refl
one_listed (listing.in_section {key = key} s) (listing.in_section t) =
    ap (λ x. x ++ map to_ascii_lowercase key) (one_section s t)

-- ---- what is spelled is no longer than its bytes

subsection_fits : {raw text : List ℕ} → SpellsSubsection raw text → length text ≤ length raw
subsection_fits sub.ends = omega arith
subsection_fits (sub.escaped is text s) = let f = subsection_fits s in omega arith
subsection_fits (sub.plain is s) = let f = subsection_fits s in omega arith

kept_fits : (value held : List ℕ) → length (kept value held) ≤ length value + length held
kept_fits [] held = omega arith
kept_fits (b ∷ value) held = omega (arith, length-append (b ∷ value) held)

one_more : (value held : List ℕ) (b : ℕ) → length (kept value held ++ b ∷ []) ≤ length value + length held + 1
one_more value held b = omega (arith, kept_fits value held, length-append (kept value held) (b ∷ []))

value_fits : {w : ℕ → ℕ} {q : Bool} {v h raw text : List ℕ} {e : Ending} → Spells w q v h raw text e
    → length text ≤ length v + length h + length raw
value_fits value.ends_outside = omega arith
value_fits value.ends_inside = omega arith
value_fits (value.ends_at_backslash {value = v} {held = h} is) = omega (arith, kept_fits v h)
value_fits (value.quote {value = v} {held = h} is s) = let f = value_fits s in omega (arith, kept_fits v h)
value_fits (value.escaped {c = c} {value = v} {held = h} is letter s) =
    let f = value_fits s in omega (arith, one_more v h c)
value_fits (value.continued {value = v} {held = h} is line s) =
    let f = value_fits s in omega (arith, kept_fits v h)
value_fits (value.continued_after_return {value = v} {held = h} is return line s) =
    let f = value_fits s in omega (arith, kept_fits v h)
value_fits {w = w} (value.blank {b = b} {held = h} is s) =
    let f = value_fits s in omega (arith, length-append h (w b ∷ []))
value_fits (value.plain {b = b} {value = v} {held = h} is s) =
    let f = value_fits s in omega (arith, one_more v h b)

-- ---- the entries of a text fit it

-- each key in this section is listed with at most this many bytes more
abbrev ListsWithin : ℕ → Option Section → Type 0
ListsWithin n section =
    (key : List ℕ) → (listed : List ℕ) × IsListed section key listed × (length listed ≤ n + length key)

abbrev SpellsWithin : ℕ → Option (List ℕ) → Type 0
SpellsWithin n None = ⊤
SpellsWithin n (Some raw) = (text : List ℕ) × (ending : Ending) × SpellsValue raw text ending × (length text ≤ n)

-- key and value of the entry have at most this many bytes
record IsWithin (n : ℕ) (entry : Entry) : Type 0 where
  pub listed : (listed : List ℕ) × IsListed entry.section entry.key listed × (length listed ≤ n)
  pub spelled : SpellsWithin n entry.value

no_header : ListsWithin 0 None
no_header key = (map to_ascii_lowercase key, listing.alone, omega (arith, length-map key to_ascii_lowercase))

plain_within : (name : List ℕ) → ListsWithin (length name + 1) (Some (name, None))
plain_within name key =
    let front = map to_ascii_lowercase name in
    let last = map to_ascii_lowercase key in
    let first = length-append front (46 ∷ []) in
    let whole = length-append (front ++ 46 ∷ []) last in
    let same = length-map name to_ascii_lowercase in
    (_, listing.in_section listing.plain, omega (arith, length-map key to_ascii_lowercase))

quoted_within : (name raw spelled : List ℕ) → SpellsSubsection raw spelled
    → ListsWithin (length name + length raw + 2) (Some (name, Some raw))
quoted_within name raw spelled s key =
    let front = map to_ascii_lowercase name in
    let last = map to_ascii_lowercase key in
    let first = length-append front (46 ∷ []) in
    let second = length-append spelled (46 ∷ []) in
    let both = length-append (front ++ 46 ∷ []) (spelled ++ 46 ∷ []) in
    let whole = length-append ((front ++ 46 ∷ []) ++ (spelled ++ 46 ∷ [])) last in
    let same = length-map name to_ascii_lowercase in
    let fits = subsection_fits s in
    (_, listing.in_section (listing.quoted s), omega (arith, length-map key to_ascii_lowercase))

header_within : {text rest : List ℕ} {section : Section} → Header text section rest
    → (n : ℕ) × ListsWithin n (Some section) × (n + length rest ≤ length text)
header_within (header.plain {b = b} {text = text} {name = name} {rest = rest} run some e) =
    (length name + 1, plain_within name, omega (arith, length_joined text name (b ∷ rest) run.joined))
header_within (header.quoted {text = text} {name = name} {inner = inner} opens
    (header.closes {b = b} {raw = raw} {rest = rest} takes e)) =
    let (spelled, s) = takes.is_subsection in
    let first = length_joined text name opens.blanked opens.name_run.joined in
    let second = length_joined opens.blanked opens.blanks (opens.quote ∷ inner) opens.blank_run.joined in
    let third = length_joined inner raw (34 ∷ b ∷ rest) takes.joined in
    (length name + length raw + 2, quoted_within name raw spelled s, omega arith)

spelled_within : {text raw rest : List ℕ} {lines : ℕ} → TakesValue text raw lines rest
    → SpellsWithin (length text) (Some raw) × (length rest ≤ length text)
spelled_within (value.closed {raw = raw} {value = v} {text = text} {rest = rest} is s ends) =
    let long = length_joined text raw rest is in
    let f = value_fits s in
    ((v, value.outside, s, omega arith), omega arith)
spelled_within (value.open_end {raw = raw} {value = v} s) =
    let f = value_fits s in ((v, value.at_backslash, s, omega arith), omega arith)

more_within : (n m : ℕ) (v : Option (List ℕ)) → n ≤ m → SpellsWithin n v → SpellsWithin m v
more_within n m None le s = tt
more_within n m (Some raw) le (text, ending, s, fits) = (text, ending, s, omega arith)

entry_within : {text key rest : List ℕ} {v : Option (List ℕ)} {lines : ℕ} → TakesEntry text key v lines rest
    → (length key + length rest ≤ length text) × SpellsWithin (length text) v
entry_within (file.alone {text = text} {key = key} {rest = rest} takes end) =
    let first = length_joined text key takes.spaced takes.key_run.joined in
    let second = length_joined takes.spaced takes.spaces rest takes.space_run.joined in
    (omega arith, tt)
entry_within (file.valued {b = b} {text = text} {key = key} {after = after} {raw = raw} takes e taken) =
    let first = length_joined text key takes.spaced takes.key_run.joined in
    let second = length_joined takes.spaced takes.spaces (b ∷ after) takes.space_run.joined in
    let (spelled, less) = spelled_within taken in
    (omega arith, more_within (length after) (length text) (Some raw) (omega arith) spelled)

run_within : (text run rest : List ℕ) → text ≡ run ++ rest → length rest ≤ length text
run_within text run rest is = omega (arith, length_joined text run rest is)

all_within : {section : Option Section} {line : ℕ} {text : List ℕ} {entries : List Entry}
    {error : Option FileError} (n m : ℕ) → ListsWithin m section → m + length text ≤ n
    → Reads section line text entries error → AllByRecursion (IsWithin n) entries
all_within n m lists fits (file.blank is reads) = all_within n m lists (omega arith) reads
all_within n m lists fits (file.line_end is reads) = all_within n m lists (omega arith) reads
all_within n m lists fits (file.comment {text = text} {comment = comment} {rest = rest} is run reads) =
    all_within n m lists (omega (arith, run_within text comment rest run.joined)) reads
all_within n m lists fits (file.header is head reads) =
    let (next, more, less) = header_within head in all_within n next more (omega arith) reads
all_within n m lists fits (file.entry {b = b} {text = text} {key = key} {value = v} letter taken reads) =
    let (less, spelled) = entry_within taken in
    let (listed, is, long) = lists key in (
      record {
        listed = (listed, is, omega arith);
        spelled = more_within (length (b ∷ text)) n v (omega arith) spelled;
      },
      all_within n m lists (omega arith) reads,
    )
all_within n m lists fits reads = tt

after_mark_within : (text rest : List ℕ) → after_mark text ≡ Some rest → length rest ≤ length text
after_mark_within (a ∷ b ∷ c ∷ text) rest is = grind arith
after_mark_within text rest is = absurd (cc)

begins_within : {text rest : List ℕ} {line : ℕ} → Begins text line rest → length rest ≤ length text
begins_within (file.marked {text = text} {rest = rest} is) = after_mark_within text rest is
begins_within (file.part_of_mark is) = omega arith
begins_within (file.unmarked none part) = omega arith

-- ---- the settings

module _ (heap : Global) (name : List ℕ) (n : ℕ) (fits : n < 2 ^ 63) where
  abbrev vec_of : (items : List ℕ) → length items ≤ n → Vec ℕ
  vec_of items short = record {
    ptr = null_ptr;
    len = length items;
    cap = length items;
    alloc = heap;
    items = items;
    ok = (refl, omega arith);
    small = omega arith;
  }

  with_value : (v : Option (List ℕ)) → SpellsWithin n v
      → (text : Option (Vec ℕ)) × IsValueOf v (option_map (λ value. value.items) text)
  with_value None s = (None, refl)
  with_value (Some raw) (text, ending, s, short) =
      (Some (vec_of text short), λ other end so. ap Some (one_text s so))

  has_setting : (entry : Entry) → IsWithin n entry → (setting : Setting) × IsSettingOf name entry setting
  has_setting entry within =
      let (listed, is, short) = within.listed in
      let (text, reads) = with_value entry.value within.spelled in (
        record {
          file = record { ref_ptr = (0, 0); now = name };
          line = first_line entry;
          last = entry.line;
          key = vec_of listed short;
          value = text;
        },
        record { file = refl; line = refl; last = refl; key = λ other so. one_listed is so; value = reads },
      )

  have_each : (entries : List Entry) → AllByRecursion (IsWithin n) entries
      → (settings : List Setting) × AllZip (IsSettingOf name) entries settings
  have_each [] all = ([], tt)
  have_each (e ∷ entries) all =
      let (s, is) = has_setting e all.0 in
      let (settings, are) = have_each entries all.1 in
      (s ∷ settings, (is, are))

module _ (heap : Global) (name text : List ℕ) (read : FileEntries) (fits : length text < 2 ^ 63) where
  have_settings : (error : Option FileError) → HasEntries name text read error
      → (settings : List Setting) × AllZip (IsSettingOf name) (map entry_of read.entries.items) settings
  have_settings error (same, is) =
      have_each heap name (length text) fits (map entry_of read.entries.items)
      (all_within (length text) 0 no_header (omega (arith, begins_within is.begins)) is.reads)

  pub refused_settings : (error : Option FileError) → HasEntries name text read error
      → (settings : List Setting) × HasSettings name text settings error
  refused_settings error has =
      let (settings, are) = have_settings error has in
      (settings, (map entry_of read.entries.items, has.1, are))

  pub read_settings : HasEntries name text read None
      → (settings : List Setting) × HasSettings name text settings None × AreSettings read settings
  read_settings has =
      let (settings, are) = have_settings None has in
      let entries = map entry_of read.entries.items in
      let own = subst (λ file. AllZip (IsSettingOf file) entries settings) (sym has.0) are in
      (settings, (entries, has.1, are), (text, has.1, own))
