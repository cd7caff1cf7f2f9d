-- The settings of a command.
use Rattle.std.proofs.Common.{◌≡◌, ◌≢◌, ℕ, ◌+◌, ◌-◌, ◌*◌, ◌^◌, ◌<◌, ◌≤◌, Bool, true, false, not, List}
use Rattle.std.proofs.Common.{[], ◌∷◌, ◌++◌, Option, Some, None, take, drop, get_or, Result, Ok, Err}
use Rattle.std.proofs.Common.{MatchResult, IsTrue, ◌↔◌, length, refl, sym, ap, ◌∙◌, subst, append_assoc}
use Rattle.std.proofs.Common.{append-nil, arith, inl, inr, ◌⊎◌, ◌==◌}
use Rattle.std.specs.List.{list_all, list_any, prefix_len}
use Rattle.std.specs.Char.{is_ascii_digit, is_ascii_alphabetic, digit_value}
use Rattle.std.specs.Int.{IsInRange}
use Rattle.std.specs.Result.{IsErr, IsErrAnd}
use Rattle.std.specs.declared.alloc.AllocError.{AllocError}
use Rattle.std.specs.Str.Parse.{AllDigits, IsNumeral, digits_value}
use Rattle.std.proofs.lemmas.Str.Parse.{digit_at, digits_value-take-le}
use Rattle.std.proofs.lemmas.Int.Digits.{digits_value_more}
use Rattle.config_file.specs.declared.command.CommandError.{CommandError}
use Rattle.config_file.specs.declared.command.CommandError.TheVariants as error
use Rattle.config_file.specs.Command as command
use Rattle.std.proofs.lemmas.List.Folds.{list_any-append}
use Rattle.std.proofs.lemmas.Bool.{true≢false, and_parts, or_parts}
use Rattle.config_file.proofs.LineEnds.{all_more}
use Rattle.std.proofs.lemmas.Bool.Decides.{nat_tests}
use Rattle.config_file.specs.Bytes.{is_key_byte, is_name_byte, is_text_byte}
use Rattle.config_file.specs.Runs.{Run}
use Rattle.config_file.specs.Header.{BeginsWithout}
use Rattle.config_file.specs.Key.{Key, key, IsKey, IsAccepted, dotted, is_name}
use Rattle.config_file.specs.Spelling.{HasNoHeader, IsNoKey, LacksSpelling, IsEntry, AddsEntry}
use Rattle.config_file.specs.Reading.Spellings.{is_section, is_key, is_spellable, is_spellable_or_absent}
use Rattle.config_file.specs.Command.{goes_on, Quotes, closes, escaped, plain, TakesQuoted, opens}
use Rattle.config_file.specs.Command.{EndsParameter, AfterEquals, absent, present, TakesParameter, text_alone}
use Rattle.config_file.specs.Command.{key_and_value, Parameter, whole, pair, KeyValue, IsSetting}
use Rattle.config_file.specs.Command.{AddsSettings, Accepts, has_nul, some_has_nul, LacksParameter}
use Rattle.config_file.specs.Command.{key_value, is_no_equals, value_after, Says, cut, as_given}
use Rattle.config_file.specs.Command.{RefusesSetting, of_text, of_pair, is_c_space, IsNumber, in_64_bits}
use Rattle.config_file.specs.Command.{Counts, is_white, SettingsOf, RefusesParameters, later, RefusesFormat}
use Rattle.config_file.specs.Reading.Commands.{Lacks, GoesOn, CutsSign, minus, after_plus, empty, no_sign}
use Rattle.config_file.specs.Reading.Commands.{Limits, PushesParameter}
use Rattle.config_file.proofs.OneRun.{run_only}
use Rattle.config_file.proofs.Runs.{run_split}
use Rattle.config_file.proofs.SpelledHeaders.{header_spelled}
use Rattle.config_file.proofs.Spellings.{git_spelling}
use Rattle.config_file.proofs.Adding.{zip_append}

-- a text begins with at most one quoted text
pub quotes_only : {text q r p s : List ℕ} → Quotes text q r → Quotes text p s → (q ≡ p) × (r ≡ s)
quotes_only (closes is stop) (closes so ends) = (refl, refl)
quotes_only (closes is stop) (escaped so on more) = absurd (true≢false (sym on ∙ stop))
quotes_only (closes is stop) (plain other more) = absurd (other is)
quotes_only (escaped is on more) (closes so stop) = absurd (true≢false (sym on ∙ stop))
quotes_only (escaped {c = c} is on more) (escaped so too others) =
    let (e, f) = quotes_only more others in (ap (◌∷◌ c) e, f)
quotes_only (escaped is on more) (plain other others) = absurd (other is)
quotes_only (plain other more) (closes is stop) = absurd (other is)
quotes_only (plain other more) (escaped is on others) = absurd (other is)
quotes_only (plain {b = b} other more) (plain too others) =
    let (e, f) = quotes_only more others in (ap (◌∷◌ b) e, f)

pub quoted_only : {text q r p s : List ℕ} → TakesQuoted text q r → TakesQuoted text p s → (q ≡ p) × (r ≡ s)
quoted_only (opens is more) (opens so others) = quotes_only more others

-- what follows a piece of a quoted text
after_plain : {b : ℕ} {text q r : List ℕ} → b ≢ 39 → Quotes (b ∷ text) q r
    → (more : List ℕ) × Quotes text more r
after_plain other (closes is stop) = absurd (other is)
after_plain other (escaped is on more) = absurd (other is)
after_plain other (plain {quoted = quoted} so more) = (quoted, more)

after_escape : {a b c d : ℕ} {text q r : List ℕ} → a ≡ 39 → goes_on (b ∷ c ∷ d ∷ text) ≡ true
    → Quotes (a ∷ b ∷ c ∷ d ∷ text) q r → (more : List ℕ) × Quotes text more r
after_escape is on (closes so stop) = absurd (true≢false (sym on ∙ stop))
after_escape is on (escaped {quoted = quoted} so too more) = (quoted, more)
after_escape is on (plain other more) = absurd (other is)

none_quoted : {q r : List ℕ} → ¬ (Quotes [] q r)
none_quoted h = elim h [ ]

pub piece_plain : {text rest : List ℕ} {b : ℕ} → text ≡ b ∷ rest → b ≢ 39
    → (length rest < length text)
    × ((quoted after : List ℕ) → Quotes rest quoted after → Quotes text (b ∷ quoted) after)
    × ((quoted after : List ℕ) → Quotes text quoted after → (more : List ℕ) × Quotes rest more after)
piece_plain e other = rw e (omega arith, λ q r h. plain other h, λ q r h. after_plain other h)

pub piece_escaped : {text next rest : List ℕ} {a c : ℕ} → text ≡ a ∷ next → a ≡ 39 → GoesOn next c rest
    → (length rest < length text)
    × ((quoted after : List ℕ) → Quotes rest quoted after → Quotes text (c ∷ quoted) after)
    × ((quoted after : List ℕ) → Quotes text quoted after → (more : List ℕ) × Quotes rest more after)
piece_escaped {text = text} {rest = rest} {a = a} {c = c} e is goes =
    let whole : text ≡ a ∷ 92 ∷ c ∷ 39 ∷ rest = e ∙ ap (◌∷◌ a) goes.joined in
    let on : goes_on (92 ∷ c ∷ 39 ∷ rest) ≡ true = ap goes_on (sym goes.joined) ∙ goes.goes_on in
    rw whole (omega arith, λ q r h. escaped is on h, λ q r h. after_escape is on h)

-- what follows the longest run
pub run_after : {test : ℕ → Bool} {text rest : List ℕ} {n : ℕ} → n ≡ prefix_len test text → rest ≡ drop n text
    → (front : List ℕ) × Run test text front rest
run_after {test = test} {text = text} {n = n} e f = (take n text, rw (f, e) (run_split test text))

pub run_both : {test : ℕ → Bool} {text front rest : List ℕ} {n : ℕ} → n ≡ prefix_len test text
    → front ≡ take n text
    → rest ≡ drop n text → Run test text front rest
run_both {test = test} {text = text} e f g = rw (f, g, e) (run_split test text)

-- the settings that lines add
pub adds_none : AddsSettings [] []
adds_none text entries file ends = ([], tt, simp append-nil file, simp append-nil ends)

pub adds_both : (first second : List ℕ) (some more : List KeyValue) → AddsSettings first some
    → AddsSettings second more
    → AddsSettings (first ++ second) (some ++ more)
adds_both first second some more adds also text entries file ends =
    let (added, are, now, end) = adds text entries file ends in
    let (others, too, then, last) = also (text ++ first) (entries ++ added) now end in (
      added ++ others,
      zip_append IsSetting some more added others are too,
      rw (append_assoc text first second, append_assoc entries added others) at then,
      rw (append_assoc text first second) at last,
    )

pub adds_one : (setting : KeyValue) {k : Key} (bytes : List ℕ) {section name : List ℕ}
    {subsection : Option (List ℕ)} → IsKey setting.0 k → section ≡ k.section → subsection ≡ k.subsection
    → name ≡ k.name
    → AddsEntry bytes section subsection name setting.1 → AddsSettings bytes (setting ∷ [])
adds_one setting {k = k} bytes is e f g adds text entries file ends =
    let (entry, parts, now, end) = adds text entries file ends in
    let same : IsEntry k.section k.subsection k.name setting.1 entry.line entry = record {
      section = rw (e, f) at parts.section;
      same_key = parts.same_key ∙ g;
      spells = parts.spells;
      same_line = refl;
    } in (entry ∷ [], (record { key = k; is_key = is; is_entry = same }, tt), now, end)

-- a key that is accepted can be written, without a NUL
not_true : (a : Bool) → not a ≡ true → a ≡ false
not_true true e = absurd (true≢false (sym e))
not_true false e = refl

nul_parts : (a b : List ℕ) → has_nul (a ++ b) ≡ false → (has_nul a ≡ false) × (has_nul b ≡ false)
nul_parts a b e = or_parts (has_nul a) (has_nul b) (sym (list_any-append (λ c. c == 0) a b) ∙ e)

name_byte : (b : ℕ) → is_key_byte b ≡ true → is_name_byte b ≡ true
name_byte b is = rw is

text_bytes : (bytes : List ℕ) → not (list_any (λ b. b == 10) bytes) ≡ true → has_nul bytes ≡ false
    → list_all is_text_byte bytes ≡ true
text_bytes [] lines nul = refl
text_bytes (b ∷ bytes) lines nul =
    let (here, rest) = or_parts (b == 0) (has_nul bytes) nul in
    let (feed, others) = or_parts (b == 10) (list_any (λ c. c == 10) bytes) (not_true _ lines) in
    let more = text_bytes bytes (rw others refl) rest in rw (here, feed, more) refl

spellable : (bytes : List ℕ) → has_nul bytes ≡ false → is_spellable bytes ≡ true
spellable [] nul = refl
spellable (b ∷ bytes) nul =
    let (here, rest) = or_parts (b == 0) (has_nul bytes) nul in
    let more = spellable bytes rest in rw (here, more) refl

value_spellable : (value : Option (List ℕ)) → some_has_nul value ≡ false → is_spellable_or_absent value ≡ true
value_spellable None nul = refl
value_spellable (Some value) nul = spellable value nul

key_writable : (name : List ℕ) → is_name name ≡ true → is_key name ≡ true
key_writable [] is = is
key_writable (b ∷ name) is =
    let (letter, rest) = and_parts (is_ascii_alphabetic b) (list_all is_key_byte name) is in
    let first : is_key_byte b ≡ true = grind (arith, nat_tests) in rw (letter, first, rest) refl

section_writable : (section : List ℕ) (subsection : Option (List ℕ)) (name : List ℕ)
    → IsAccepted (key section subsection name) → has_nul (dotted subsection) ≡ false
    → is_section section subsection ≡ true
section_writable section None name is nul =
    let some = is.some_section in
    let bytes = all_more is_key_byte is_name_byte name_byte section is.section in rw (bytes, some) refl
section_writable section (Some subsection) name is nul =
    let bytes = all_more is_key_byte is_name_byte name_byte section is.section in
    let text = text_bytes subsection is.subsection nul in rw (bytes, text) refl

never_lacks : (value : Option (List ℕ)) → is_spellable_or_absent value ≡ true → ¬ (LacksSpelling value)
never_lacks None all lacks = lacks
never_lacks (Some value) all lacks = lacks _ (git_spelling value all).0

pub never_without_header : (section : List ℕ) (subsection : Option (List ℕ))
    → is_section section subsection ≡ true
    → ¬ (HasNoHeader section subsection)
never_without_header section subsection is lacks =
    let (inner, named, e, names, header) = header_spelled section subsection is in
    lacks (inner ++ []) [] named names (header [])

never_no_key : (name : List ℕ) → is_key name ≡ true → ¬ (IsNoKey name)
never_no_key [] is lacks = absurd (true≢false (sym is))
never_no_key (b ∷ name) is lacks =
    let (letter, all) = and_parts (is_ascii_alphabetic b) (list_all is_key_byte (b ∷ name)) is in
    lacks b name [] letter (record { joined = sym (append-nil (b ∷ name)); pass = all; longest = tt })

pub never_refused : {text : List ℕ} (value : Option (List ℕ)) {k : Key} {section name : List ℕ}
    {subsection : Option (List ℕ)} → IsKey text k → section ≡ k.section → subsection ≡ k.subsection
    → name ≡ k.name
    → has_nul text ≡ false → some_has_nul value ≡ false
    → ¬ (HasNoHeader section subsection ⊎ IsNoKey name ⊎ LacksSpelling value)
never_refused value {k = k} {section = section} {name = name} {subsection = sub} is e f g nul also refused =
    let (front, last) =
    nul_parts (k.section ++ dotted k.subsection) (46 ∷ k.name) (sym (ap has_nul is.cut.joined) ∙ nul) in
    let (first, middle) = nul_parts k.section (dotted k.subsection) front in
    let header : is_section section sub ≡ true =
    rw (e, f) (section_writable k.section k.subsection k.name is.accepted middle) in
    let named : is_key name ≡ true = rw g (key_writable k.name is.accepted.name) in
    elim refused [
      | inl no_header ↦ never_without_header section sub header no_header
      | inr other ↦ elim other [
        | inl no_name ↦ never_no_key name named no_name
        | inr no_spelling ↦ never_lacks value (value_spellable value also) no_spelling
      ]
    ]

-- digits
digit_is : (b : ℕ) → IsInRange 48 57 b → digit_value b ≡ b - 48
digit_is b is = grind (arith, nat_tests)

all_digits : (text : List ℕ) → list_all is_ascii_digit text ≡ true → AllDigits 10 text
all_digits [] all = tt
all_digits (b ∷ text) all =
    let (here, rest) = and_parts (is_ascii_digit b) (list_all is_ascii_digit text) all in
    (grind (arith, nat_tests), all_digits text rest)

digits_pass : (text : List ℕ) → AllDigits 10 text → list_all is_ascii_digit text ≡ true
digits_pass [] all = refl
digits_pass (b ∷ text) (here, rest) =
    let this : is_ascii_digit b ≡ true = grind (arith, nat_tests) in rw (this, digits_pass text rest) refl

pub numeral_tested : (text : List ℕ) (test : Bool) → test ≡ list_all is_ascii_digit text → 0 < length text
    → IsTrue test ↔ (IsNumeral 10 text)
numeral_tested text test e some = (λ is. (some, all_digits text (sym e ∙ is)), λ n. e ∙ digits_pass text n.1)

pub digit_low : (digits : List ℕ) (i : ℕ) → AllDigits 10 digits → i < length digits → 48 ≤ get_or digits i 0
digit_low digits i all lt = (digit_at digits i all lt).0

pub number_more : (digits : List ℕ) (i n : ℕ) → AllDigits 10 digits → i < length digits
    → n ≡ digits_value 10 (take i digits)
    → n * 10 + (get_or digits i 0 - 48) ≡ digits_value 10 (take (i + 1) digits)
number_more digits i n all lt is =
    let e = digits_value_more 10 digits i lt in
    let v = digit_is (get_or digits i 0) (digit_at digits i all lt) in omega (arith, e, v, is)

pub too_large : (digits : List ℕ) (i n : ℕ) → AllDigits 10 digits → i < length digits
    → n ≡ digits_value 10 (take i digits) → 2 ^ 64 ≤ n * 10 + (get_or digits i 0 - 48)
    → 2 ^ 64 ≤ digits_value 10 digits
too_large digits i n all lt is large =
    let e = number_more digits i n all lt is in
    let le = digits_value-take-le 10 digits (i + 1) (omega arith) in omega (arith, e, le, large)

-- the number that a text is, if it is one
sign_only : {text x y : List ℕ} {a b : Bool} → CutsSign text a x → command.Signed text b y → IsNumeral 10 y
    → (a ≡ b) × (x ≡ y)
sign_only (minus is) (command.minus so) n = (refl, refl)
sign_only (minus is) (command.after_plus so) n = absurd (omega arith)
sign_only (minus is) command.no_sign n =
    let low : digit_value 45 < 10 = subst (λ b. digit_value b < 10) is n.1.0 in absurd (omega arith)
sign_only (after_plus is) (command.minus so) n = absurd (omega arith)
sign_only (after_plus is) (command.after_plus so) n = (refl, refl)
sign_only (after_plus is) command.no_sign n =
    let low : digit_value 43 < 10 = subst (λ b. digit_value b < 10) is n.1.0 in absurd (omega arith)
sign_only empty command.no_sign n = (refl, refl)
sign_only (no_sign other others) (command.minus so) n = absurd (other so)
sign_only (no_sign other others) (command.after_plus so) n = absurd (others so)
sign_only (no_sign other others) command.no_sign n = (refl, refl)

sign_cut : {text x : List ℕ} {a : Bool} → CutsSign text a x → command.Signed text a x
sign_cut (minus is) = command.minus is
sign_cut (after_plus is) = command.after_plus is
sign_cut empty = command.no_sign
sign_cut (no_sign other others) = command.no_sign

pub number_here : {text rest digits : List ℕ} {is_negative : Bool}
    → (spaces : List ℕ) × Run is_c_space text spaces rest
    → CutsSign rest is_negative digits → IsNumeral 10 digits → IsNumber text is_negative digits
number_here {rest = rest} (spaces, run) cuts numeral =
    record { spaces = spaces; signed = rest; space_run = run; sign = sign_cut cuts; numeral = numeral }

pub no_number : {text rest digits : List ℕ} {is_negative : Bool}
    → (spaces : List ℕ) × Run is_c_space text spaces rest
    → CutsSign rest is_negative digits → ¬ (IsNumeral 10 digits)
    → (other : Bool) (others : List ℕ) → ¬ (IsNumber text other others)
no_number (spaces, run) cuts none other others number =
    let (same, e) = run_only run number.space_run in
    let (sign, f) = sign_only (rw e at cuts) number.sign number.numeral in none (rw f number.numeral)

pub counted : {text digits : List ℕ} {is_negative : Bool} {number count : ℕ} (result : Result ℕ CommandError)
    → IsNumber text is_negative digits → number ≡ digits_value 10 digits → number < 2 ^ 64
    → count ≡ in_64_bits is_negative number → Limits count result → Counts text result
counted {digits = digits} {is_negative = is_negative} (Ok given) is e small f (same, few) =
    inr (is_negative, digits, is, omega arith, same ∙ f ∙ ap (in_64_bits is_negative) e, omega arith)
counted {digits = digits} {is_negative = is_negative} (Err error.TooMany) is e small f many =
    (is_negative, digits, is, λ small. subst (λ n. 2147483647 < n) (f ∙ ap (in_64_bits is_negative) e) many)
counted (Err _) is e small f many = absurd many

-- quoted texts and parameters
closed_inner : {b : ℕ} (inner : List ℕ) → Lacks Quotes inner → (q r : List ℕ)
    → ¬ (TakesQuoted (b ∷ inner) q r)
closed_inner inner lacks q r (opens is more) = lacks q r more

pub nothing_quoted : {text q r : List ℕ} → text ≡ [] → ¬ (Quotes text q r)
nothing_quoted e h = none_quoted (rw e at h)

pub not_opened : (text inner : List ℕ) → text ≡ 39 ∷ inner → Lacks Quotes inner → Lacks TakesQuoted text
not_opened text inner e lacks q r takes =
    closed_inner inner lacks q r (rw e at takes)

pub no_value : {text value rest : List ℕ} → TakesQuoted text value rest → ¬ (EndsParameter text)
    → ¬ (EndsParameter rest)
    → Lacks AfterEquals text
no_value taken going other _ _ (absent ends) = going ends
no_value taken going other _ _ (present also ends) =
    let (e, f) = quoted_only taken also in other (subst EndsParameter (sym f) ends)

pub no_parameter : {text key rest : List ℕ} → TakesQuoted text key rest → ¬ (EndsParameter rest)
    → ((b : ℕ) (after next : List ℕ) (value : Option (List ℕ)) → rest ≡ b ∷ after → b ≡ 61 → ¬ (AfterEquals after value next))
    → LacksParameter text
no_parameter taken going lacks _ _ (text_alone also ends) =
    let (e, f) = quoted_only taken also in going (subst EndsParameter (sym f) ends)
no_parameter taken going lacks _ _ (key_and_value also is follows) =
    let (e, f) = quoted_only taken also in lacks _ _ _ _ f is follows

pub no_equals : (rest : List ℕ) → BeginsWithout 61 rest
    → (b : ℕ) (after next : List ℕ) (value : Option (List ℕ)) → rest ≡ b ∷ after → b ≡ 61
    → ¬ (AfterEquals after value next)
no_equals rest other b after next value e is follows = subst (λ r. BeginsWithout 61 r) e other is

pub no_value_after : (rest here : List ℕ) → rest ≡ 61 ∷ here → Lacks AfterEquals here
    → (b : ℕ) (after next : List ℕ) (value : Option (List ℕ)) → rest ≡ b ∷ after → b ≡ 61
    → ¬ (AfterEquals after value next)
no_value_after rest here e lacks b after next value f is follows =
    let same : after ≡ here = cc in lacks value next (rw same at follows)

-- what a parameter appends
pub pair_pushed : (key old new : List ℕ) (value : Option (List ℕ)) (result : Result (Unit {0}) CommandError)
    → MatchResult result
    (λ _. Accepts (key_value key value) × ((line : List ℕ) × AddsSettings line (key_value key value ∷ []) × (new ≡ old ++ line)))
    (λ error. RefusesSetting (key_value key value) error × (new ≡ old))
    → PushesParameter (pair key value) old new result
pair_pushed key old new value (Ok done) (accepts, (line, adds, e)) =
    (key_value key value, as_given, accepts, (line, adds, e))
pair_pushed key old new value (Err error) (refuses, same) = of_pair refuses

pub whole_pushed : {text key rest : List ℕ} (old new : List ℕ) (value : Option (List ℕ))
    (result : Result (Unit {0}) CommandError) → Run is_no_equals text key rest → value ≡ value_after rest
    → key ≢ []
    → MatchResult result
    (λ _. Accepts (key_value key value) × ((line : List ℕ) × AddsSettings line (key_value key value ∷ []) × (new ≡ old ++ line)))
    (λ error. RefusesSetting (key_value key value) error × (new ≡ old))
    → PushesParameter (whole text) old new result
whole_pushed {key = key} old new value (Ok done) run is some (accepts, (line, adds, e)) =
    (key_value key value, rw is (cut run), accepts, (line, adds, e))
whole_pushed old new value (Err error) run is some (refuses, same) =
    of_text run some (rw is at refuses)

pub keyless : {text key rest bytes : List ℕ} → Run is_no_equals bytes key rest → key ≡ [] → bytes ≡ text
    → Run is_no_equals text [] rest
keyless run e f =
    rw (e, f) at run

-- each parameter shortens what is left
quotes_shorten : {text q r : List ℕ} → Quotes text q r → length r < length text
quotes_shorten (closes is stop) = omega arith
quotes_shorten (escaped is on more) = let le = quotes_shorten more in omega (arith, le)
quotes_shorten (plain other more) = let le = quotes_shorten more in omega (arith, le)

quoted_shortens : {text q r : List ℕ} → TakesQuoted text q r → length r < length text
quoted_shortens (opens is more) = let le = quotes_shorten more in omega (arith, le)

value_shortens : {text rest : List ℕ} {value : Option (List ℕ)} → AfterEquals text value rest
    → length rest ≤ length text
value_shortens (absent ends) = omega arith
value_shortens (present takes ends) = let le = quoted_shortens takes in omega (arith, le)

pub parameter_shortens : {text rest : List ℕ} {parameter : Parameter} → TakesParameter text parameter rest
    → length rest < length text
parameter_shortens (text_alone takes ends) = quoted_shortens takes
parameter_shortens (key_and_value takes is follows) =
    let first = quoted_shortens takes in
    let second = value_shortens follows in omega (arith, first, second)

-- a parameter and what follows it
module _
    (text : List ℕ) {at rest white next : List ℕ} {parameter : Parameter}
    (takes : TakesParameter at parameter rest) (run : Run is_white rest white next) where
  pub settings_next : (lines new : List ℕ)
      → (settings : List KeyValue) × AddsSettings lines settings
      × ((more : List KeyValue) → SettingsOf at more → SettingsOf text (settings ++ more))
      → (setting : KeyValue) × Says parameter setting × Accepts setting
      × ((line : List ℕ) × AddsSettings line (setting ∷ []) × (new ≡ lines ++ line))
      → (settings : List KeyValue) × AddsSettings new settings
      × ((more : List KeyValue) → SettingsOf next more → SettingsOf text (settings ++ more))
  settings_next lines new (settings, adds, spells) (setting, says, accepts, (line, also, e)) = (
    settings ++ setting ∷ [],
    rw e (adds_both lines line settings (setting ∷ []) adds also),
    λ others h. rw append_assoc (spells (setting ∷ others) (command.more takes says run h)),
  )

  pub refused_later : (old new : List ℕ)
      → ((error : CommandError) → RefusesParameters at error → RefusesParameters text error)
      → PushesParameter parameter old new (Ok tt)
      → (error : CommandError) → RefusesParameters next error → RefusesParameters text error
  refused_later old new refused (setting, says, accepts, adds) error h =
      refused error (later takes says accepts run h)

pub all_settings : (text at lines : List ℕ) → at ≡ []
    → (settings : List KeyValue) × AddsSettings lines settings
    × ((more : List KeyValue) → SettingsOf at more → SettingsOf text (settings ++ more))
    → (settings : List KeyValue) × SettingsOf text settings × AddsSettings lines settings
all_settings text at lines e (settings, adds, spells) =
    (settings, rw append-nil at (spells [] (rw e command.none)), adds)

-- tests of lengths
pub some_left : (bytes : List ℕ) → 0 < length bytes → bytes ≢ []
some_left [] some none = absurd (omega (arith, some))
some_left (b ∷ bytes) some none = cc

-- errors that a `?` passes on
pub passed_on : {T E : Type 0} {R : E → Type 0} (P : T → Type 0) (Q : E → Type 0) (result : Result T E)
    → IsErr result × IsErrAnd result R → ((error : E) → R error → Q error) → MatchResult result P Q
passed_on P Q (Ok x) h each = absurd (true≢false (sym h.0))
passed_on P Q (Err e) h each = each e h.1

pub memory_of_setting : (setting : KeyValue) (refusal : CommandError) (refused : AllocError)
    → refusal ≡ error.Memory refused
    → RefusesSetting setting refusal
memory_of_setting setting refusal refused is = rw is tt

pub memory_of_format : (text : List ℕ) (refusal : CommandError) (refused : AllocError)
    → refusal ≡ error.Memory refused
    → RefusesFormat text refusal
memory_of_format text refusal refused is = rw is tt
