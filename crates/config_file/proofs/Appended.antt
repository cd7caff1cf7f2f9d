-- A configuration file, and a line that is appended to it.
use Rattle.std.proofs.Common.{◌≡◌, ◌≢◌, ℕ, ◌+◌, Bool, true, List, [], ◌∷◌, ◌++◌, Option, None, refl, sym, ap}
use Rattle.std.proofs.Common.{◌∙◌, subst, append_assoc, append-nil, arith, inl, inr}
use Rattle.std.specs.List.{list_all}
use Rattle.std.proofs.lemmas.List.Folds.{list_all-append}
use Rattle.std.proofs.lemmas.Bool.Decides.{nat_tests}
use Rattle.config_file.specs.Bytes.{is_comment_byte, is_comment_sign, is_name_byte, is_blank, is_key_byte}
use Rattle.config_file.specs.Bytes.{is_space, IsAtLineEnd}
use Rattle.config_file.specs.Runs.{Run, StopsRun}
use Rattle.config_file.specs.Subsection as sub
use Rattle.config_file.specs.Subsection.{SpellsSubsection}
use Rattle.config_file.specs.Header.{Section, Header, BeginsWithout, plain, quoted, closes}
use Rattle.config_file.specs.Value.{TakesValue, closed, open_end, EndsValue, line_feeds}
use Rattle.config_file.specs.File as file
use Rattle.config_file.specs.File.{Entry, TakesKey, TakesEntry, alone, valued, Reads}
use Rattle.config_file.specs.Spelling.{HasLineEnd, EndsLine}
use Rattle.config_file.proofs.LineEnds.{line_feeds_append, line_feeds_more, line_feeds_after, all_more}
use Rattle.config_file.proofs.LineEnds.{not_none, rest_none, tail_or_last, after_front, ends_at_byte}
use Rattle.config_file.proofs.LineEnds.{ends_line, has_end, no_line_end, value_has_no_end}

-- names, blanks and keys have no LF
name_other : (b : ℕ) → is_name_byte b ≡ true → is_comment_byte b ≡ true
name_other b is = grind (arith, nat_tests)

blank_other : (b : ℕ) → is_blank b ≡ true → is_comment_byte b ≡ true
blank_other b is = grind (arith, nat_tests)

subsection_other : {raw text : List ℕ} → SpellsSubsection raw text → list_all is_comment_byte raw ≡ true
subsection_other sub.ends = refl
subsection_other (sub.escaped {e = e} b t s) =
    let other : is_comment_byte e ≡ true = grind (arith, nat_tests) in rw (b, other, subsection_other s)
subsection_other (sub.plain {b = b} p s) =
    let other : is_comment_byte b ≡ true = grind (arith, nat_tests) in rw (other, subsection_other s)

pub both_other : (front rest : List ℕ) → list_all is_comment_byte front ≡ true
    → list_all is_comment_byte rest ≡ true → list_all is_comment_byte (front ++ rest) ≡ true
both_other front rest all others = rw (list_all-append is_comment_byte front rest, all, others)

-- runs
stops_more : (test : ℕ → Bool) (rest more : List ℕ) → rest ≢ [] → StopsRun test rest
    → StopsRun test (rest ++ more)
stops_more test [] more some stops = absurd (some refl)
stops_more test (b ∷ rest) more some stops = stops

run_more : {test : ℕ → Bool} {text run : List ℕ} (rest more : List ℕ) → rest ≢ [] → Run test text run rest
    → Run test (text ++ more) run (rest ++ more)
run_more {test = test} {run = run} rest more some h =
    record { joined = rw h.joined (append_assoc run rest more); pass = h.pass; longest = stops_more test rest more some h.longest }

-- headers
header_more : {text rest : List ℕ} {section : Section} (more : List ℕ) → Header text section rest
    → Header (text ++ more) section (rest ++ more)
header_more more (plain {b = b} {rest = rest} run some e) =
    plain (run_more (b ∷ rest) more (λ no. cc) run) some e
header_more more (quoted {inner = inner} opens (closes {b = b} {raw = raw} {rest = rest} takes e)) =
    let some : opens.blanked ≢ [] =
    λ none. not_none opens.blanks inner opens.quote (sym opens.blank_run.joined ∙ none) in
    quoted
    (record {
      blanks = opens.blanks;
      blanked = opens.blanked ++ more;
      quote = opens.quote;
      name_run = run_more opens.blanked more some opens.name_run;
      blank_run = run_more (opens.quote ∷ inner) more (λ no. cc) opens.blank_run;
      some_blank = opens.some_blank;
      is_quote = opens.is_quote;
    })
    (closes (record { is_subsection = takes.is_subsection; joined = rw takes.joined (append_assoc raw (34 ∷ b ∷ rest) more) }) e)

-- a header is bytes without an LF, followed by a bracket
header_bytes : {text rest : List ℕ} {section : Section} → Header text section rest
    → (front : List ℕ) × (text ≡ front ++ 93 ∷ rest) × (list_all is_comment_byte front ≡ true)
header_bytes (plain {b = b} {name = name} {rest = rest} run some e) =
    (name, run.joined ∙ ap (λ c. name ++ c ∷ rest) e, all_more is_name_byte is_comment_byte name_other name run.pass)
header_bytes (quoted {name = name} {inner = inner} opens (closes {b = b} {raw = raw} {rest = rest} takes e)) =
    let (text, spells) = takes.is_subsection in
    let names = all_more is_name_byte is_comment_byte name_other name opens.name_run.pass in
    let blanks = all_more is_blank is_comment_byte blank_other opens.blanks opens.blank_run.pass in
    let raws = both_other raw (34 ∷ []) (subsection_other spells) refl in
    let within = opens.quote ∷ (raw ++ 34 ∷ []) in
    let first : list_all is_comment_byte within ≡ true = rw opens.is_quote raws in
    let joined : inner ≡ (raw ++ 34 ∷ []) ++ 93 ∷ rest =
    takes.joined ∙ ap (λ c. raw ++ 34 ∷ c ∷ rest) e ∙ sym (append_assoc raw (34 ∷ []) (93 ∷ rest)) in (
      name ++ (opens.blanks ++ within),
      opens.name_run.joined ∙ rw (opens.blank_run.joined, joined, append_assoc name (opens.blanks ++ within) (93 ∷ rest), append_assoc opens.blanks within (93 ∷ rest)),
      both_other name (opens.blanks ++ within) names (both_other opens.blanks within blanks first),
    )

-- keys
key_bytes : {text key : List ℕ} (rest : List ℕ) → (takes : TakesKey text key rest)
    → (text ≡ (key ++ takes.spaces) ++ rest) × (list_all is_comment_byte (key ++ takes.spaces) ≡ true)
key_bytes {key = key} rest takes = (
  takes.key_run.joined ∙ rw takes.space_run.joined (sym (append_assoc key takes.spaces rest)),
  both_other key takes.spaces
      (all_more is_key_byte is_comment_byte (λ b is. grind (arith, nat_tests)) key takes.key_run.pass)
      (all_more is_space is_comment_byte (λ b e. grind (arith, nat_tests)) takes.spaces takes.space_run.pass),
)

key_more : {text key : List ℕ} (rest more : List ℕ) → rest ≢ [] → TakesKey text key rest
    → TakesKey (text ++ more) key (rest ++ more)
key_more rest more some takes =
    let some_spaced : takes.spaced ≢ [] =
    λ none. some (rest_none takes.spaces rest (sym takes.space_run.joined ∙ none)) in
    record {
      spaced = takes.spaced ++ more;
      spaces = takes.spaces;
      key_run = run_more takes.spaced more some_spaced takes.key_run;
      space_run = run_more rest more some takes.space_run;
    }

-- values
ends_value_more : (rest more : List ℕ) → rest ≢ [] → EndsValue rest → EndsValue (rest ++ more)
ends_value_more [] more some ends = absurd (some refl)
ends_value_more (b ∷ rest) more some ends = ends

value_some : {after raw rest : List ℕ} {lines : ℕ} → HasLineEnd after → TakesValue after raw lines rest
    → rest ≢ []
value_some h (closed {raw = raw} joined spells ends) none =
    value_has_no_end spells (subst HasLineEnd (joined ∙ ap (λ r. raw ++ r) none ∙ append-nil raw) h)
value_some h (open_end spells) none = value_has_no_end spells h

value_more : {after raw rest : List ℕ} {lines : ℕ} (more : List ℕ) → HasLineEnd after
    → TakesValue after raw lines rest → TakesValue (after ++ more) raw lines (rest ++ more)
value_more more h (closed {raw = raw} {rest = rest} joined spells ends) =
    let some = value_some h (closed joined spells ends) in
    closed (rw joined (append_assoc raw rest more)) spells (ends_value_more rest more some ends)
value_more more h (open_end spells) = absurd (value_has_no_end spells h)

ends_after : {text : List ℕ} (front rest : List ℕ) → BeginsWithout 92 rest → text ≡ front ++ rest
    → HasLineEnd text → EndsLine rest
ends_after front [] other joined h = inl refl
ends_after front (b ∷ rest) other joined h = inr (ends_at_byte front b rest other joined h)

value_end_other : (rest : List ℕ) → EndsValue rest → BeginsWithout 92 rest
value_end_other [] ends = tt
value_end_other (b ∷ rest) (inl is) = λ e. omega arith
value_end_other (b ∷ rest) (inr is) = λ e. grind (arith, nat_tests)

line_end_other : (rest : List ℕ) → IsAtLineEnd rest → BeginsWithout 92 rest
line_end_other [] end = tt
line_end_other (a ∷ []) end = λ e. omega arith
line_end_other (a ∷ b ∷ rest) (inl is) = λ e. omega arith
line_end_other (a ∷ b ∷ rest) (inr (is, next)) = λ e. omega arith

comment_end_other : (rest : List ℕ) → StopsRun is_comment_byte rest → BeginsWithout 92 rest
comment_end_other [] stops = tt
comment_end_other (b ∷ rest) stops = λ e. grind (arith, nat_tests)

value_lines : {after raw rest : List ℕ} {lines : ℕ} → HasLineEnd after → TakesValue after raw lines rest
    → (line_feeds after ≡ lines + line_feeds rest) × EndsLine rest
value_lines h (closed {raw = raw} {rest = rest} joined spells ends) =
    let ends_rest = ends_after raw rest (value_end_other rest ends) joined h in
    (ap line_feeds joined ∙ line_feeds_append raw rest, ends_rest)
value_lines h (open_end spells) = absurd (value_has_no_end spells h)

-- if the text has a line end over which it is not continued, so has what follows the `=`
after_equals : {text key after : List ℕ} {b : ℕ} → HasLineEnd text → TakesKey text key (b ∷ after) → b ≡ 61
    → HasLineEnd after
after_equals {key = key} {after = after} {b = b} h takes is =
    let bytes = key_bytes (b ∷ after) takes in
    elim (after_front (key ++ takes.spaces) b after (omega arith) bytes.0 h) [
      | inl p ↦ let e = p.1 in absurd (omega arith)
      | inr k ↦ k
    ]

some_after : {text : List ℕ} (front rest : List ℕ) → list_all is_comment_byte front ≡ true
    → text ≡ front ++ rest → HasLineEnd text → rest ≢ []
some_after front rest all joined h none =
    no_line_end front all (subst HasLineEnd (joined ∙ rw none (append-nil front)) h)

at_line_end_more : (rest more : List ℕ) → rest ≢ [] → IsAtLineEnd rest → IsAtLineEnd (rest ++ more)
at_line_end_more [] more some end = absurd (some refl)
at_line_end_more (a ∷ []) [] some end = end
at_line_end_more (a ∷ []) (m ∷ more) some end = inl end
at_line_end_more (a ∷ b ∷ rest) more some end = end

entry_more : {text key rest : List ℕ} {value : Option (List ℕ)} {lines : ℕ} (more : List ℕ)
    → HasLineEnd text → TakesEntry text key value lines rest
    → TakesEntry (text ++ more) key value lines (rest ++ more)
entry_more more h (alone {key = key} {rest = rest} takes end) =
    let bytes = key_bytes rest takes in
    let some = some_after (key ++ takes.spaces) rest bytes.1 bytes.0 h in
    alone (key_more rest more some takes) (at_line_end_more rest more some end)
entry_more more h (valued {b = b} {after = after} takes e taken) =
    valued (key_more (b ∷ after) more (λ no. cc) takes) e (value_more more (after_equals h takes e) taken)

entry_lines : {text key rest : List ℕ} {value : Option (List ℕ)} {lines : ℕ} → HasLineEnd text
    → TakesEntry text key value lines rest
    → (line_feeds text ≡ lines + line_feeds rest) × EndsLine rest
entry_lines h (alone {key = key} {rest = rest} takes end) =
    let bytes = key_bytes rest takes in
    let e = line_feeds_after (key ++ takes.spaces) rest bytes.0 bytes.1 in
    (omega arith, ends_after (key ++ takes.spaces) rest (line_end_other rest end) bytes.0 h)
entry_lines h (valued {b = b} {key = key} {after = after} takes is taken) =
    let bytes = key_bytes (b ∷ after) takes in
    let e = line_feeds_after (key ++ takes.spaces) (b ∷ after) bytes.0 bytes.1 in
    let last : list_all is_comment_byte (b ∷ []) ≡ true = rw is in
    let f = line_feeds_after (b ∷ []) after refl last in
    let (g, ends) = value_lines (after_equals h takes is) taken in
    (omega arith, ends)

comment_bytes : (b : ℕ) (comment : List ℕ) → is_comment_sign b ≡ true
    → list_all is_comment_byte comment ≡ true → list_all is_comment_byte (b ∷ comment) ≡ true
comment_bytes b comment is pass =
    let first : is_comment_byte b ≡ true = grind (arith, nat_tests) in rw (first, pass)

blank_alone : (b : ℕ) → is_blank b ≡ true → list_all is_comment_byte (b ∷ []) ≡ true
blank_alone b is = rw (blank_other b is)

module _ (more : List ℕ) (last : List Entry) (end : ℕ) (then : (section : Option Section) → Reads section end more last None) where
  pub reads_more : {section : Option Section} {line : ℕ} {text : List ℕ} {entries : List Entry}
      → Reads section line text entries None
      → EndsLine text → line + line_feeds text ≡ end
      → Reads section line (text ++ more) (entries ++ last) None
  reads_more {section = section} {line = line} file.ends ends e =
      let same : end ≡ line = omega arith in subst (λ l. Reads section l more last None) same (then section)
  reads_more (file.blank {b = b} {text = text} is h) ends e =
      let f = line_feeds_after {text = b ∷ text} (b ∷ []) text refl (blank_alone b is) in
      let other : b ≢ 92 = grind (arith, nat_tests) in
      file.blank is (reads_more h (ends_line (tail_or_last b text other (has_end b text ends))) (omega arith))
  reads_more (file.line_end {b = b} {text = text} is h) ends e =
      let f = line_feeds_more b text is in
      file.line_end is (reads_more h (ends_line (tail_or_last b text (omega arith) (has_end b text ends))) (omega arith))
  reads_more (file.comment {b = b} {text = text} {comment = comment} {rest = rest} is run h) ends e =
      let has = has_end b text ends in
      let all = comment_bytes b comment is run.pass in
      let joined : b ∷ text ≡ (b ∷ comment) ++ rest = ap (◌∷◌ b) run.joined in
      let f = line_feeds_after (b ∷ comment) rest joined all in
      let ends_rest = ends_after (b ∷ comment) rest (comment_end_other rest run.longest) joined has in
      let some = some_after (b ∷ comment) rest all joined has in
      file.comment is (run_more rest more some run) (reads_more h ends_rest (omega arith))
  reads_more (file.header {b = b} {text = text} {rest = rest} is header h) ends e =
      let (front, joined, all) = header_bytes header in
      let first : list_all is_comment_byte (b ∷ front) ≡ true = rw is all in
      let joined_too : b ∷ text ≡ (b ∷ front) ++ 93 ∷ rest = ap (λ t. b ∷ t) joined in
      let f = line_feeds_after (b ∷ front) (93 ∷ rest) joined_too first in
      let g = line_feeds_after (93 ∷ []) rest refl refl in
      file.header is (header_more more header)
      (reads_more h (ends_line (after_front (b ∷ front) 93 rest (omega arith) joined_too (has_end b text ends))) (omega arith))
  reads_more (file.entry {b = b} {text = text} letter takes h) ends e =
      let has = has_end b text ends in
      let (f, ends_rest) = entry_lines has takes in
      file.entry letter (entry_more more has takes) (reads_more h ends_rest (omega arith))
