-- Each text has a reading.
use Rattle.std.proofs.Common.{◌≡◌, ◌≢◌, ℕ, zero, suc, ◌+◌, ◌≤◌, true, List, [], ◌∷◌, Option, Some, None}
use Rattle.std.proofs.Common.{Result, Ok, Err, length, take, drop, refl, arith, inl, inr}
use Rattle.std.specs.List.{prefix_len}
use Rattle.std.specs.Char.{is_ascii_alphabetic}
use Rattle.config_file.proofs.Runs.{run_split}
use Rattle.config_file.proofs.Pick.{cases, option_cases, Decided, equal, both, either, line_end_decided}
use Rattle.config_file.proofs.Headers.{no_blanks, opened}
use Rattle.config_file.proofs.Readings.{begins_none}
use Rattle.config_file.proofs.Bounds.{header_shortens, entry_shortens, run_shortens}
use Rattle.config_file.proofs.EachValue.{value_holds, subsection_holds}
use Rattle.config_file.proofs.OneSubsection.{SubsectionHas, subsection_of}
use Rattle.config_file.proofs.OneValue as one_value
use Rattle.config_file.proofs.OneValue.{ValueHas, value_of}
use Rattle.config_file.proofs.OneHeader as one_header
use Rattle.config_file.proofs.OneHeader.{HeaderHas}
use Rattle.config_file.proofs.OneEntry as one_entry
use Rattle.config_file.proofs.OneEntry.{EntryHas}
use Rattle.config_file.specs.declared.errors.FileError.{FileError}
use Rattle.config_file.specs.declared.errors.Why.{Why}
use Rattle.config_file.specs.declared.errors.Why.TheVariants.{BadLine}
use Rattle.config_file.specs.Bytes.{is_name_byte, is_key_byte, is_blank, is_space, is_comment_sign}
use Rattle.config_file.specs.Bytes.{is_comment_byte, IsAtLineEnd}
use Rattle.config_file.specs.Runs.{Run, StopsRun}
use Rattle.config_file.specs.Header as header
use Rattle.config_file.specs.Header.{Section, ClosesSubsection, SubsectionStops, why_at}
use Rattle.config_file.specs.File as file
use Rattle.config_file.specs.File.{Entry, TakesKey, Reads, IsFile, Begins, after_mark, IsPartOfMark}

pub not_empty : (b : ℕ) (rest : List ℕ) → b ∷ rest ≢ []
not_empty b rest e = cc

abbrev ClosingIs : List ℕ → Result (List ℕ × List ℕ) (ℕ × Why) → Type 0
ClosingIs text (Ok p) = ClosesSubsection text p.0 p.1
ClosingIs text (Err stop) = SubsectionStops text stop.0 stop.1

abbrev closing_of : (text : List ℕ) (o : Result (List ℕ × List ℕ) (List ℕ)) → SubsectionHas text o
    → (c : Result (List ℕ × List ℕ) (ℕ × Why)) × ClosingIs text c
closing_of text (Err rest) place = (Err (0, why_at rest), header.within place)
closing_of text (Ok (raw, [])) takes = (Err (1, BadLine), header.closed_at_line_end takes tt)
closing_of text (Ok (raw, b ∷ rest)) takes =
    elim (equal b 93) [
      | inl is ↦ (Ok (raw, rest), header.closes takes is)
      | inr other ↦ elim (line_end_decided (b ∷ rest)) [
        | inl end ↦ (Err (1, BadLine), header.closed_at_line_end takes end)
        | inr not_end ↦ (Err (0, why_at (b ∷ rest)), header.closed takes other not_end)
      ]
    ]

abbrev HasHeader : List ℕ → Type 0
HasHeader text = (o : one_header.Outcome) × HeaderHas text o

abbrev named : {text : List ℕ} (name after : List ℕ) → Run is_name_byte text name after
    → StopsRun is_blank after → HasHeader text
named name [] run none = (Err (1, BadLine), header.name run none header.at_end)
named [] (b ∷ rest) run none = (Err (0, why_at (b ∷ rest)), header.name run none header.empty)
named (n ∷ name) (b ∷ rest) run none =
    elim (equal b 93) [
      | inl is ↦ (Ok ((n ∷ name, None), rest), header.plain run (not_empty n name) is)
      | inr other ↦
          (Err (0, why_at (b ∷ rest)), header.name run none (header.not_closed other))
    ]

abbrev with_subsection : {text inner : List ℕ} (name : List ℕ) → header.OpensSubsection text name inner
    → (c : Result (List ℕ × List ℕ) (ℕ × Why)) → ClosingIs inner c → HasHeader text
with_subsection name opens (Ok (raw, rest)) closed = (Ok ((name, Some raw), rest), header.quoted opens closed)
with_subsection name opens (Err (lines, why)) stopped =
    (Err (lines, why), header.subsection opens stopped)

abbrev blanked : {text : List ℕ} (name after blanks more : List ℕ) → Run is_name_byte text name after
    → Run is_blank after blanks more → HasHeader text
blanked name after [] more run blank_run = named name after run (no_blanks [] blank_run refl)
blanked name after (x ∷ blanks) [] run blank_run =
    (Err (0, BadLine), header.blanks run blank_run (not_empty x blanks) tt)
blanked name after (x ∷ blanks) (b ∷ inner) run blank_run =
    elim (equal b 34) [
      | inl is ↦
          let o = subsection_of inner in
          let (c, closing) = closing_of inner o (subsection_holds inner) in
          let opens = opened after (x ∷ blanks) (b ∷ inner) run blank_run (not_empty x blanks) (rw is) in
          with_subsection name opens c closing
      | inr other ↦
          (Err (0, why_at (b ∷ inner)), header.blanks run blank_run (not_empty x blanks) other)
    ]

abbrev each_header : (text : List ℕ) → HasHeader text
each_header text =
    let n = prefix_len is_name_byte text in
    let after = drop n text in
    let m = prefix_len is_blank after in
    blanked (take n text) after (take m after) (drop m after) (run_split is_name_byte text) (run_split is_blank after)

abbrev HasEntry : List ℕ → Type 0
HasEntry text = (o : one_entry.Outcome) × EntryHas text o

abbrev with_value : {text : List ℕ} (key : List ℕ) (b : ℕ) (after : List ℕ) → TakesKey text key (b ∷ after)
    → b ≡ 61 → (o : one_value.Outcome) → ValueHas after o → HasEntry text
with_value key b after takes is (Ok (raw, lines, rest)) taken =
    (Ok (key, Some raw, lines, rest), file.valued takes is taken)
with_value key b after takes is (Err (lines, why)) stopped =
    (Err (lines, why), file.value takes is stopped)

abbrev after_key : {text : List ℕ} (key rest : List ℕ) → TakesKey text key rest
    → Decided (IsAtLineEnd rest) → HasEntry text
after_key key rest takes (inl end) = (Ok (key, None, 0, rest), file.alone takes end)
after_key key [] takes (inr not_end) = absurd (not_end tt)
after_key key (b ∷ after) takes (inr not_end) =
    elim (equal b 61) [
      | inl is ↦ with_value key b after takes is (value_of after) (value_holds after)
      | inr other ↦ (Err (0, why_at (b ∷ after)), file.key takes other not_end)
    ]

abbrev each_entry : (text : List ℕ) → HasEntry text
each_entry text =
    let n = prefix_len is_key_byte text in
    let spaced = drop n text in
    let m = prefix_len is_space spaced in
    let rest = drop m spaced in
    after_key (take n text) rest (record { spaced = spaced; spaces = take m spaced; key_run = run_split is_key_byte text; space_run = run_split is_space spaced }) (line_end_decided rest)

abbrev HasReading : Option Section → ℕ → List ℕ → Type 0
HasReading section line text =
    (entries : List Entry) × (error : Option FileError) × Reads section line text entries error

-- each text of at most n bytes has a reading
abbrev pub AreRead : ℕ → Type 0
AreRead n =
    (section : Option Section) (line : ℕ) (text : List ℕ) → length text ≤ n → HasReading section line text

abbrev after_header : (n : ℕ) → AreRead n → (section : Option Section) (line b : ℕ) (text : List ℕ)
    → length text ≤ n → b ≡ 91 → (o : one_header.Outcome) → HeaderHas text o
    → HasReading section line (b ∷ text)
after_header n more section line b text room is (Ok (next, rest)) has =
    let shorter = header_shortens has in
    let (entries, error, reads) = more (Some next) line rest (omega arith) in
    (entries, error, file.header is has reads)
after_header n more section line b text room is (Err (lines, why)) has =
    ([], Some (file.error_at (line + lines) why), file.header_refused is has)

abbrev after_entry : (n : ℕ) → AreRead n → (section : Option Section) (line b : ℕ) (text : List ℕ)
    → length text ≤ n → is_ascii_alphabetic b ≡ true → (o : one_entry.Outcome)
    → EntryHas (b ∷ text) o → HasReading section line (b ∷ text)
after_entry n more section line b text room is (Ok (key, v, lines, rest)) has =
    let shorter = entry_shortens (b ∷ text) refl is has in
    let (entries, error, reads) = more section (line + lines) rest (omega arith) in
    (file.entry_at section key v (line + lines) ∷ entries, error, file.entry is has reads)
after_entry n more section line b text room is (Err (lines, why)) has =
    ([], Some (file.error_at (line + lines) why), file.entry_refused is has)

abbrev after_byte : (n : ℕ) → AreRead n → (section : Option Section) (line b : ℕ) (text : List ℕ)
    → length text ≤ n → HasReading section line (b ∷ text)
after_byte n more section line b text room =
    elim (cases (is_blank b)) [
      | inl is ↦
          let (entries, error, reads) = more section line text room in
          (entries, error, file.blank is reads)
      | inr not_blank ↦ elim (equal b 10) [
        | inl is ↦
            let (entries, error, reads) = more section (line + 1) text room in
            (entries, error, file.line_end is reads)
        | inr not_line ↦ elim (cases (is_comment_sign b)) [
          | inl is ↦
              let run = run_split is_comment_byte text in
              let shorter = run_shortens run in
              let (entries, error, reads) =
              more section line (drop (prefix_len is_comment_byte text) text) (omega arith) in
              (entries, error, file.comment is run reads)
          | inr not_sign ↦ elim (equal b 91) [
            | inl is ↦
                let (o, has) = each_header text in
                after_header n more section line b text room is o has
            | inr not_bracket ↦ elim (cases (is_ascii_alphabetic b)) [
              | inl is ↦
                  let (o, has) = each_entry (b ∷ text) in
                  after_entry n more section line b text room is o has
              | inr not_letter ↦
                  let none =
                  begins_none b not_blank not_line not_sign not_bracket not_letter in
                  ([], Some (file.error_at line (why_at (b ∷ text))), file.no_item none)
            ]
          ]
        ]
      ]
    ]

abbrev pub are_read : (n : ℕ) → AreRead n
are_read n section line [] room = ([], None, file.ends)
are_read zero section line (b ∷ text) room = absurd (omega arith)
are_read (suc n) section line (b ∷ text) room = after_byte n (are_read n) section line b text (omega arith)

abbrev part_decided : (text : List ℕ) → Decided (IsPartOfMark text)
part_decided [] = inr (λ h. h)
part_decided (a ∷ []) = equal a 0xef
part_decided (a ∷ b ∷ rest) =
    both (equal a 0xef) (either (line_end_decided (b ∷ rest)) (both (equal b 0xbb) (line_end_decided rest)))

abbrev HasBeginning : List ℕ → Type 0
HasBeginning text = (line : ℕ) × (rest : List ℕ) × Begins text line rest

abbrev each_beginning : (text : List ℕ) → HasBeginning text
each_beginning text =
    elim (option_cases (after_mark text)) [
      | inl marked ↦ (1, marked.0, file.marked marked.1)
      | inr none ↦ elim (part_decided text) [
        | inl part ↦ (2, text, file.part_of_mark part)
        | inr no_part ↦ (1, text, file.unmarked none no_part)
      ]
    ]

abbrev pub each_is_read : (text : List ℕ)
    → (entries : List Entry) × (error : Option FileError) × IsFile text entries error
each_is_read text =
    let (line, rest, begins) = each_beginning text in
    let (entries, error, reads) = are_read (length rest) None line rest (omega arith) in
    (entries, error, record { line = line; rest = rest; begins = begins; reads = reads })
