-- Spellings of headers and keys.
use Rattle.std.proofs.Common.{◌≡◌, ◌≢◌, ℕ, true, false, not, ◌||◌, List, [], ◌∷◌, ◌++◌, Option, Some, None}
use Rattle.std.proofs.Common.{length, refl, sym, ◌∙◌, subst, append_assoc, arith, inl, inr, ◌==◌}
use Rattle.std.specs.List.{list_all}
use Rattle.std.specs.Char.{is_ascii_alphabetic}
use Rattle.std.proofs.lemmas.Bool.{cases_Bool, true≢false}
use Rattle.std.proofs.lemmas.Bool.Decides.{nat_tests}
use Rattle.config_file.specs.Bytes.{is_name_byte, is_text_byte, is_key_byte, is_plain_in_quotes}
use Rattle.config_file.specs.Runs.{StopsRun}
use Rattle.config_file.specs.Subsection as sub
use Rattle.config_file.specs.Subsection.{SpellsSubsection}
use Rattle.config_file.specs.Header.{Section, Header, plain, quoted, closes}
use Rattle.config_file.specs.Spelling.{SpellsSection, IsHeader, HasNoHeader, IsNoKey, spelled_subsection}
use Rattle.config_file.specs.Spelling.{spelled_section}
use Rattle.config_file.specs.Reading.Spellings.{is_section, is_key}

plain_in_quotes_is_text : (b : ℕ) → is_plain_in_quotes b ≡ true → is_text_byte b ≡ true
plain_in_quotes_is_text b is = grind (arith, nat_tests)

text_is_plain_in_quotes : (b : ℕ) → is_text_byte b ≡ true → (b == 34 || b == 92) ≡ false
    → is_plain_in_quotes b ≡ true
text_is_plain_in_quotes b is other = grind (arith, nat_tests)

subsection_spelled : (text : List ℕ) → list_all is_text_byte text ≡ true
    → SpellsSubsection (spelled_subsection text) text
subsection_spelled [] all = sub.ends
subsection_spelled (b ∷ text) all =
    let first : is_text_byte b ≡ true = grind (arith, nat_tests) in
    let others : list_all is_text_byte text ≡ true = grind (arith, nat_tests) in
    let more = subsection_spelled text others in
    elim (cases_Bool (b == 34 || b == 92)) [
      | inl is ↦ rw is (sub.escaped refl first more)
      | inr other ↦ rw other (sub.plain (text_is_plain_in_quotes b first other) more)
    ]

subsection_is_text : {raw text : List ℕ} → SpellsSubsection raw text → list_all is_text_byte text ≡ true
subsection_is_text sub.ends = refl
subsection_is_text (sub.escaped e is s) = rw (is, subsection_is_text s)
subsection_is_text (sub.plain {b = b} is s) = rw (plain_in_quotes_is_text b is, subsection_is_text s)

some_name : (name : List ℕ) → name ≢ [] → not (length name == 0) ≡ true
some_name [] some = absurd (some refl)
some_name (b ∷ name) some = grind (arith, nat_tests)

header_is_section : {text rest : List ℕ} {section : Section} (name : List ℕ) (text_of : Option (List ℕ))
    → Header text section rest → SpellsSection section name text_of
    → is_section name text_of ≡ true
header_is_section name None (plain run some e) (same, h) = rw (← same) (rw (some_name _ some, run.pass))
header_is_section name (Some t) (plain run some e) (same, h) = absurd h
header_is_section name None (quoted opens c) (same, h) = absurd h
header_is_section name (Some t) (quoted opens c) (same, h) =
    let pass = rw same at opens.name_run.pass in rw (pass, subsection_is_text h)

pub no_header : (name : List ℕ) (text : Option (List ℕ)) → is_section name text ≡ false
    → HasNoHeader name text
no_header name text refused t rest section names h =
    true≢false (sym (header_is_section name text h names) ∙ refused)

name_some : (name : List ℕ) → is_section name None ≡ true → name ≢ []
name_some [] is none = cc
name_some (b ∷ name) is none = cc

pub header_spelled : (name : List ℕ) (text : Option (List ℕ)) → is_section name text ≡ true
    → IsHeader (91 ∷ spelled_section name text) name text
header_spelled name None is =
    let pass : list_all is_name_byte name ≡ true = grind (arith, nat_tests) in
    let names : SpellsSection (name, None) name None = (refl, tt) in (
      name ++ 93 ∷ [],
      (name, None),
      refl,
      names,
      λ rest. plain (record { joined = append_assoc name (93 ∷ []) rest; pass = pass; longest = refl }) (name_some name is) refl,
    )
header_spelled name (Some text) is =
    let pass : list_all is_name_byte name ≡ true = grind (arith, nat_tests) in
    let all : list_all is_text_byte text ≡ true = grind (arith, nat_tests) in
    let raw = spelled_subsection text in
    let spells = subsection_spelled text all in
    let names : SpellsSection (name, Some raw) name (Some text) = (refl, spells) in (
      name ++ (32 ∷ 34 ∷ (raw ++ 34 ∷ 93 ∷ [])),
      (name, Some raw),
      refl,
      names,
      λ rest. quoted
          (record {
            blanks = 32 ∷ [];
            blanked = 32 ∷ 34 ∷ ((raw ++ 34 ∷ 93 ∷ []) ++ rest);
            quote = 34;
            name_run = record { joined = append_assoc name (32 ∷ 34 ∷ (raw ++ 34 ∷ 93 ∷ [])) rest; pass = pass; longest = refl };
            blank_run = record { joined = refl; pass = refl; longest = refl };
            some_blank = λ e. cc;
            is_quote = refl;
          })
          (closes (record { is_subsection = (text, spells); joined = append_assoc raw (34 ∷ 93 ∷ []) rest }) refl),
    )

pub letter_is_key_byte : (b : ℕ) → is_ascii_alphabetic b ≡ true → is_key_byte b ≡ true
letter_is_key_byte b h = grind (arith, nat_tests)

pub no_key : (key : List ℕ) → is_key key ≡ false → IsNoKey key
no_key [] refused b text rest letter run =
    let stops = subst (λ x. StopsRun is_key_byte x) (sym run.joined) run.longest in
    true≢false (sym (letter_is_key_byte b letter) ∙ stops)
no_key (k ∷ key) refused b text rest letter run =
    let joined : b ∷ text ≡ k ∷ (key ++ rest) = run.joined in
    let same : b ≡ k = cc in
    let first : is_ascii_alphabetic k ≡ true = rw same at letter in
    let pass = run.pass in
    let is : is_key (k ∷ key) ≡ true = rw (first, pass) in
    true≢false (sym is ∙ refused)
