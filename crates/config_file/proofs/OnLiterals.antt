-- How Git lists the entries of a literal text: functions that compute it, with the proofs of what they
-- return.
use Rattle.std.proofs.Common.{◌≡◌, ℕ, suc, zero, Bool, true, false, not, List, [], ◌∷◌, ◌++◌, Option}
use Rattle.std.proofs.Common.{Some, None, map, length, refl, subst, inl, inr}
use Rattle.std.specs.Prelude.{⊤}
use Rattle.std.specs.List.{AllByRecursion, AllZip}
use Rattle.config_file.proofs.Pick.{cases, option_cases, equal, both}
use Rattle.config_file.proofs.EachReading.{each_is_read}
use Rattle.config_file.specs.declared.errors.FileError.{FileError}
use Rattle.config_file.specs.Bytes.{is_blank, is_plain, is_plain_in_quotes, is_text_byte}
use Rattle.config_file.specs.Header.{Section}
use Rattle.config_file.specs.Subsection as sub
use Rattle.config_file.specs.Subsection.{SpellsSubsection}
use Rattle.config_file.specs.Value as value
use Rattle.config_file.specs.Value.{Ending, Spells, SpellsValue, itself, escape, kept}
use Rattle.config_file.specs.File.{Entry, IsFile}
use Rattle.config_file.specs.Listing as list
use Rattle.config_file.specs.Listing.{IsListedSection, IsListed}

-- what has this property, with the proof, if it is found
abbrev pub Known : {A : Type 0} → (A → Type 0) → Type 0
Known {A} P = Option ((a : A) × P a)

abbrev pub carry : {A B : Type 0} {P : A → Type 0} {Q : B → Type 0} (f : A → B) → ((a : A) → P a → Q (f a))
    → Known P → Known Q
carry f more None = None
carry f more (Some found) = Some (f found.0, more found.0 found.1)

-- ---- the text that the bytes of a value spell

abbrev Spelling : Bool → List ℕ → List ℕ → List ℕ → Type 0
Spelling q so_far held raw = Known (λ (end : List ℕ × Ending). Spells itself q so_far held raw end.0 end.1)

abbrev Speller : Type 0
Speller = (q : Bool) (so_far held raw : List ℕ) → Spelling q so_far held raw

abbrev spell_return : Speller → (q : Bool) (so_far held : List ℕ) (b e : ℕ) (raw : List ℕ) → b ≡ 92
    → Spelling q so_far held (b ∷ e ∷ raw)
spell_return go q v held b e [] is_backslash = None
spell_return go q v held b e (f ∷ raw) is_backslash =
    elim (both (equal e 13) (equal f 10)) [
      | inl is ↦
          carry (λ x. x) (λ x s. value.continued_after_return is_backslash is.0 is.1 s)
          (go q (kept v held) [] raw)
      | inr other ↦ None
    ]

abbrev spell_escape : Speller → (q : Bool) (so_far held : List ℕ) (b : ℕ) (raw : List ℕ) → b ≡ 92
    → Spelling q so_far held (b ∷ raw)
spell_escape go true v held b [] is = None
spell_escape go false v held b [] is = Some ((kept v held, value.at_backslash), value.ends_at_backslash is)
spell_escape go q v held b (e ∷ raw) is =
    elim (option_cases (escape e)) [
      | inl letter ↦
          carry (λ x. x) (λ x s. value.escaped is letter.1 s) (go q (kept v held ++ letter.0 ∷ []) [] raw)
      | inr none ↦ elim (equal e 10) [
        | inl line ↦
            carry (λ x. x) (λ x s. value.continued is line s) (go q (kept v held) [] raw)
        | inr other ↦ spell_return go q v held b e raw is
      ]
    ]

abbrev spell_plain : Speller → (q : Bool) (so_far held : List ℕ) (b : ℕ) (raw : List ℕ)
    → Spelling q so_far held (b ∷ raw)
spell_plain go q v held b raw =
    elim (cases (is_plain q b)) [
      | inl is ↦ carry (λ x. x) (λ x s. value.plain is s) (go q (kept v held ++ b ∷ []) [] raw)
      | inr other ↦ None
    ]

abbrev spell_byte : Speller → (q : Bool) (so_far held : List ℕ) (b : ℕ) (raw : List ℕ)
    → Spelling q so_far held (b ∷ raw)
spell_byte go true v held b raw = spell_plain go true v held b raw
spell_byte go false v held b raw =
    elim (cases (is_blank b)) [
      | inl is ↦ carry (λ x. x) (λ x s. value.blank is s) (go false v (held ++ b ∷ []) raw)
      | inr other ↦ spell_plain go false v held b raw
    ]

-- of at most n bytes
abbrev spell : ℕ → Speller
spell n true v held [] = Some ((v, value.inside), value.ends_inside)
spell n false v held [] = Some ((v, value.outside), value.ends_outside)
spell zero q v held (b ∷ raw) = None
spell (suc n) q v held (b ∷ raw) =
    elim (equal b 34) [
      | inl is ↦
          carry (λ x. x) (λ x s. value.quote is s) (spell n (not q) (kept v held) [] raw)
      | inr other ↦ elim (equal b 92) [
        | inl is ↦ spell_escape (spell n) q v held b raw is
        | inr plain ↦ spell_byte (spell n) q v held b raw
      ]
    ]

-- ---- the row of an entry

-- a key as Git lists it, the text of its value unless it is a key alone, and its line
abbrev pub Row : Type 0
Row = List ℕ × Option (List ℕ) × ℕ

abbrev pub IsText : Option (List ℕ) → Option (List ℕ) → Type 0
IsText None None = ⊤
IsText (Some raw) (Some text) = (ending : Ending) × SpellsValue raw text ending
IsText _ _ = ⊥

-- this row has the key of the entry as Git lists it, the text that its value spells, and its line
pub record IsRow (entry : Entry) (row : Row) : Type 0 where
  pub key : IsListed entry.section entry.key row.0
  pub value : IsText entry.value row.1
  pub line : entry.line ≡ row.2

abbrev text_of : (raw : Option (List ℕ)) → Known (IsText raw)
text_of None = Some (None, tt)
text_of (Some raw) = carry (λ x. Some x.0) (λ x s. (x.1, s)) (spell (length raw) false [] [] raw)

abbrev escaped_of : ((raw : List ℕ) → Known (SpellsSubsection raw)) → (b : ℕ) (raw : List ℕ) → b ≡ 92
    → Known (SpellsSubsection (b ∷ raw))
escaped_of go b [] is = None
escaped_of go b (e ∷ raw) is =
    elim (cases (is_text_byte e)) [ inl text ↦ carry (λ t. e ∷ t) (λ t s. sub.escaped is text s) (go raw) | inr other ↦ None ]

-- of at most n bytes
abbrev subsection_of : ℕ → (raw : List ℕ) → Known (SpellsSubsection raw)
subsection_of n [] = Some ([], sub.ends)
subsection_of zero (b ∷ raw) = None
subsection_of (suc n) (b ∷ raw) =
    elim (cases (is_plain_in_quotes b)) [
      | inl is ↦ carry (λ t. b ∷ t) (λ t s. sub.plain is s) (subsection_of n raw)
      | inr other ↦
          elim (equal b 92) [ inl is ↦ escaped_of (subsection_of n) b raw is | inr none ↦ None ]
    ]

abbrev section_of : (section : Section) → Known (IsListedSection section)
section_of (name, None) = Some (_, list.plain)
section_of (name, Some raw) = carry _ (λ t s. list.quoted s) (subsection_of (length raw) raw)

abbrev key_of : (section : Option Section) (key : List ℕ) → Known (IsListed section key)
key_of None key = Some (_, list.alone)
key_of (Some section) key = carry _ (λ l s. list.in_section s) (section_of section)

abbrev row_of : (entry : Entry) → Known (IsRow entry)
row_of entry =
    elim (key_of entry.section entry.key) [
      | None ↦ None
      | Some k ↦
          carry (λ t. (k.0, t, entry.line)) (λ t is. record { key = k.1; value = is; line = refl }) (text_of entry.value)
    ]

abbrev rows_of : (entries : List Entry) → Known (AllZip IsRow entries)
rows_of [] = Some ([], tt)
rows_of (entry ∷ entries) =
    elim (row_of entry) [
      | None ↦ None
      | Some r ↦ carry (λ more. r.0 ∷ more) (λ more are. (r.1, are)) (rows_of entries)
    ]

-- ---- the rows of a text

-- the entries of the text are listed in these rows, up to its end or to this error
abbrev pub Lists : List ℕ → List Row → Option FileError → Type 0
Lists text rows error = (entries : List Entry) × IsFile text entries error × AllZip IsRow entries rows

abbrev Listing : List ℕ → Type 0
Listing text = Known (λ (l : List Row × Option FileError). Lists text l.0 l.1)

abbrev listing : (text : List ℕ) → Listing text
listing text =
    let (entries, error, reads) = each_is_read text in
    carry (λ rows. (rows, error)) (λ rows are. (entries, reads, are)) (rows_of entries)

abbrev shown : {text : List ℕ} → Listing text → Option (List Row × Option FileError)
shown None = None
shown (Some found) = Some found.0

told : {text : List ℕ} (found : Listing text) (rows : List Row) (error : Option FileError)
    → shown found ≡ Some (rows, error) → Lists text rows error
told None rows error e = cc
told {text = text} (Some found) rows error e =
    let same : found.0 ≡ (rows, error) = cc in
    subst (λ (l : List Row × Option FileError). Lists text l.0 l.1) same found.1

pub lists : (text : List ℕ) (rows : List Row) (error : Option FileError)
    → shown (listing text) ≡ Some (rows, error) → Lists text rows error
lists text rows error e = told (listing text) rows error e

-- each text is listed in its rows
abbrev pub AreListed : List (List ℕ × List Row × Option FileError) → Type 0
AreListed table =
    AllByRecursion (λ (row : List ℕ × List Row × Option FileError). Lists row.0 row.1 row.2) table

pub all_listed : (table : List (List ℕ × List Row × Option FileError))
    → map (λ row. shown (listing row.0)) table ≡ map (λ row. Some (row.1, row.2)) table
    → AreListed table
all_listed [] e = tt
all_listed (row ∷ table) e = (lists row.0 row.1 row.2 (cc (e)), all_listed table (cc (e)))
