-- Rows in runs of one section.
use Rattle.std.proofs.Common.{Option, None, Some, MatchOption, Bor}
use Rattle.std.proofs.Common.{◌≡◌, ◌+◌, ◌<◌, ℕ, suc, List, [], ◌∷◌, ◌++◌, length, take, drop, get_or, arith, refl}
use Rattle.std.proofs.Common.{sym, ap, subst, ◌∙◌, codes, true, false}
use Rattle.std.proofs.lemmas.List.{flat_map_more, take-append-drop}
use Rattle.std.proofs.lemmas.List.Elements.{All-append}
use Rattle.std.proofs.lemmas.Grind.{flat_map-append}
use Rattle.std.proofs.Math.Seq.{take-add}
use Rattle.std.specs.List.{All, Any}
use Rattle.std.proofs.lemmas.Bool.{false≢true}
use Rattle.std.specs.Option.{is_some}
use Rattle.config_text.specs.SameWord.{SameWord}
use Rattle.config_file.specs.Key.{Key}
use Rattle.config_file.specs.KeyView.{key_of}
use Rattle.config_checks.specs.declared.row.Row.{Row}
use Rattle.config_checks.specs.declared.row.Run.{Run}
use Rattle.config_checks.specs.Keys.{Covers}
use Rattle.config_checks.specs.Reading.Steps.{LacksSection}
use Rattle.config_checks.specs.Rows.{CoversNone, IsFirstCovering, rows_of}
use Rattle.config_checks.specs.Suggestions.{HasSection, HasSlots, HasNone, IsFirstSuch, IsMovedRow, IsNowhere}
use Rattle.config_checks.specs.Suggestions.{IsElsewhere}
use Rattle.config_checks.proofs.FirstLemmas.{IsFirst, first_within, any_within}
use Rattle.config_checks.proofs.NearestLemmas.{take_more}

-- the rows of the runs before place `i`, and of the run there
pub rows_more : (runs : List Run) (i : ℕ) (run : Run) → i < length runs → get_or runs i run ≡ run
    → rows_of (take (i + 1) runs) ≡ rows_of (take i runs) ++ run.rows.now
rows_more runs i run below here =
    ap rows_of (take_more runs i run below here) ∙ sym (flat_map_more (λ r. r.rows.now) [] (take i runs) run)

rows_around : (runs : List Run) (i : ℕ) (run : Run) → i < length runs → get_or runs i run ≡ run
    → rows_of runs ≡ (rows_of (take i runs) ++ run.rows.now) ++ rows_of (drop (i + 1) runs)
rows_around runs i run below here =
    ap rows_of (sym (take-append-drop (i + 1) runs))
    ∙ flat_map-append (λ r. r.rows.now) (take (i + 1) runs) (drop (i + 1) runs)
    ∙ ap (λ l. l ++ rows_of (drop (i + 1) runs)) (rows_more runs i run below here)

-- the first item of a run, if there is none in the runs before it, is the first of all rows
first_at : (P : Row → Type 0) (runs : List Run) (i : ℕ) (run : Run) (row : Row) → i < length runs
    → get_or runs i run ≡ run
    → HasNone P (rows_of (take i runs)) → IsFirst P run.rows.now row → IsFirst P (rows_of runs) row
first_at P runs i run row below here none first =
    rw (rows_around runs i run below here)
    (first_within P (rows_of (take i runs)) run.rows.now (rows_of (drop (i + 1) runs)) row none first)

module _ (key : Key) where
  -- no row of a run with another section covers the key
  pub other_section : (run : Run) → ¬ (SameWord run.section.now key.section) → CoversNone run.rows.now key
  other_section run other k d inside covers = other (sym (run.of_section k d inside) ∙ covers.section)

  pub covering_first : {rows : List Row} {row : Row} → IsFirstCovering rows key row
      → IsFirst (λ row. Covers (key_of row.key) key) rows row
  covering_first f = record { place = f.place; inside = f.inside; stands = f.stands; is = f.covers; first = f.first }

  pub covering_in : (runs : List Run) (i : ℕ) (run : Run) (row : Row) → i < length runs → get_or runs i run ≡ run
      → CoversNone (rows_of (take i runs)) key → IsFirstCovering run.rows.now key row
      → IsFirstCovering (rows_of runs) key row
  covering_in runs i run row below here none first =
      let f = first_at (λ row. Covers (key_of row.key) key) runs i run row below here none (covering_first first) in
      record { place = f.place; inside = f.inside; stands = f.stands; covers = f.is; first = f.first }

  -- no row covers the key if no run is of its section
  pub none_covering : (runs : List Run) → LacksSection runs key.section → CoversNone (rows_of runs) key
  none_covering [] lacks = λ k d inside. absurd (omega (arith, inside))
  none_covering (run ∷ runs) lacks =
      All-append (λ row. ¬ (Covers (key_of row.key) key)) run.rows.now (rows_of runs)
      (other_section run (lacks 0 run (omega arith)))
      (none_covering runs (λ k d inside. lacks (suc k) d (omega (arith, inside))))

-- what holds for the rows of the first runs and for those of one more run
pub all_more : (P : Row → Type 0) (runs : List Run) (i : ℕ) (run : Run) → i < length runs → get_or runs i run ≡ run
    → All P (rows_of (take i runs)) → All P run.rows.now → All P (rows_of (take (i + 1) runs))
all_more P runs i run below here so_far also =
    rw (rows_more runs i run below here) (All-append P (rows_of (take i runs)) run.rows.now so_far also)

any_of_all : (P : Row → Type 0) (rows : List Row) → 0 < length rows → All P rows → Any P rows
any_of_all P [] some all = absurd (omega (arith, some))
any_of_all P (row ∷ rows) some all = (0, row, some, refl, all 0 row some)

-- what holds for a row of a run holds for one of all rows
any_at : (P : Row → Type 0) (runs : List Run) (i : ℕ) (run : Run) → i < length runs → get_or runs i run ≡ run
    → Any P run.rows.now → Any P (rows_of runs)
any_at P runs i run below here any =
    rw (rows_around runs i run below here)
    (any_within P (rows_of (take i runs)) run.rows.now (rows_of (drop (i + 1) runs)) any)

-- if a run has this section, a row has it
pub has_run : (t : List ℕ) (runs : List Run) (i : ℕ) (run : Run) → i < length runs → get_or runs i run ≡ run
    → SameWord run.section.now t → HasSection (rows_of runs) t
has_run t runs i run below here same =
    any_at (λ row. SameWord (key_of row.key).section t) runs i run below here
    (any_of_all (λ row. SameWord (key_of row.key).section t) run.rows.now run.some
    (λ k d inside. run.of_section k d inside ∙ same))

-- the rows of the runs so far and of one more run are the first rows
pub runs_grow : (rows : List Row) (runs : List Run) (run : Run) (start : ℕ) → rows_of runs ≡ take start rows
    → run.rows.now ≡ take (length run.rows.now) (drop start rows)
    → rows_of (runs ++ run ∷ []) ≡ take (start + length run.rows.now) rows
runs_grow rows runs run start so_far cut =
    sym (flat_map_more (λ r. r.rows.now) [] runs run) ∙ ap (λ l. l ++ run.rows.now) so_far
    ∙ ap (λ l. take start rows ++ l) cut
    ∙ sym (take-add start (length run.rows.now) rows)

-- ---- the first row of which something holds

pub such_first : {P : Row → Type 0} {rows : List Row} {row : Row} → IsFirstSuch P rows row → IsFirst P rows row
such_first f = record { place = f.place; inside = f.inside; stands = f.stands; is = f.is; first = f.first }

pub first_such : (P : Row → Type 0) (runs : List Run) (i : ℕ) (run : Run) (row : Row) → i < length runs
    → get_or runs i run ≡ run → HasNone P (rows_of (take i runs)) → IsFirstSuch P run.rows.now row
    → IsFirstSuch P (rows_of runs) row
first_such P runs i run row below here none first =
    let f = first_at P runs i run row below here none (such_first first) in
    record { place = f.place; inside = f.inside; stands = f.stands; is = f.is; first = f.first }

pub elsewhere_of : (rows : List Row) (key : Key) (r : Option (Bor Row)) → HasSection rows key.section
    → MatchOption r (HasNone (IsMovedRow key) rows) (λ row. IsFirstSuch (IsMovedRow key) rows row.now)
    → MatchOption r (IsNowhere rows key) (λ row. IsElsewhere rows key row.now)
elsewhere_of rows key r has is = grind arith

-- ---- slots of colors

module _ (t : List ℕ) where
  abbrev pub IsWithin : Row → Type 0
  IsWithin row = (key_of row.key).subsection ≡ Some t

  abbrev pub IsSlot : Row → Type 0
  IsSlot row = SameWord (key_of row.key).section (codes "color") × ((key_of row.key).subsection ≡ Some t)

  any_slot : (run : Run) → SameWord run.section.now (codes "color") → (r : Option (Bor Row)) → is_some r ≡ true
      → MatchOption r (HasNone IsWithin run.rows.now) (λ row. IsFirstSuch IsWithin run.rows.now row.now)
      → Any IsSlot run.rows.now
  any_slot run same None some none = absurd (false≢true some)
  any_slot run same (Some row) some first =
      let in_run = subst (λ (row : Row). SameWord (key_of row.key).section run.section.now) first.stands
      (run.of_section first.place row.now first.inside) in
      (first.place, row.now, first.inside, first.stands, (in_run ∙ same, first.is))

  -- a row of the run has this subsection
  pub slots_in : (runs : List Run) (i : ℕ) (run : Run) → i < length runs → get_or runs i run ≡ run
      → SameWord run.section.now (codes "color") → (r : Option (Bor Row)) → is_some r ≡ true
      → MatchOption r (HasNone IsWithin run.rows.now) (λ row. IsFirstSuch IsWithin run.rows.now row.now)
      → HasSlots (rows_of runs) t
  slots_in runs i run below here same r some first =
      any_at IsSlot runs i run below here (any_slot run same r some first)

  -- no row of the run has it
  pub no_slots : (run : Run) (r : Option (Bor Row)) → is_some r ≡ false
      → MatchOption r (HasNone IsWithin run.rows.now) (λ row. IsFirstSuch IsWithin run.rows.now row.now)
      → HasNone IsSlot run.rows.now
  no_slots run r not is = grind arith

  -- the run has another section
  pub no_colors : (run : Run) → ¬ (SameWord run.section.now (codes "color")) → HasNone IsSlot run.rows.now
  no_colors run other = λ k d inside slot. other (sym (run.of_section k d inside) ∙ slot.0)
