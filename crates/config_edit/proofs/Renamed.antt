-- Texts in which sections get another name.
use Rattle.std.proofs.Common.{◌≡◌, ℕ, ◌<◌, Bool, true, false, List, [], ◌∷◌, ◌++◌, Option, Some, length}
use Rattle.std.proofs.Common.{refl, append_assoc, append-nil}
use Rattle.config_edit.specs.declared.piece.Held.{Held}
use Rattle.config_edit.specs.declared.piece.Held.TheVariants as held
use Rattle.config_edit.specs.declared.piece.Piece.{Piece}
use Rattle.config_file.specs.Header.{Section}
use Rattle.config_file.specs.Key.{Key}
use Rattle.config_file.specs.Spelling.{IsHeader, SpellsSection}
use Rattle.config_edit.specs.Edit.{Content, IsIn}
use Rattle.config_edit.specs.Cut as cut
use Rattle.config_edit.specs.Cut.{Part, IsPart, Cuts, part_bytes, section_behind}
use Rattle.config_edit.specs.Sections as spec
use Rattle.config_edit.specs.Sections.{RenamesParts, Renames, IsHeaderIn, NoneIs, git_header}
use Rattle.config_edit.specs.Reading.{IsPiece, IsHeaderHeld, Renaming}
use Rattle.config_file.specs.Views.{section_of}
use Rattle.config_edit.proofs.Cuts.{part_of, one_cut, IsPartOf}
use Rattle.config_edit.proofs.PartsRead.{part_contents, contents_of, part_moved, behind_begins, behind_more}
use Rattle.config_edit.proofs.PartsRead.{some_bytes, header_held, header_in, found_before, found_here}

-- parts and more parts
renamed_both : {from to : Key} {a b : List Part} {x y : List ℕ} → RenamesParts from to a x
    → RenamesParts from to b y
    → RenamesParts from to (a ++ b) (x ++ y)
renamed_both spec.none second = second
renamed_both {to = to} (spec.renamed {new = new} blanks section inner is first) second =
    rw append_assoc (spec.renamed blanks section inner is (renamed_both first second))
renamed_both (spec.kept {new = new} part other first) second =
    rw append_assoc (spec.kept part other (renamed_both first second))

pub renaming_begins : (from to : Key) (text : List ℕ) → Renaming from to text text [] false
renaming_begins from to text = record
    { done = []; behind = behind_begins text; renames = spec.none; found = tt }

header_part : (key : Key) (h : Held) (blanks bytes rest : List ℕ) (is_line : Bool) {part : Part}
    → IsPartOf h blanks bytes rest is_line part → IsHeaderHeld key h
    → (section : Section) × (inner : List ℕ) × (part ≡ cut.header blanks section inner)
header_part key (held.Header section) blanks bytes rest is_line (inner, is) h = (section_of section, inner, is)
header_part key (held.Entry parts) blanks bytes rest is_line is h = absurd h
header_part key other_held blanks bytes rest is_line is h = absurd h

module _ {from to : Key} {text rest new : List ℕ} {is_found : Bool}
    (r : Renaming from to text rest new is_found)
    (piece : Piece) (is : IsPiece rest piece) (shorter : length piece.rest.now < length rest) where
  pub renaming_keeps : ¬ (IsHeaderHeld from piece.held)
      → Renaming from to text piece.rest.now (new ++ piece.bytes.now) is_found
  renaming_keeps other =
      let (part, bytes_are, is_part, held_is) = part_of piece (some_bytes piece is shorter) is in
      let not_in : ¬ (IsHeaderIn from part) = λ h. other (header_in from piece.held _ _ _ piece.is_line part held_is h) in
      let one : RenamesParts from to (part ∷ []) (part_bytes part ++ []) = spec.kept part not_in spec.none in
      record {
        done = r.done ++ part ∷ [];
        behind = behind_more piece r.behind is shorter part bytes_are is_part;
        renames = renamed_both r.renames (rw (append-nil, bytes_are) at one);
        found = found_before from r.done part is_found r.found not_in;
      }

  pub renaming_changes : IsHeaderHeld from piece.held
      → Renaming from to text piece.rest.now ((new ++ piece.blanks.now) ++ git_header to) true
  renaming_changes h =
      let (part, bytes_are, is_part, held_is) = part_of piece (some_bytes piece is shorter) is in
      let is_in : IsHeaderIn from part = header_held from piece.held _ _ _ piece.is_line part held_is h in
      let (section, inner, part_is) = header_part from piece.held _ _ _ piece.is_line held_is h in
      let one : RenamesParts from to (cut.header piece.blanks.now section inner ∷ []) ((piece.blanks.now ++ git_header to) ++ []) =
      spec.renamed piece.blanks.now section inner (rw part_is at is_in) spec.none in
      record {
        done = r.done ++ part ∷ [];
        behind = behind_more piece r.behind is shorter part bytes_are is_part;
        renames = rw (append_assoc, part_is) (renamed_both r.renames (rw append-nil at one));
        found = found_here from r.done part is_in;
      }

-- what is read of the new text
pub data Corresponds (from to : Key) : Option Section → Option Section → Type 0 where
  moved : {old : Option Section} {new : Section}
      → IsIn from old → SpellsSection new to.section to.subsection → Corresponds from to old (Some new)
  same : {section : Option Section} → ¬ (IsIn from section) → Corresponds from to section section

renames_both : {from to : Key} (a b : List Content) {c d : List Content} → Renames from to a b
    → Renames from to c d
    → Renames from to (a ++ c) (b ++ d)
renames_both a b first spec.none = simp append-nil first
renames_both a b first (spec.renamed x section later is names) =
    simp (← append_assoc) (spec.renamed x section (renames_both a b first later) is names)
renames_both a b first (spec.kept x later other) =
    simp (← append_assoc) (spec.kept x (renames_both a b first later) other)

kept_contents : {from to : Key} {old new : Option Section} (part : Part) → ¬ (IsHeaderIn from part)
    → Corresponds from to old new
    → Renames from to (part_contents old part) (part_contents new part)
    × Corresponds from to (section_behind old part) (section_behind new part)
kept_contents (cut.header blanks section inner) other c = (spec.none, same other)
kept_contents {old = old} (cut.entry blanks key between value tail is_line) other (moved {new = new} is names) =
    (spec.renamed (old, key, value) new spec.none is names, moved is names)
kept_contents {old = old} (cut.entry blanks key between value tail is_line) other (same outside) =
    (spec.kept (old, key, value) spec.none outside, same outside)
kept_contents (cut.line tail is_line) other c = (spec.none, c)

renamed_nothing : {from to : Key} {parts : List Part} {new : List ℕ} → RenamesParts from to parts new
    → parts ≡ []
    → new ≡ []
renamed_nothing spec.none none = refl
renamed_nothing (spec.renamed blanks section inner is h) none = cc
renamed_nothing (spec.kept part other h) none = cc

pub renamed_reads : {from to : Key} {text new : List ℕ} {parts : List Part}
    → IsHeader (git_header to) to.section to.subsection → Cuts text parts → RenamesParts from to parts new
    → {old now : Option Section} → Corresponds from to old now
    → (later : List Part) × Cuts new later × Renames from to (contents_of old parts) (contents_of now later)
renamed_reads is cut.ends spec.none c = ([], cut.ends, spec.none)
renamed_reads is (cut.begins first is_part cuts) (spec.renamed {new = new} blanks section inner is_in h) c =
    let (inner_now, section_now, put_is, names, header_now) = is in
    let (later, more, renames) = renamed_reads is cuts h (moved is_in names) in (
      cut.header blanks section_now inner_now ∷ later,
      rw put_is (cut.begins (cut.header blanks section_now inner_now) (is_part.0, header_now new) more),
      renames,
    )
renamed_reads is (cut.begins {rest = rest} first is_part cuts) (spec.kept {new = new} part other h)
    {old = old} {now = now} c =
    let (contents, section) = kept_contents part other c in
    let (later, more, renames) = renamed_reads is cuts h section in
    let nothing : rest ≡ [] → new ≡ [] =
    λ none. renamed_nothing h (one_cut [] _ [] (rw none at cuts) cut.ends) in (
      part ∷ later,
      cut.begins part (part_moved part rest new is_part nothing) more,
      renames_both (part_contents old part) (part_contents now part) contents renames,
    )

-- the parts become one text
pub one_renaming : {from to : Key} {parts also : List Part} {a b : List ℕ} → RenamesParts from to parts a
    → RenamesParts from to also b → parts ≡ also → a ≡ b
one_renaming spec.none spec.none e = refl
one_renaming {to = to} (spec.renamed blanks section inner is h) (spec.renamed others next within so k) e =
    let same : blanks ≡ others = cc in
    let more = one_renaming h k (cc) in
    rw (same, more) refl
one_renaming (spec.renamed blanks section inner is h) (spec.kept part other k) e =
    let same : part ≡ cut.header blanks section inner = cc in absurd (other (rw same is))
one_renaming (spec.kept part other h) (spec.renamed blanks section inner is k) e =
    let same : part ≡ cut.header blanks section inner = cc in absurd (other (rw same is))
one_renaming (spec.kept part other h) (spec.kept also others k) e =
    let same : part ≡ also = cc in
    let more = one_renaming h k (cc) in
    rw (same, more) refl
one_renaming h k e = cc
