-- What follows of edits of sections: a text and names have one new text, and a refusal one reason.
use Rattle.std.proofs.Common.{◌≡◌, ◌≢◌, ℕ, false, ◌==◌, List, [], ◌∷◌, ◌++◌, Some, None}
use Rattle.std.proofs.Common.{refl, sym, ap, ◌∙◌, subst, inl, inr, ◌⊎◌, arith}
use Rattle.std.proofs.lemmas.Bool.Decides.{nat_tests}
use Rattle.config_edit.specs.declared.EditError.{EditError}
use Rattle.config_edit.specs.declared.EditError.TheVariants as error
use Rattle.config_file.specs.File.{after_mark}
use Rattle.config_file.specs.Key.{Key}
use Rattle.config_file.proofs.AddedEntries.{begins_no_mark, no_mark}
use Rattle.config_file.proofs.OneKey.{cut_same}
use Rattle.config_edit.proofs.Refused.{fileless, one_fault}
use Rattle.config_edit.specs.Cut as cut
use Rattle.config_edit.specs.Cut.{Part, Cuts, IsSplit, HasParts}
use Rattle.config_edit.specs.Sections.{RenamesParts, Clears, RenamesSection, RemovesSection, NamesSection}
use Rattle.config_edit.specs.Sections.{NoneIs, IsHeaderIn, LacksSection, RefusesRenaming, RefusesRemoval}
use Rattle.config_edit.specs.Edit.{HasOneReason, IsMemory}
use Rattle.config_edit.proofs.OnePart.{parts_once}
use Rattle.config_edit.proofs.PartsRead.{cuts_end}
use Rattle.config_edit.proofs.Renamed.{one_renaming}
use Rattle.config_edit.proofs.Cleared.{cleared_reads, one_clearing}

-- what a text becomes, of which parts have become these bytes
pub renamed_is : {old_name new_name old new mark right : List ℕ} {parts : List Part} (from to : Key)
    → NamesSection old_name from → NamesSection new_name to → old_name ≢ new_name
    → HasParts old mark parts → RenamesParts from to parts right
    → RenamesSection old_name new_name old new → new ≡ mark ++ right
renamed_is from to names names_to differ has renames (
  key,
  named,
  contents,
  file,
  mark,
  parts,
  parts_are,
  found,
  inl (equal, is),
) =
    absurd (differ equal)
renamed_is from to names names_to differ has renames (
  key,
  named,
  contents,
  file,
  mark,
  parts,
  parts_are,
  found,
  inr (unequal, next, named_to, now, file_now, moved, bytes, r, is),
) =
    let froms = cut_same named.cut names.cut in
    let tos = cut_same named_to.cut names_to.cut in
    let (marks, same) = parts_once parts_are has in
    let bytes_are = one_renaming (rw (froms, tos) at r) renames same in
    rw (is, marks, bytes_are) refl

name_kept : {old_name new_name old new : List ℕ} → RenamesSection old_name new_name old new
    → old_name ≡ new_name → new ≡ old
name_kept (key, named, contents, file, mark, parts, parts_are, found, inl (equal, is)) same = is
name_kept (key, named, contents, file, mark, parts, parts_are, found, inr how) same = absurd (how.0 same)

pub one_renamed : (old_name new_name old new other : List ℕ) → RenamesSection old_name new_name old new
    → RenamesSection old_name new_name old other → new ≡ other
one_renamed old_name new_name old new other renames
    (key, named, contents, file, mark, parts, has, found, inl (equal, is)) = name_kept renames equal ∙ sym is
one_renamed old_name new_name old new other renames (
  key,
  named,
  contents,
  file,
  mark,
  parts,
  has,
  found,
  inr (unequal, next, named_to, now, file_now, moved, bytes, r, is),
) =
    renamed_is key next named named_to unequal has r renames ∙ sym is

pub removed_is : (name : List ℕ) {old new mark right : List ℕ} {parts : List Part} (key : Key)
    → NamesSection name key
    → HasParts old mark parts → Clears key false parts right → RemovesSection name old new → new ≡ mark ++ right
removed_is name key names has clears (
  other,
  named,
  contents,
  file,
  now,
  file_now,
  without,
  mark,
  parts,
  parts_are,
  found,
  bytes,
  c,
  is,
) =
    let keys = cut_same named.cut names.cut in
    let (marks, same) = parts_once parts_are has in
    let bytes_are = one_clearing (rw keys at c) clears same refl in
    rw (is, marks, bytes_are) refl

pub one_removed : (name old new other : List ℕ) → RemovesSection name old new → RemovesSection name old other
    → new ≡ other
one_removed name old new other removes (
  key,
  named,
  contents,
  file,
  now,
  file_now,
  without,
  mark,
  parts,
  has,
  found,
  bytes,
  c,
  is,
) =
    removed_is name key named has c removes ∙ sym is

parts_unmarked : (bytes : List ℕ) {parts : List Part} → Cuts bytes parts → after_mark bytes ≡ None
parts_unmarked [] cuts = refl
parts_unmarked (b ∷ bytes) cuts =
    let (entries, reads, same) = cuts_end cuts None 0 in no_mark b bytes (begins_no_mark reads)

split_again : {text mark body : List ℕ} (bytes : List ℕ) → IsSplit text mark body → after_mark bytes ≡ None
    → IsSplit (mark ++ bytes) mark bytes
split_again bytes (cut.unmarked none) unmarked = cut.unmarked unmarked
split_again bytes (cut.marked is) unmarked = cut.marked refl

pub removed_is_gone : (name old new : List ℕ) → RemovesSection name old new → LacksSection name new
removed_is_gone name old new (
  key,
  named,
  contents,
  file,
  now,
  file_now,
  without,
  mark,
  parts,
  (body, split, cuts),
  found,
  bytes,
  c,
  is,
) =
    let (later, more, none, left) = cleared_reads cuts c None None (inr (refl, λ is. is)) in
    let again = split_again bytes split (parts_unmarked bytes more) in (
      now,
      file_now,
      λ other so. (
        mark,
        later,
        rw is (bytes, again, more),
        subst (λ k. NoneIs (IsHeaderIn k) later) (cut_same named.cut so.cut) none,
      ),
    )

-- one reason
pub one_removal_refusal : (name text : List ℕ) → HasOneReason (RefusesRemoval name text)
one_removal_refusal name text (error.Memory x) f first second = inl tt
one_removal_refusal name text e (error.Memory y) first second = inr (inl tt)
one_removal_refusal name text (error.File x) (error.File y) (entries, is) (others, so) =
    inr (inr (ap error.File (one_fault is so)))
one_removal_refusal name text (error.File x) error.Absent (entries, is) (contents, has, lacks) =
    absurd (fileless is has.1)
one_removal_refusal name text error.Absent (error.File x) (contents, has, lacks) (entries, is) =
    absurd (fileless is has.1)
one_removal_refusal name text error.Absent error.Absent first second = inr (inr refl)
one_removal_refusal name text (error.File x) f first second = absurd second
one_removal_refusal name text error.Absent f first second = absurd second
one_removal_refusal name text e f first second = absurd first

pub one_renaming_refusal : (old new text : List ℕ) → HasOneReason (RefusesRenaming old new text)
one_renaming_refusal old new text (error.Memory x) f first second = inl tt
one_renaming_refusal old new text e (error.Memory y) first second = inr (inl tt)
one_renaming_refusal old new text error.Section error.Section first second = inr (inr refl)
one_renaming_refusal old new text error.Section f lacks second = absurd (second.0 lacks)
one_renaming_refusal old new text e error.Section first lacks = absurd (first.0 lacks)
one_renaming_refusal old new text e f first second = one_removal_refusal old text e f first.1 second.1
