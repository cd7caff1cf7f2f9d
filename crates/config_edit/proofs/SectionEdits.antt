-- What edits of sections make of a text, with its mark or without.
use Rattle.std.proofs.Common.{◌≡◌, ◌≢◌, ℕ, true, false, List, [], ◌∷◌, ◌++◌, None, map}
use Rattle.std.proofs.Common.{refl, sym, subst, inl, inr}
use Rattle.config_edit.specs.declared.EditError.{EditError}
use Rattle.config_edit.specs.declared.EditError.TheVariants as error
use Rattle.config_file.specs.declared.key.KeyError.{KeyError}
use Rattle.config_file.specs.File.{Entry, IsFile}
use Rattle.config_file.specs.Key.{Key, IsKey, RefusesKey}
use Rattle.config_file.specs.Spelling.{HasNoHeader}
use Rattle.config_file.specs.Reading.Spellings.{is_section}
use Rattle.config_file.proofs.OneKey.{cut_same, not_both}
use Rattle.config_file.proofs.Commands.{never_without_header}
use Rattle.config_file.proofs.SpelledHeaders.{header_spelled}
use Rattle.config_edit.specs.Edit.{content}
use Rattle.config_edit.specs.Cut.{Part, Cuts, IsSplit}
use Rattle.config_edit.specs.Sections.{IsHeaderIn, NoneIs, RenamesParts, Clears, NamesSection, RenamesSection}
use Rattle.config_edit.specs.Sections.{RemovesSection}
use Rattle.config_edit.specs.Sections.{LacksSection, LacksHeader, RefusesRenaming, RefusesRemoval}
use Rattle.config_edit.specs.Reading.{RefusesName, RefusesText}
use Rattle.config_edit.proofs.Edits.{file_of, text_of}
use Rattle.config_edit.proofs.PartsRead.{contents_of, cuts_end}
use Rattle.config_edit.proofs.Renamed.{renamed_reads, same}
use Rattle.config_edit.proofs.Cleared.{cleared_reads}

-- a text that is no file
pub no_file_renamed : (old new text : List ℕ) (e : EditError) → ¬ (LacksHeader new) → RefusesText text e
    → RefusesRenaming old new text e
no_file_renamed old new text (error.File e) has refused = (has, refused)
no_file_renamed old new text e has refused = absurd refused

-- a section that has its name already
pub same_name : {text mark body old_name new_name edited : List ℕ} {parts : List Part} (from : Key)
    → IsSplit text mark body
    → NamesSection old_name from → Cuts body parts → ¬ (NoneIs (IsHeaderIn from) parts)
    → old_name ≡ new_name → edited ≡ text → RenamesSection old_name new_name text edited
same_name {mark = mark} {body = body} {parts = parts} from split names cuts found equal edited_is = (
  from,
  names,
  contents_of None parts,
  text_of split (cuts_end cuts None),
  mark,
  parts,
  (body, split, cuts),
  found,
  inl (equal, edited_is),
)

-- a section that gets another name
pub section_renamed : {text mark body new old_name new_name edited : List ℕ} {parts : List Part}
    (from to : Key) → IsSplit text mark body
    → NamesSection old_name from → NamesSection new_name to → is_section to.section to.subsection ≡ true
    → Cuts body parts → ¬ (NoneIs (IsHeaderIn from) parts) → RenamesParts from to parts new
    → old_name ≢ new_name → edited ≡ mark ++ new → RenamesSection old_name new_name text edited
section_renamed {mark = mark} {body = body} {new = new}
    {parts = parts} from to split names names_now is cuts found renames differ edited_is =
    let (later, more, contents) = renamed_reads (header_spelled to.section to.subsection is) cuts renames {old = None} {now = None} (same (λ none. none)) in
    rw edited_is (
      from,
      names,
      contents_of None parts,
      text_of split (cuts_end cuts None),
      mark,
      parts,
      (body, split, cuts),
      found,
      inr (
        differ,
        to,
        names_now,
        contents_of None later,
        file_of split (cuts_end more None),
        contents,
        new,
        renames,
        refl,
      ),
    )

-- a section that is left out
pub section_removed : {text mark body new edited : List ℕ} {parts : List Part} (name : List ℕ) (key : Key)
    → IsSplit text mark body
    → NamesSection name key → Cuts body parts → ¬ (NoneIs (IsHeaderIn key) parts) → Clears key false parts new
    → edited ≡ mark ++ new → RemovesSection name text edited
section_removed {mark = mark} {body = body} {new = new}
    {parts = parts} name key split names cuts found clears edited_is =
    let (later, more, none, without) = cleared_reads cuts clears None None (inr (refl, λ is. is)) in
    rw edited_is (
      key,
      names,
      contents_of None parts,
      text_of split (cuts_end cuts None),
      contents_of None later,
      file_of split (cuts_end more None),
      without,
      mark,
      parts,
      (body, split, cuts),
      found,
      new,
      clears,
      refl,
    )

-- a name of which no key is made names no section
names_nothing : (name : List ℕ) {text : List ℕ} {e : KeyError} {key : Key} → text ≡ name ++ 46 ∷ 120 ∷ []
    → RefusesKey text e → NamesSection name key → ⊥
names_nothing name text_is refused names = not_both (rw (← text_is) at names) refused

-- the text has no header of the section of the one key that has this name
pub lacks : {text mark body : List ℕ} {parts : List Part} (name : List ℕ) (key : Key) → IsSplit text mark body
    → NamesSection name key → Cuts body parts → NoneIs (IsHeaderIn key) parts → LacksSection name text
lacks {mark = mark} {body = body} {parts = parts} name key split names cuts nothing = (
  contents_of None parts,
  text_of split (cuts_end cuts None),
  λ other is. (mark, parts, (body, split, cuts), rw (cut_same names.cut is.cut) at nothing),
)

pub lacks_any : {text key_text : List ℕ} {e : KeyError} (name : List ℕ) (entries : List Entry)
    → IsFile text entries None → key_text ≡ name ++ 46 ∷ 120 ∷ [] → RefusesKey key_text e
    → LacksSection name text
lacks_any name entries is_file text_is refused =
    (map content entries, (entries, is_file, refl), λ k is. absurd (names_nothing name text_is refused is))

-- why a name has no header
pub lacks_header : {key_text : List ℕ} (name : List ℕ) (e : EditError) → key_text ≡ name ++ 46 ∷ 120 ∷ []
    → RefusesName key_text e → LacksHeader name
lacks_header name (error.Key e) text_is refused =
    λ key names. absurd (names_nothing name text_is refused names)
lacks_header name error.Section text_is (other, is, lacking) = λ key names.
    subst (λ k. HasNoHeader k.section k.subsection)
    (cut_same is.cut (subst (λ t. IsKey t key) (sym text_is) names).cut) lacking
lacks_header name e text_is refused = absurd refused

pub has_header : (name : List ℕ) (key : Key) → NamesSection name key
    → is_section key.section key.subsection ≡ true
    → ¬ (LacksHeader name)
has_header name key names is lacking = never_without_header key.section key.subsection is (lacking key names)
