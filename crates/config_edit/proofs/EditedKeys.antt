-- What edits make of a text, with its mark or without.
use Rattle.std.proofs.Common.{◌≡◌, ℕ, Bool, true, false, List, [], ◌∷◌, ◌++◌, Option, None, map, refl, sym}
use Rattle.std.proofs.Common.{ap, ◌∙◌}
use Rattle.std.proofs.Common.{subst, append_assoc, inl, inr}
use Rattle.config_edit.specs.declared.Change.{Change}
use Rattle.config_file.specs.File.{Entry, IsFile}
use Rattle.config_edit.specs.declared.EditError.{EditError}
use Rattle.config_edit.specs.declared.EditError.TheVariants as error
use Rattle.config_file.specs.declared.key.KeyError.{KeyError}
use Rattle.config_file.specs.Key.{Key, IsKey, RefusesKey}
use Rattle.config_file.specs.Spelling.{HasNoHeader, HasNoSpelling}
use Rattle.config_file.specs.Reading.Spellings.{is_section, is_spellable}
use Rattle.config_file.proofs.SpelledHeaders.{header_spelled}
use Rattle.config_file.proofs.Spellings.{git_spelling}
use Rattle.config_edit.specs.Edit.{CanBeWritten}
use Rattle.config_file.specs.Header.{Section}
use Rattle.config_edit.specs.Edit.{Content, content, HasContents, LacksName, CanBeMade}
use Rattle.std.specs.List.{AllByRecursion}
use Rattle.config_edit.specs.Cut.{BecomesParts}
use Rattle.config_edit.specs.Edit.{RefusesChanges, PutsLine, ChangesPart, ChangesKey, ReplacesKey, AddsKey}
use Rattle.config_edit.specs.Edit.{RefusesLastPart, RefusesComment, RefusesOneChange}
use Rattle.config_file.specs.declared.key.KeyError.TheVariants as key_error
use Rattle.config_file.specs.Spelling.{LacksSpelling, git_spelled}
use Rattle.std.proofs.Common.{true≢false, append-nil, take, drop, option_copied, Some, ◌+◌}
use Rattle.std.proofs.lemmas.List.{append_cancel_right, take-append-drop}
use Rattle.config_edit.specs.Reading.{IsWritable, IsWritableName, IsWritableValue, IsWritableComment}
use Rattle.config_edit.specs.Edit.{ChangesEntries}
use Rattle.config_edit.specs.Reading.{IsReplaced, IsAdded, IsEachChanged, Ends}
use Rattle.config_edit.specs.Cut.{IsSplit}
use Rattle.config_edit.specs.Reading.{RefusesText}
use Rattle.config_edit.proofs.Edits.{file_of, text_of, body_ends}

-- what holds of a key and of the contents of a text, behind its mark or without
pub edit : {P : Key → List Content → Type 0} {name text mark body : List ℕ} {key : Key}
    {contents : List Content}
    → IsKey name key → IsSplit text mark body → Ends None body contents → P key contents
    → (k : Key) × IsKey name k × (all : List Content) × HasContents text all × P k all
edit {key = key} {contents = contents} is split ends made = (key, is, contents, text_of split ends, made)

pub edit_file : {P : Key → List Content → Type 0} {name text mark body : List ℕ} {key : Key}
    → IsKey name key → IsSplit text mark body → (entries : List Entry) × IsFile text entries None
    → ((contents : List Content) → Ends None body contents → P key contents)
    → (k : Key) × IsKey name k × (all : List Content) × HasContents text all × P k all
edit_file is split (entries, is_file) made =
    let ends = body_ends is_file split in edit is split ends (made (map content entries) ends)

-- what refuses an edit whose key and value can be written
pub refuses : {P : Key → List Content → Type 0} {name text mark body : List ℕ} {key : Key}
    {contents : List Content} (value : Option (List ℕ))
    → CanBeWritten name value key → IsSplit text mark body → Ends None body contents → P key contents
    → (k : Key) × (CanBeWritten name value k) × (all : List Content) × HasContents text all × P k all
refuses {key = key} {contents = contents} value can split ends why =
    (key, can, contents, text_of split ends, why)

pub refuses_file : {P : Key → List Content
    → Type 0} {name text mark body : List ℕ} {key : Key} (value : Option (List ℕ))
    → CanBeWritten name value key → IsSplit text mark body → (entries : List Entry) × IsFile text entries None
    → ((contents : List Content) → Ends None body contents → P key contents)
    → (k : Key) × (CanBeWritten name value k) × (all : List Content) × HasContents text all × P k all
refuses_file value can split (entries, is_file) why =
    let ends = body_ends is_file split in refuses value can split ends (why (map content entries) ends)

-- a value that can be written has a spelling
pub has_spelling : (value : List ℕ) → is_spellable value ≡ true → ¬ (HasNoSpelling value)
has_spelling value all lacks = lacks _ (git_spelling value all).0

pub replaced_key : {key : Key} {value text mark body new edited : List ℕ} {contents : List Content}
    {several : Bool}
    → IsSplit text mark body → IsReplaced key value body contents new several
    → edited ≡ mark ++ new → ReplacesKey key value text contents edited
replaced_key {mark = mark} {body = body} {new = new} split r e =
    (r.now, rw e (file_of split r.ends), r.replaces, (mark, r.parts, new, (body, split, r.cuts), r.becomes, e))

pub changed_key : {key : Key} {value text mark body new edited : List ℕ} {contents : List Content}
    {several : Bool}
    → IsSplit text mark body → IsReplaced key value body contents new several → several ≡ false
    → edited ≡ mark ++ new → ChangesKey key value text contents edited
changed_key split r one e = (r.single one, replaced_key split r e)

pub added_key : {key : Key} {value text mark body new edited : List ℕ} {contents : List Content}
    → IsSplit text mark body → IsAdded key value body contents new
    → edited ≡ mark ++ new → AddsKey key value text contents edited
added_key {key = key} {value = value} {text = text} {mark = mark} {body = body} {edited = edited} split r e =
    let b = r.bytes in
    let puts : PutsLine key value text edited =
    record {
      mark = mark;
      front = b.front;
      back = b.back;
      feed = b.feed;
      ends = b.ends;
      header = b.header;
      headed = b.headed;
      spelling = b.spelling;
      has_parts = (body, split, b.cuts);
      is_feed = b.is_feed;
      are_ends = b.are_ends;
      is_place = b.is_place;
      spells = b.spells;
      new_is = e ∙ ap (λ n. mark ++ n) b.new_is;
    } in
    (r.now, rw e (file_of split r.ends), r.adds, puts)

pub changed_entries : {changes : List Change} {text mark body new edited : List ℕ} {contents : List Content}
    → IsSplit text mark body → Ends None body contents → IsEachChanged changes body contents new
    → edited ≡ mark ++ new → ChangesEntries changes text edited
changed_entries {changes = changes} {text = text} {mark = mark} {body = body} {new = new} {edited = edited}
    {contents = contents} split ends r e =
    let becomes : BecomesParts (ChangesPart changes) text edited = (mark, r.parts, new, (body, split, r.cuts), r.becomes, e) in
    (contents, text_of split ends, r.ordered, r.now, rw e (file_of split r.ends), r.each, becomes)

-- changes that can be written
name_fits : (name : Option (List ℕ)) (e : KeyError) → IsWritableName name → RefusesLastPart name e → ⊥
name_fits None e is refuses = absurd refuses
name_fits (Some []) e is refuses = true≢false (sym is)
name_fits (Some (b ∷ more)) key_error.BadByte is refuses = true≢false (sym is ∙ refuses)
name_fits (Some (b ∷ more)) e is refuses = absurd refuses

pub value_fits : (value : Option (List ℕ)) → IsWritableValue value → ¬ (LacksSpelling value)
value_fits None is lacks = absurd lacks
value_fits (Some value) is lacks = has_spelling value is lacks

comment_fits : (value comment : Option (List ℕ)) → IsWritableComment value comment
    → ¬ (RefusesComment value comment)
comment_fits value None is refuses = absurd refuses
comment_fits None (Some comment) is refuses = absurd is
comment_fits (Some value) (Some comment) is refuses = true≢false (sym is ∙ refuses)

pub has_name : (change : Change) → IsWritableName (option_copied change.name) → ¬ (LacksName change)
has_name change is (e, refuses) = name_fits (option_copied change.name) e is refuses

written : (change : Change) (e : EditError) → IsWritable change → RefusesOneChange change e → ⊥
written change (error.Key e) (name, value, comment) refuses =
    name_fits (option_copied change.name) e name refuses
written change error.Value (name, value, comment) (named, lacks) =
    value_fits (option_copied change.value) value lacks
written change error.Comment (name, value, comment) (named, spelled, refuses) =
    comment_fits (option_copied change.value) (option_copied change.comment) comment refuses
written change e is refuses = absurd refuses

pub all_written : (changes : List Change) → AllByRecursion IsWritable changes → AllByRecursion CanBeMade changes
all_written [] is = tt
all_written (change ∷ changes) (first, more) =
    (λ e refuses. written change e first refuses, all_written changes more)

pub take_more : {A : Type 0} (n : ℕ) (xs : List A) (x : A) → drop n xs ≡ x ∷ drop (n + 1) xs
    → take (n + 1) xs ≡ take n xs ++ x ∷ []
take_more n xs x is =
    append_cancel_right (take (n + 1) xs) (take n xs ++ x ∷ []) (drop (n + 1) xs)
    (take-append-drop (n + 1) xs ∙ sym (take-append-drop n xs) ∙ ap (λ d. take n xs ++ d) is
    ∙ sym (append_assoc (take n xs) (x ∷ []) (drop (n + 1) xs)))

pub take_all : {A : Type 0} (n : ℕ) (xs : List A) → drop n xs ≡ [] → take n xs ≡ xs
take_all n xs none = sym (append-nil (take n xs)) ∙ ap (λ d. take n xs ++ d) (sym none) ∙ take-append-drop n xs

-- why changes are refused
pub change_refused : (changes : List Change) (text : List ℕ) (e : EditError)
    → AllByRecursion CanBeMade changes → RefusesText text e
    → RefusesChanges changes text e
change_refused changes text (error.File e) all (entries, is) = (all, entries, is)
change_refused changes text e all refuses = absurd refuses

pub comment_refused : (change : Change) (e : EditError) → ¬ (LacksName change)
    → ¬ (LacksSpelling (option_copied change.value))
    → e ≡ error.Comment → RefusesComment (option_copied change.value) (option_copied change.comment)
    → RefusesOneChange change e
comment_refused change e named spelled is refuses = rw is (named, spelled, refuses)
