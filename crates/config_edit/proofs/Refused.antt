-- An edit is refused for one reason.
use Rattle.std.proofs.Common.{◌≡◌, ℕ, List, [], ◌∷◌, ◌++◌, Option, Some, None, refl, sym, ap, ◌∙◌, subst, inl}
use Rattle.std.proofs.Common.{inr, ◌⊎◌, map}
use Rattle.std.proofs.Common.{◌<◌, ◌≤◌, length, length-append, arith}
use Rattle.std.proofs.Common.{Result, Err}
use Rattle.config_file.specs.declared.errors.FileError.{FileError}
use Rattle.config_file.specs.declared.key.KeyError.{KeyError}
use Rattle.config_file.specs.File.{Entry, IsFile}
use Rattle.config_file.specs.Key.{Key, IsKey}
use Rattle.config_file.specs.Spelling.{HasNoHeader}
use Rattle.config_file.proofs.OneKey.{cut_same, not_both, one_answer}
use Rattle.config_file.proofs.OneReading.{one_reading}
use Rattle.config_edit.specs.declared.EditError.{EditError}
use Rattle.config_edit.specs.declared.EditError.TheVariants as error
use Rattle.std.proofs.Common.{option_copied}
use Rattle.std.specs.List.{AllByRecursion}
use Rattle.config_file.specs.declared.key.KeyError.TheVariants as key_error
use Rattle.config_file.specs.Spelling.{LacksSpelling}
use Rattle.config_edit.specs.declared.Change.{Change}
use Rattle.config_edit.specs.Edit.{CanBeMade, LacksName, RefusesChanges, RefusesLastPart, RefusesOneChange}
use Rattle.config_edit.specs.Edit.{RefusesOneOf}
use Rattle.config_edit.proofs.OneEdit.{prefixes}
use Rattle.config_edit.proofs.PartsRead.{all_front}
use Rattle.config_edit.specs.Edit as spec
use Rattle.config_edit.specs.Edit.{Content, content, HasContents, IsOf, RefusesEdit, IsMemory, Without}
use Rattle.config_edit.specs.Edit.{HasSeveral, HasNone}
use Rattle.config_edit.proofs.OnePart.{contents_once, lost_one}

headless : {name : List ℕ} {a b : Key} → IsKey name a → HasNoHeader a.section a.subsection → IsKey name b
    → ¬ (HasNoHeader b.section b.subsection) → ⊥
headless is lacks so has = has (subst (λ k. HasNoHeader k.section k.subsection) (cut_same is.cut so.cut) lacks)

some_error : {a b : FileError} → Some a ≡ Some b → a ≡ b
some_error e = cc

err_same : {a b : KeyError} → ◌≡◌ {A = Result Key KeyError} (Err a) (Err b) → a ≡ b
err_same e = cc

pub one_fault : {text : List ℕ} {entries others : List Entry} {a b : FileError} → IsFile text entries (Some a)
    → IsFile text others (Some b) → a ≡ b
one_fault first second = some_error (one_reading _ _ _ _ _ first second).1

pub fileless : {text : List ℕ} {entries others : List Entry} {a : FileError} → IsFile text entries (Some a)
    → IsFile text others None → ⊥
fileless first second = let e = (one_reading _ _ _ _ _ first second).1 in cc

pub none_of_several : (key : Key) (contents : List Content) → HasSeveral key contents → HasNone key contents → ⊥
none_of_several key contents (before, between, after, x, y, e, is, so) none =
    let less = lost_one before (between ++ y ∷ after) x none e is in absurd (omega arith)

module _ (S A : Key → List Content → Type 0) (name text : List ℕ) (value : Option (List ℕ))
    (apart : (key : Key) (contents : List Content) → S key contents → ¬ (A key contents)) where
  both : RefusesEdit S A name value text error.Several → RefusesEdit S A name value text error.Absent → ⊥
  both (key, (is, has, spelled), contents, are, several) (
    other,
    (so, has_too, spelled_too),
    others,
    also,
    absent,
  ) =
      let same = cut_same is.cut so.cut in
      let whole = contents_once are also in
      apart other others (rw (same, whole) at several) absent

  pub refused_once : (e f : EditError) → RefusesEdit S A name value text e → RefusesEdit S A name value text f
      → IsMemory e ⊎ IsMemory f ⊎ (e ≡ f)
  refused_once (error.Memory m) f r s = inl tt
  refused_once e (error.Memory m) r s = inr (inl tt)
  refused_once error.Comment f r s = absurd r
  refused_once e error.Comment r s = absurd s
  refused_once (error.Key a) (error.Key b) r s =
      inr (inr (ap error.Key (err_same (one_answer name (Err a) (Err b) r s))))
  refused_once (error.Key a) error.Section r s = absurd (not_both s.1 r)
  refused_once (error.Key a) error.Value r s = absurd (not_both s.1 r)
  refused_once (error.Key a) (error.File b) r s = absurd (not_both s.1.0 r)
  refused_once (error.Key a) error.Several r s = absurd (not_both s.1.0 r)
  refused_once (error.Key a) error.Absent r s = absurd (not_both s.1.0 r)
  refused_once error.Section (error.Key b) r s = absurd (not_both r.1 s)
  refused_once error.Section error.Section r s = inr (inr refl)
  refused_once error.Section error.Value r s = absurd (headless r.1 r.2 s.1 s.2)
  refused_once error.Section (error.File b) r s = absurd (headless r.1 r.2 s.1.0 s.1.1)
  refused_once error.Section error.Several r s = absurd (headless r.1 r.2 s.1.0 s.1.1)
  refused_once error.Section error.Absent r s = absurd (headless r.1 r.2 s.1.0 s.1.1)
  refused_once error.Value (error.Key b) r s = absurd (not_both r.1 s)
  refused_once error.Value error.Section r s = absurd (headless s.1 s.2 r.1 r.2)
  refused_once error.Value error.Value r s = inr (inr refl)
  refused_once error.Value (error.File b) r s = absurd (s.1.2 r.3)
  refused_once error.Value error.Several r s = absurd (s.1.2 r.3)
  refused_once error.Value error.Absent r s = absurd (s.1.2 r.3)
  refused_once (error.File a) (error.Key b) r s = absurd (not_both r.1.0 s)
  refused_once (error.File a) error.Section r s = absurd (headless s.1 s.2 r.1.0 r.1.1)
  refused_once (error.File a) error.Value r s = absurd (r.1.2 s.3)
  refused_once (error.File a) (error.File b) r s = inr (inr (ap error.File (one_fault r.3 s.3)))
  refused_once (error.File a) error.Several r s = absurd (fileless r.3 s.3.1)
  refused_once (error.File a) error.Absent r s = absurd (fileless r.3 s.3.1)
  refused_once error.Several (error.Key b) r s = absurd (not_both r.1.0 s)
  refused_once error.Several error.Section r s = absurd (headless s.1 s.2 r.1.0 r.1.1)
  refused_once error.Several error.Value r s = absurd (r.1.2 s.3)
  refused_once error.Several (error.File b) r s = absurd (fileless s.3 r.3.1)
  refused_once error.Several error.Several r s = inr (inr refl)
  refused_once error.Several error.Absent r s = absurd (both r s)
  refused_once error.Absent (error.Key b) r s = absurd (not_both r.1.0 s)
  refused_once error.Absent error.Section r s = absurd (headless s.1 s.2 r.1.0 r.1.1)
  refused_once error.Absent error.Value r s = absurd (r.1.2 s.3)
  refused_once error.Absent (error.File b) r s = absurd (fileless s.3 r.3.1)
  refused_once error.Absent error.Several r s = absurd (both s r)
  refused_once error.Absent error.Absent r s = inr (inr refl)

-- changes of entries
no_name : (e : KeyError) → RefusesLastPart (Some []) e → e ≡ key_error.NoName
no_name key_error.NoName r = refl
no_name e r = absurd r

bad_byte : (b : ℕ) (more : List ℕ) (e : KeyError) → RefusesLastPart (Some (b ∷ more)) e → e ≡ key_error.BadByte
bad_byte b more key_error.BadByte r = refl
bad_byte b more e r = absurd r

part_refused_once : (name : Option (List ℕ)) (e f : KeyError) → RefusesLastPart name e
    → RefusesLastPart name f → e ≡ f
part_refused_once None e f r s = absurd r
part_refused_once (Some []) e f r s = no_name e r ∙ sym (no_name f s)
part_refused_once (Some (b ∷ more)) e f r s = bad_byte b more e r ∙ sym (bad_byte b more f s)

-- a change is refused by its name, its value or its comment
data Why (change : Change) : EditError → Type 0 where
  name : (e : KeyError) → RefusesLastPart (option_copied change.name) e → Why change (error.Key e)
  value : ¬ (LacksName change) → LacksSpelling (option_copied change.value) → Why change error.Value
  comment : ¬ (LacksName change) → ¬ (LacksSpelling (option_copied change.value)) → Why change error.Comment

why : (change : Change) (e : EditError) → RefusesOneChange change e → Why change e
why change (error.Key e) r = name e r
why change error.Value (named, lacks) = value named lacks
why change error.Comment (named, spelled, refuses) = comment named spelled
why change e r = absurd r

change_refused_once : (change : Change) {e f : EditError} → Why change e → Why change f → e ≡ f
change_refused_once change (name e r) (name f s) =
    ap error.Key (part_refused_once (option_copied change.name) e f r s)
change_refused_once change (name e r) (value named lacks) = absurd (named (e, r))
change_refused_once change (name e r) (comment named spelled) = absurd (named (e, r))
change_refused_once change (value named lacks) (name f s) = absurd (named (f, s))
change_refused_once change (value named lacks) (value named_too lacks_too) = refl
change_refused_once change (value named lacks) (comment named_too spelled) = absurd (spelled lacks)
change_refused_once change (comment named spelled) (name f s) = absurd (named (f, s))
change_refused_once change (comment named spelled) (value named_too lacks) = absurd (spelled lacks)
change_refused_once change (comment named spelled) (comment named_too spelled_too) = refl

not_made : (changes : List Change) (e : EditError) → AllByRecursion CanBeMade changes → RefusesOneOf changes e
    → ⊥
not_made changes e all (before, after, change, is, first, refuses) =
    (all_front CanBeMade before (change ∷ after) (rw is at all)).1.0 e refuses

first_same : (change other : Change) (after mid left : List Change) (e f : EditError)
    → change ∷ after ≡ mid ++ other ∷ left
    → AllByRecursion CanBeMade mid → RefusesOneChange change e → RefusesOneChange other f → e ≡ f
first_same change other after [] left e f is all r s =
    let same : other ≡ change = cc in change_refused_once change (why change e r) (why change f (rw same at s))
first_same change other after (m ∷ mid) left e f is all r s = let same : m ≡ change = cc in
    absurd ((rw same at all).0 e r)

one_of_once : (changes : List Change) (e f : EditError) → RefusesOneOf changes e → RefusesOneOf changes f
    → e ≡ f
one_of_once changes e f (before, after, change, is, all, r) (also, left, other, so, all_too, s) =
    elim (prefixes before (change ∷ after) also (other ∷ left) (sym is ∙ so)) [
      | inl (mid, longer, rest) ↦
          first_same change other after mid left e f rest
          (all_front CanBeMade before mid (rw longer at all_too)).1 r s
      | inr (mid, longer, rest) ↦
          sym (first_same other change left mid after f e rest
          (all_front CanBeMade also mid (rw longer at all)).1 s r)
    ]

-- the text is refused
abbrev IsText : List ℕ → EditError → Type 0
IsText text e = ((fault : FileError) × (e ≡ error.File fault) × (entries : List Entry)
    × IsFile text entries (Some fault))
    ⊎ ((e ≡ error.Absent) × (contents : List Content) × HasContents text contents)

text_once : (text : List ℕ) (e f : EditError) → IsText text e → IsText text f → e ≡ f
text_once text e f (inl (a, is, entries, file)) (inl (b, so, others, also)) =
    is ∙ ap error.File (one_fault file also) ∙ sym so
text_once text e f (inl (a, is, entries, file)) (inr (so, contents, has)) = absurd (fileless file has.1)
text_once text e f (inr (is, contents, has)) (inl (b, so, others, also)) = absurd (fileless also has.1)
text_once text e f (inr (is, contents, has)) (inr (so, others, also)) = is ∙ sym so

sorted : (changes : List Change) (text : List ℕ) (e : EditError) → RefusesChanges changes text e
    → IsMemory e ⊎ RefusesOneOf changes e ⊎ (AllByRecursion CanBeMade changes × IsText text e)
sorted changes text (error.Memory m) r = inl tt
sorted changes text (error.File fault) (all, entries, file) = inr (inr (all, inl (fault, refl, entries, file)))
sorted changes text error.Absent (all, contents, has, unordered) = inr (inr (all, inr (refl, contents, has)))
sorted changes text e r = inr (inl r)

pub changes_refused_once : (changes : List Change) (text : List ℕ) (e f : EditError)
    → RefusesChanges changes text e
    → RefusesChanges changes text f → IsMemory e ⊎ IsMemory f ⊎ (e ≡ f)
changes_refused_once changes text e f r s = elim (sorted changes text e r) [
  | inl memory ↦ inl memory
  | inr (inl one) ↦ elim (sorted changes text f s) [
    | inl memory ↦ inr (inl memory)
    | inr (inl other) ↦ inr (inr (one_of_once changes e f one other))
    | inr (inr (all, is)) ↦ absurd (not_made changes e all one)
  ]
  | inr (inr (all, is)) ↦ elim (sorted changes text f s) [
    | inl memory ↦ inr (inl memory)
    | inr (inl other) ↦ absurd (not_made changes f all other)
    | inr (inr (all_too, so)) ↦ inr (inr (text_once text e f is so))
  ]
]
