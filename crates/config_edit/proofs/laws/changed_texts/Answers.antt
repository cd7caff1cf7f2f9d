use Rattle.std.proofs.Common.{◌≡◌, ◌≢◌, ℕ, true, false, Bool, List, [], ◌∷◌, ◌++◌, Option, Some, None, codes}
use Rattle.std.proofs.Common.{length, refl, ap, arith, inl, inr, sym, ◌∙◌, subst, not, ◌==◌, true≢false}
use Rattle.std.proofs.Common.{option_copied}
use Rattle.std.specs.List.{list_all}
use Rattle.std.proofs.lemmas.Bool.{and_parts}
use Rattle.std.proofs.lemmas.List.Folds.{list_all-append}
use Rattle.config_file.specs.Header.{Section}
use Rattle.config_file.specs.Value as value
use Rattle.config_edit.specs.Cut as cut
use Rattle.config_edit.specs.Cut.{EachBecomes, Part, entries_in, part_bytes}
use Rattle.config_edit.specs.Edit as spec
use Rattle.config_edit.specs.Edit.{ChangesEntries, ChangesEntry, ChangesPart, ChangesValueTo, Content, Has}
use Rattle.config_edit.specs.Edit.{IsChange, NamesPart, PutsComment}
use Rattle.config_edit.specs.declared.Change.{Change}
use Rattle.config_edit.proofs.Changed.{last_of}
use Rattle.config_edit.proofs.OneEdit.{one_changed}
use Rattle.config_edit.proofs.Literals.{as_git, at_end, at_entry, at_key, at_top, becomes, comment_tail, core}
use Rattle.config_edit.proofs.Literals.{end, feed_end, feed_tail}
use Rattle.config_edit.proofs.Literals.{has_other, has_value, reads, spelled, top, valued}
use Rattle.config_edit.proofs.laws.changed_texts.Goals as goal

no : ⊥ → ⊥
no never = never

stays : {changes : List Change} {before : List Part} {new : List ℕ} (part : Part)
    → ¬ (NamesPart changes before part)
    → EachBecomes (ChangesPart changes) before new
    → EachBecomes (ChangesPart changes) (before ++ part ∷ []) (new ++ part_bytes part)
stays part other each = cut.next part (part_bytes part) each (spec.stays other)

-- a change of the value alone
gets : (change : Change) (entry : ℕ) (v blanks key between tail bytes : List ℕ) (was : Option (List ℕ))
    (is_line : Bool)
    → IsChange change entry None (Some v) None → ChangesValueTo v between tail was bytes
    → ChangesEntry change (cut.entry blanks key between was tail is_line)
    (blanks ++ (key ++ (between ++ (bytes ++ tail))))
gets change entry v blanks key between tail bytes was is_line (at, name, value, comment) changes =
    (bytes, bytes ++ tail, rw value changes, rw comment refl, rw name refl)

value_changes : (change : Change) (v : List ℕ) (section : Option Section) (key raw : List ℕ)
    (was : Option (List ℕ)) (entry : ℕ)
    → IsChange change entry None (Some v) None → spec.HasValue (Some raw) v
    → spec.IsChanged change (section, key, was) (section, key, Some raw)
value_changes change v section key raw was entry (at, name, value, comment) has =
    (refl, rw name refl, rw value has)

commented : (change : Change) → IsChange change 0 None (Some (codes "2")) None
    → ChangesEntries (change ∷ []) (codes "[a]\nk=1# me\n") (codes "[a]\nk=2# me\n")
commented change is =
    let old = codes "[a]\nk=1# me\n" in
    let new = codes "[a]\nk=2# me\n" in
    let x : Content = (Some (codes "a", None), codes "k", Some (codes "1")) in
    let y : Content = (Some (codes "a", None), codes "k", Some (codes "2")) in
    let part = valued [] (codes "k") [] (codes "1") (codes "# me\n") in
    let cuts = at_top (codes "a") (λ e. cc) refl (at_end (at_entry [] 107 [] [] (codes "1") (codes "# me\n") refl refl refl refl refl (inr refl)
    (comment_tail 35 (codes " me") [] refl refl) cut.ends)) in
    let changes = gets change 0 (codes "2") [] (codes "k") (codes "=") (codes "# me\n") (codes "2") (Some (codes "1")) true is
    (inr (
      has_other (codes "1") (codes "2") refl refl,
      spec.in_place [] [] refl (core (codes "1") (λ e. cc) refl) refl (as_git (codes "2") refl),
    )) in
    let each = cut.next part (codes "k=2# me\n") (stays end no (stays (top (codes "a")) no cut.none))
    (spec.changed change ([], [], refl) is.0 changes) in
    let at = is.0 in (
      x ∷ [],
      reads old refl refl,
      (omega arith, omega arith, tt),
      y ∷ [],
      reads new refl refl,
      spec.changed change x y spec.none at
          (value_changes change (codes "2") (Some (codes "a", None)) (codes "k") (codes "2")
          (Some (codes "1")) 0 is (has_value (codes "2") refl)),
      becomes {old = old} {new = new} refl cuts each,
    )

pub returns-clause-commented : goal.returns-clause-commented
returns-clause-commented c = commented

pub returns-clause-no_comment_lost : goal.returns-clause-no_comment_lost
returns-clause-no_comment_lost c = λ change is changes.
    let sizes : ◌≡◌ {A = ℕ} 12 8 = ap (λ t. length t) (one_changed _ _ _ _ (commented change is) changes) in
    omega arith

pub returns-clause-key_alone : goal.returns-clause-key_alone
returns-clause-key_alone c = λ change is.
    let old = codes "[http]\n\tsslVerify\n" in
    let new = codes "[http]\n\tsslVerify = false\n" in
    let x : Content = (Some (codes "http", None), codes "sslVerify", None) in
    let y : Content = (Some (codes "http", None), codes "sslVerify", Some (codes " false")) in
    let part = cut.entry (codes "\t") (codes "sslVerify") [] None (codes "\n") true in
    let cuts = at_top (codes "http") (λ e. cc) refl (at_end (at_key (codes "\t") 115 (codes "slVerify") refl refl refl cut.ends)) in
    let changes = gets change 0 (codes "false") (codes "\t") (codes "sslVerify") [] (codes "\n") (codes " = false") None true is
    (inr (no, spec.behind_key (spec.wanted refl) (as_git (codes "false") refl))) in
    let each = cut.next part (codes "\tsslVerify = false\n") (stays end no (stays (top (codes "http")) no cut.none))
    (spec.changed change ([], [], refl) is.0 changes) in
    let at = is.0 in (
      x ∷ [],
      reads old refl refl,
      (omega arith, omega arith, tt),
      y ∷ [],
      reads new refl refl,
      spec.changed change x y spec.none at
          (value_changes change (codes "false") (Some (codes "http", None)) (codes "sslVerify")
          (codes " false") None 0 is (has_value (codes " false") refl)),
      becomes {old = old} {new = new} refl cuts each,
    )

-- a name, and a value with a comment
named : (change : Change) (v blanks key between tail : List ℕ) (was : Option (List ℕ)) (is_line : Bool)
    → IsChange change 0 (Some v) None None
    → ChangesEntry change (cut.entry blanks key between was tail is_line)
    (blanks ++ (v ++ (between ++ (cut.value_bytes was ++ tail))))
named change v blanks key between tail was is_line (at, name, value, comment) =
    (cut.value_bytes was, cut.value_bytes was ++ tail, rw value refl, rw comment refl, rw name refl)

valued_with : (change : Change) (v text blanks key between tail bytes after : List ℕ) (was : Option (List ℕ))
    (is_line : Bool)
    → IsChange change 1 None (Some v) (Some text) → ChangesValueTo v between tail was bytes
    → PutsComment text (cut.entry blanks key between was tail is_line) was bytes after
    → ChangesEntry change (cut.entry blanks key between was tail is_line)
    (blanks ++ (key ++ (between ++ after)))
valued_with change v text blanks key between tail bytes after was is_line (
  at,
  name,
  value,
  comment,
) changes puts =
    (bytes, after, rw value changes, rw comment puts, rw name refl)

no_hash : (blanks more : List ℕ) → codes "mine" ≡ blanks ++ 35 ∷ more → ⊥
no_hash blanks more e =
    let test : ℕ → Bool = λ b. not (b == 35) in
    let all : list_all test (blanks ++ 35 ∷ more) ≡ true = subst (λ t. list_all test t ≡ true) e refl in
    true≢false (sym (and_parts (list_all test blanks) (list_all test (35 ∷ more))
    (sym (list_all-append test blanks (35 ∷ more)) ∙ all)).1)

ends_in_c : (more : List ℕ) (b : ℕ) → codes " C" ≡ more ++ b ∷ [] → b ≡ 67
ends_in_c more b e = sym (last_of (codes " ") more 67 b e).1

pub returns-clause-several : goal.returns-clause-several
returns-clause-several c = λ first second is so.
    let old = codes "[user]\n\temial = A # me\n\tname = B\n" in
    let new = codes "[user]\n\temail = A # me\n\tname = C # mine\n" in
    let user : Option Section = Some (codes "user", None) in
    let x : Content = (user, codes "emial", Some (codes " A ")) in
    let y : Content = (user, codes "name", Some (codes " B")) in
    let z : Content = (user, codes "email", Some (codes " A ")) in
    let w : Content = (user, codes "name", Some (codes " C ")) in
    let emial = valued (codes "\t") (codes "emial") (codes " ") (codes " A ") (codes "# me\n") in
    let name = valued (codes "\t") (codes "name") (codes " ") (codes " B") (codes "\n") in
    let cuts = at_top (codes "user") (λ e. cc) refl (at_end
    (at_entry (codes "\t") 101 (codes "mial") (codes " ") (codes " A ")
    (codes "# me\n") refl refl refl refl refl (inr refl)
    (comment_tail 35 (codes " me") _ refl refl)
    (at_entry (codes "\t") 110 (codes "ame") (codes " ") (codes " B") (codes "\n") refl refl refl refl refl
    (inl refl) (feed_tail []) cut.ends))) in
    let puts : PutsComment (codes "mine") name (Some (codes " B")) (codes " C") (codes " C # mine\n") = record {
      core = codes " C";
      blanks = [];
      feed = [];
      written = codes " # mine";
      end = codes "\n";
      bytes_are = refl;
      are_blank = refl;
      ends_core = λ more b e. rw (ends_in_c more b e) refl;
      feeds = spec.closed (spelled [] [] (codes " C") refl);
      is_written = spec.plain (λ blanks more all e. no_hash blanks more e);
      is_end = feed_end (codes "\tname = ") 66 (omega arith);
      after_is = refl;
    } in
    let each = cut.next name (codes "\tname = C # mine\n")
    (cut.next emial (codes "\temail = A # me\n") (stays end no (stays (top (codes "user")) no cut.none))
    (spec.changed first ([], second ∷ [], refl) is.0
    (named first (codes "email") (codes "\t") (codes "emial") (codes " =") (codes "# me\n")
    (Some (codes " A ")) true is)))
    (spec.changed second (first ∷ [], [], refl) so.0
    (valued_with second (codes "C") (codes "mine") (codes "\t") (codes "name") (codes " =") (codes "\n")
    (codes " C") (codes " C # mine\n") (Some (codes " B")) true so
    (inr (
      has_other (codes " B") (codes "C") refl refl,
      spec.in_place (codes " ") [] refl (core (codes "B") (λ e. cc) refl) refl (as_git (codes "C") refl),
    ))
    puts)) in
    let at = is.0 in
    let then = so.0 in (
      x ∷ y ∷ [],
      reads old refl refl,
      (omega arith, omega arith, (omega arith, omega arith, tt)),
      z ∷ w ∷ [],
      reads new refl refl,
      spec.changed second y w (spec.changed first x z spec.none at (refl, rw (is.1) refl, rw (is.2) refl)) then
          (refl, rw (so.1) refl, rw (so.2) (has_value (codes " C ") refl)),
      becomes {old = old} {new = new} refl cuts each,
    )
