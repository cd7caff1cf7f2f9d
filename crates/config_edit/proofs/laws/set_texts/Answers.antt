use Rattle.std.proofs.Common.{◌≡◌, ℕ, List, [], ◌∷◌, ◌++◌, Some, None, codes, length, refl, ap, arith, true}
use Rattle.std.proofs.Common.{inl, inr, get_or}
use Rattle.config_file.specs.Listing as listing
use Rattle.config_file.specs.Value as value
use Rattle.config_file.specs.Key.{Key, IsKey}
use Rattle.config_edit.specs.Cut as cut
use Rattle.config_edit.specs.Cut.{Cuts, Part}
use Rattle.config_edit.specs.Edit as spec
use Rattle.config_edit.specs.Edit.{Content, GivesValue, IsOf, Sets}
use Rattle.config_edit.proofs.OneEdit.{one_set}
use Rattle.config_edit.proofs.Literals.{as_git, at_comment, at_end, at_entry, at_top, becomes, comment_tail}
use Rattle.config_edit.proofs.Literals.{core, end, feed_tail}
use Rattle.config_edit.proofs.Literals.{has_other, has_value, plain_key, reads, replaces, same, top, valued}
use Rattle.config_edit.proofs.Literals.{ak, ak_is, plain_is}
use Rattle.config_edit.proofs.laws.set_texts.Goals as goal

no : ⊥ → ⊥
no never = never

set_empty : Sets (codes "a.k") (codes "2") (codes "[a]\nk =# me\n") (codes "[a]\nk = 2 # me\n")
set_empty =
    let x : Content = (Some (codes "a", None), codes "k", Some []) in
    let is_of : IsOf ak x = (listing.plain, refl) in
    let part = valued [] (codes "k") (codes " ") [] (codes "# me\n") in
    let cuts = at_top (codes "a") (λ e. cc) refl (at_end (at_entry [] 107 [] (codes " ") [] (codes "# me\n") refl refl refl refl refl (inr refl)
    (comment_tail 35 (codes " me") [] refl refl) cut.ends)) in
    let gives : GivesValue (codes "2") part (codes "k = 2 # me\n") = (
      codes " 2 ",
      inr (
        has_other [] (codes "2") refl refl,
        spec.in_blanks [] [] refl spec.none (spec.wanted (refl, λ e. cc))
            (as_git (codes "2") refl) (spec.wanted (refl, (35, codes " me\n", refl, refl))),
      ),
      refl,
    ) in
    let each = cut.next part (codes "k = 2 # me\n") (same end no (same (top (codes "a")) no cut.none)) (spec.gets is_of refl gives) in (
      ak,
      ak_is,
      x ∷ [],
      reads (codes "[a]\nk =# me\n") refl refl,
      inl (
        ([], [], x, refl, is_of, spec.none, spec.none),
        replaces [] [] [] x (codes " 2 ")
            (reads (codes "[a]\nk = 2 # me\n") refl refl) is_of spec.none spec.none
            (has_value (codes " 2 ") refl) (becomes {old = codes "[a]\nk =# me\n"}
            {new = codes "[a]\nk = 2 # me\n"} refl cuts each),
      ),
    )

pub returns-clause-empty : goal.returns-clause-empty
returns-clause-empty c = set_empty

pub returns-clause-no_comment_lost : goal.returns-clause-no_comment_lost
returns-clause-no_comment_lost c = λ sets.
    let sizes : ◌≡◌ {A = ℕ} 15 9 = ap (λ t. length t) (one_set _ _ _ _ _ set_empty sets) in omega arith

-- with lines below it
abbrev b : Content
b = (Some (codes "b", None), codes "l", Some (codes "3"))

other : IsOf ak b → ⊥
other is = let never : ◌≡◌ {A = ℕ} 108 107 = ap (λ l. get_or l 0 0) is.1 in omega arith

set_commented : Sets (codes "a.k") (codes "2") (codes "[a]\nk = 1 # me\n\n# About b\n[b]\nl=3\n")
    (codes "[a]\nk = 2 # me\n\n# About b\n[b]\nl=3\n")
set_commented =
    let old = codes "[a]\nk = 1 # me\n\n# About b\n[b]\nl=3\n" in
    let new = codes "[a]\nk = 2 # me\n\n# About b\n[b]\nl=3\n" in
    let x : Content = (Some (codes "a", None), codes "k", Some (codes " 1 ")) in
    let is_of : IsOf ak x = (listing.plain, refl) in
    let part = valued [] (codes "k") (codes " ") (codes " 1 ") (codes "# me\n") in
    let about = cut.line (codes "# About b\n") true in
    let later = valued [] (codes "l") [] (codes "3") (codes "\n") in
    let below = at_end (at_comment [] 35 (codes " About b") refl refl refl (at_top (codes "b") (λ e. cc) refl
    (at_end (at_entry [] 108 [] [] (codes "3") (codes "\n") refl refl refl refl refl (inl refl)
    (feed_tail []) cut.ends)))) in
    let cuts = at_top (codes "a") (λ e. cc) refl (at_end (at_entry [] 107 [] (codes " ") (codes " 1 ") (codes "# me\n") refl refl refl refl refl
    (inr refl) (comment_tail 35 (codes " me") _ refl refl) below)) in
    let gives : GivesValue (codes "2") part (codes "k = 2 # me\n") = (
      codes " 2 ",
      inr (
        has_other (codes " 1 ") (codes "2") refl refl,
        spec.in_place (codes " ") (codes " ") refl (core (codes "1") (λ e. cc) refl) refl
            (as_git (codes "2") refl),
      ),
      refl,
    ) in
    let front = cut.next part (codes "k = 2 # me\n") (same end no (same (top (codes "a")) no cut.none)) (spec.gets is_of refl gives) in
    let each = same later other (same end no (same (top (codes "b")) no (same about no (same end no front)))) in (
      ak,
      ak_is,
      x ∷ b ∷ [],
      reads old refl refl,
      inl (
        ([], b ∷ [], x, refl, is_of, spec.none, spec.kept b spec.none (λ is. other is.0)),
        replaces [] [] (b ∷ []) x (codes " 2 ") (reads new refl refl) is_of
            (spec.kept b spec.none (λ is. other is.0)) spec.none
            (has_value (codes " 2 ") refl) (becomes {old = old} {new = new} refl cuts each),
      ),
    )

pub returns-clause-commented : goal.returns-clause-commented
returns-clause-commented c = set_commented

pub returns-clause-no_lines_lost : goal.returns-clause-no_lines_lost
returns-clause-no_lines_lost c = λ sets.
    let sizes : ◌≡◌ {A = ℕ} 34 18 = ap (λ t. length t) (one_set _ _ _ _ _ set_commented sets) in omega arith

-- below a comment
abbrev filemode : Key
filemode = plain_key (codes "core") (codes "filemode")

filemode_is : IsKey (codes "core.filemode") filemode
filemode_is = plain_is (codes "core") (codes "filemode") refl refl refl refl refl

pub returns-clause-below_comment : goal.returns-clause-below_comment
returns-clause-below_comment c =
    let old = codes "[core]\n\t; Don't trust file modes\n\tfilemode = false\n" in
    let new = codes "[core]\n\t; Don't trust file modes\n\tfilemode = true\n" in
    let x : Content = (Some (codes "core", None), codes "filemode", Some (codes " false")) in
    let is_of : IsOf filemode x = (listing.plain, refl) in
    let part = valued (codes "\t") (codes "filemode") (codes " ") (codes " false") (codes "\n") in
    let cuts = at_top (codes "core") (λ e. cc) refl (at_end (at_comment (codes "\t") 59 (codes " Don't trust file modes") refl refl refl
    (at_entry (codes "\t") 102 (codes "ilemode") (codes " ") (codes " false")
    (codes "\n") refl refl refl refl refl (inl refl) (feed_tail [])
    cut.ends))) in
    let gives : GivesValue (codes "true") part (codes "\tfilemode = true\n") = (
      codes " true",
      inr (
        has_other (codes " false") (codes "true") refl refl,
        spec.in_place (codes " ") [] refl (core (codes "false") (λ e. cc) refl) refl
            (as_git (codes "true") refl),
      ),
      refl,
    ) in
    let front = same (cut.line (codes "\t; Don't trust file modes\n") true) no (same end no (same (top (codes "core")) no cut.none)) in
    let each = cut.next part (codes "\tfilemode = true\n") front (spec.gets is_of refl gives) in (
      filemode,
      filemode_is,
      x ∷ [],
      reads old refl refl,
      inl (
        ([], [], x, refl, is_of, spec.none, spec.none),
        replaces [] [] [] x (codes " true") (reads new refl refl) is_of spec.none spec.none
            (has_value (codes " true") refl) (becomes {old = old} {new = new} refl cuts each),
      ),
    )
