use Rattle.std.proofs.Common.{◌≡◌, ℕ, List, [], ◌∷◌, ◌++◌, Some, None, codes, length, refl, ap, arith, true}
use Rattle.std.proofs.Common.{inl, inr, get_or}
use Rattle.config_file.specs.Listing as listing
use Rattle.config_file.specs.Key.{Key, IsKey}
use Rattle.config_edit.specs.Cut as cut
use Rattle.config_edit.specs.Edit as spec
use Rattle.config_edit.specs.Edit.{Content, GivesValue, IsOf, ReplacesAll}
use Rattle.config_edit.proofs.OneEdit.{one_replaced}
use Rattle.config_edit.proofs.Literals.{as_git, at_comment, at_end, at_entry, at_top, becomes, comment_tail}
use Rattle.config_edit.proofs.Literals.{core, end, feed_tail}
use Rattle.config_edit.proofs.Literals.{has_other, has_value, plain_key, reads, replaces, same, top, valued}
use Rattle.config_edit.proofs.Literals.{ak, ak_is, gitproxy, gitproxy_is}
use Rattle.config_edit.proofs.laws.replaced_texts.Goals as goal

no : ⊥ → ⊥
no never = never

replaced : ReplacesAll (codes "a.k") (codes "2") (codes "# Do not touch\n[a]\nk =1 # me\n# x\n")
    (codes "# Do not touch\n[a]\nk =2 # me\n# x\n")
replaced =
    let old = codes "# Do not touch\n[a]\nk =1 # me\n# x\n" in
    let new = codes "# Do not touch\n[a]\nk =2 # me\n# x\n" in
    let x : Content = (Some (codes "a", None), codes "k", Some (codes "1 ")) in
    let is_of : IsOf ak x = (listing.plain, refl) in
    let part = valued [] (codes "k") (codes " ") (codes "1 ") (codes "# me\n") in
    let cuts = at_comment [] 35 (codes " Do not touch") refl refl refl (at_top (codes "a") (λ e. cc) refl (at_end (at_entry [] 107 [] (codes " ")
    (codes "1 ") (codes "# me\n") refl refl refl refl refl (inr refl)
    (comment_tail 35 (codes " me") _ refl refl)
    (at_comment [] 35 (codes " x") refl refl refl cut.ends)))) in
    let gives : GivesValue (codes "2") part (codes "k =2 # me\n") = (
      codes "2 ",
      inr (
        has_other (codes "1 ") (codes "2") refl refl,
        spec.in_place [] (codes " ") refl (core (codes "1") (λ e. cc) refl) refl (as_git (codes "2") refl),
      ),
      refl,
    ) in
    let front = same end no (same (top (codes "a")) no (same (cut.line (codes "# Do not touch\n") true) no cut.none)) in
    let each = same (cut.line (codes "# x\n") true) no (cut.next part (codes "k =2 # me\n") front (spec.gets is_of refl gives)) in (
      ak,
      ak_is,
      x ∷ [],
      reads old refl refl,
      inl (replaces [] [] [] x (codes "2 ") (reads new refl refl) is_of spec.none spec.none
          (has_value (codes "2 ") refl) (becomes {old = old} {new = new} refl cuts each)),
    )

pub returns-clause-commented : goal.returns-clause-commented
returns-clause-commented c = replaced

pub returns-clause-no_comment_changed : goal.returns-clause-no_comment_changed
returns-clause-no_comment_changed c = λ replaces.
    let sizes : ◌≡◌ {A = ℕ} 33 13 = ap (λ t. length t) (one_replaced _ _ _ _ _ replaced replaces) in omega arith

abbrev j : Content
j = (Some (codes "a", None), codes "j", Some (codes " 0"))

other : IsOf ak j → ⊥
other is = let never : ◌≡◌ {A = ℕ} 106 107 = ap (λ l. get_or l 0 0) is.1 in omega arith

pub returns-clause-several : goal.returns-clause-several
returns-clause-several c =
    let old = codes "[a]\n\tk = 1\n\tj = 0\n\tk = 2\n" in
    let new = codes "[a]\n\tj = 0\n\tk = 3\n" in
    let x : Content = (Some (codes "a", None), codes "k", Some (codes " 1")) in
    let y : Content = (Some (codes "a", None), codes "k", Some (codes " 2")) in
    let is_of : IsOf ak y = (listing.plain, refl) in
    let part = valued (codes "\t") (codes "k") (codes " ") (codes " 2") (codes "\n") in
    let cuts = at_top (codes "a") (λ e. cc) refl (at_end
    (at_entry (codes "\t") 107 [] (codes " ") (codes " 1") (codes "\n") refl refl refl refl refl (inl refl)
    (feed_tail _)
    (at_entry (codes "\t") 106 [] (codes " ") (codes " 0") (codes "\n") refl refl refl refl refl (inl refl)
    (feed_tail _)
    (at_entry (codes "\t") 107 [] (codes " ") (codes " 2") (codes "\n") refl refl refl refl refl (inl refl)
    (feed_tail []) cut.ends)))) in
    let gives : GivesValue (codes "3") part (codes "\tk = 3\n") = (
      codes " 3",
      inr (
        has_other (codes " 2") (codes "3") refl refl,
        spec.in_place (codes " ") [] refl (core (codes "2") (λ e. cc) refl) refl (as_git (codes "3") refl),
      ),
      refl,
    ) in
    let first = cut.next (valued (codes "\t") (codes "k") (codes " ") (codes " 1") (codes "\n")) [] (same end no (same (top (codes "a")) no cut.none))
    (spec.goes (listing.plain, refl) (omega arith) refl) in
    let each = cut.next part (codes "\tk = 3\n") (same (valued (codes "\t") (codes "j") (codes " ") (codes " 0") (codes "\n")) other first)
    (spec.gets is_of refl gives) in (
      ak,
      ak_is,
      x ∷ j ∷ y ∷ [],
      reads old refl refl,
      inl (replaces (x ∷ j ∷ []) (j ∷ []) [] y (codes " 3") (reads new refl refl) is_of spec.none
          (spec.kept j (spec.lost x spec.none (listing.plain, refl) tt) (λ is. other is.0))
          (has_value (codes " 3") refl) (becomes {old = old} {new = new} refl cuts each)),
    )

pub returns-clause-with_comment : goal.returns-clause-with_comment
returns-clause-with_comment c =
    let old = codes "[core]\n\tgitproxy=proxy-command for kernel.org\n\tgitproxy=default-proxy ; for all the rest\n" in
    let new = codes "[core]\n\tgitproxy=ssh ; for all the rest\n" in
    let x : Content = (Some (codes "core", None), codes "gitproxy", Some (codes "proxy-command for kernel.org")) in
    let y : Content = (Some (codes "core", None), codes "gitproxy", Some (codes "default-proxy ")) in
    let is_of : IsOf gitproxy y = (listing.plain, refl) in
    let part = valued (codes "\t") (codes "gitproxy") [] (codes "default-proxy ") (codes "; for all the rest\n") in
    let cuts = at_top (codes "core") (λ e. cc) refl (at_end
    (at_entry (codes "\t") 103 (codes "itproxy") [] (codes "proxy-command for kernel.org")
    (codes "\n") refl refl refl refl refl (inl refl) (feed_tail _)
    (at_entry (codes "\t") 103 (codes "itproxy") [] (codes "default-proxy ")
    (codes "; for all the rest\n") refl refl refl refl refl (inr refl)
    (comment_tail 59 (codes " for all the rest") [] refl refl) cut.ends))) in
    let gives : GivesValue (codes "ssh") part (codes "\tgitproxy=ssh ; for all the rest\n") = (
      codes "ssh ",
      inr (
        has_other (codes "default-proxy ") (codes "ssh") refl refl,
        spec.in_place [] (codes " ") refl (core (codes "default-proxy") (λ e. cc) refl) refl
            (as_git (codes "ssh") refl),
      ),
      refl,
    ) in
    let first = cut.next (valued (codes "\t") (codes "gitproxy") [] (codes "proxy-command for kernel.org") (codes "\n")) []
    (same end no (same (top (codes "core")) no cut.none))
    (spec.goes (listing.plain, refl) (omega arith) refl) in
    let each = cut.next part (codes "\tgitproxy=ssh ; for all the rest\n") first (spec.gets is_of refl gives) in (
      gitproxy,
      gitproxy_is,
      x ∷ y ∷ [],
      reads old refl refl,
      inl (replaces (x ∷ []) [] [] y (codes "ssh ") (reads new refl refl) is_of spec.none
          (spec.lost x spec.none (listing.plain, refl) tt) (has_value (codes "ssh ") refl)
          (becomes {old = old} {new = new} refl cuts each)),
    )
