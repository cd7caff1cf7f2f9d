use Rattle.std.proofs.Common.{rules, sym, ◌∙◌, [], ◌∷◌, refl, inl, inr}
use Rattle.config_edit.proofs.Pieces.{tail_of, no_comment_before}
use Rattle.config_edit.proofs.piece.read_tail.Goals as goal

pub returns-in-Some-eq10-default-clause-tail : goal.returns-in-Some-eq10-default-clause-tail
returns-in-Some-eq10-default-clause-tail c =
    let a = c.after_comment-has_comment in
    let (comment, cut, is, some) = a.ensures.cut in
    let (tail, whole, t, comment_is) = tail_of (10 ∷ []) c.run.ensures cut is (search rules) (inl (refl, refl)) in (
      tail,
      whole,
      t,
      λ none. comment_is ∙ no_comment_before comment cut (a.ensures.none none).1,
      λ has none.
          some has (sym comment_is ∙ none),
    )

pub returns-in-None-clause-tail : goal.returns-in-None-clause-tail
returns-in-None-clause-tail c =
    let a = c.after_comment-has_comment in
    let (comment, cut, is, some) = a.ensures.cut in
    let (tail, whole, t, comment_is) = tail_of [] c.run.ensures cut is refl (inr (refl, search rules, refl)) in (
      tail,
      whole,
      t,
      λ none. comment_is ∙ no_comment_before comment cut (a.ensures.none none).1,
      λ has none.
          some has (sym comment_is ∙ none),
    )
