-- What is determined of parts of texts: their line ends, their marks and their contents.
use Rattle.std.proofs.Common.{◌≡◌, ℕ, ◌+◌, ◌<◌, ◌≤◌, Bool, true, false, List, [], ◌∷◌, ◌++◌, Option, Some}
use Rattle.std.proofs.Common.{None, length, map}
use Rattle.std.proofs.Common.{refl, sym, ap, ◌∙◌, subst, append_assoc, arith, inl, inr, true≢false}
use Rattle.std.proofs.lemmas.List.{length-append}
use Rattle.config_file.specs.Key.{Key}
use Rattle.config_file.proofs.OneReading.{one_reading}
use Rattle.config_edit.specs.Cut as cut
use Rattle.config_edit.specs.Cut.{Part, Cuts, IsSplit, HasParts}
use Rattle.config_edit.specs.Edit as spec
use Rattle.config_edit.specs.Edit.{content, Content, HasContents, IsEndOfLine, IsFeedAt, IsOf, LeavesEnd}
use Rattle.config_edit.specs.Edit.{Without}
use Rattle.config_edit.specs.Reading.{IsEnd, IsLineEnd}
use Rattle.config_edit.proofs.Cuts.{one_cut}
use Rattle.config_edit.proofs.Changed.{some_last, last_of}

pub line_end_once : {bytes also a b : List ℕ} {l m : Bool} → IsEndOfLine bytes l a → IsEndOfLine also m b
    → bytes ≡ also → l ≡ m
    → a ≡ b
line_end_once spec.unended spec.unended e f = refl
line_end_once spec.unended (spec.feed other) e f = absurd (cc)
line_end_once spec.unended (spec.return_feed front) e f = absurd (cc)
line_end_once (spec.feed other) spec.unended e f = absurd (cc)
line_end_once (spec.feed other) (spec.feed also) e f = refl
line_end_once (spec.feed other) (spec.return_feed front) e f = absurd (other front e)
line_end_once (spec.return_feed front) spec.unended e f = absurd (cc)
line_end_once (spec.return_feed front) (spec.feed other) e f = absurd (other front (sym e))
line_end_once (spec.return_feed front) (spec.return_feed back) e f = refl

pub end_once : {a b : List ℕ} (in_line : Bool) (bytes : List ℕ) (l : Bool) → LeavesEnd in_line bytes l a
    → LeavesEnd in_line bytes l b → a ≡ b
end_once true bytes l first second = line_end_once first second refl refl
end_once false bytes l first second = first ∙ sym second

-- the line end that stays is one, or nothing
end_is_end : {bytes end : List ℕ} {is_line : Bool} → IsEndOfLine bytes is_line end → IsEnd end
end_is_end spec.unended = inl refl
end_is_end (spec.feed other) = inr (inl refl)
end_is_end (spec.return_feed front) = inr (inr refl)

pub left_is_end : (stays : Bool) (bytes end : List ℕ) (is_line : Bool) → LeavesEnd stays bytes is_line end
    → IsEnd end
left_is_end true bytes end is_line is = end_is_end is
left_is_end false bytes end is_line is = inl is

pub line_end_of : {bytes end : List ℕ} {is_line : Bool} → IsEndOfLine bytes is_line end → is_line ≡ true
    → IsLineEnd end
line_end_of spec.unended is = absurd (true≢false (sym is))
line_end_of (spec.feed none) is = inl refl
line_end_of (spec.return_feed front) is = inr refl

pub feed_is_end : {front text feed : List ℕ} → IsFeedAt front text feed → IsLineEnd feed
feed_is_end (spec.of_front (front, back, is, none, end)) = line_end_of end refl
feed_is_end (spec.of_text none (front, back, is, more, end)) = line_end_of end refl
feed_is_end (spec.of_none none) = inl refl

split_once : {text m n a b : List ℕ} → IsSplit text m a → IsSplit text n b → (m ≡ n) × (a ≡ b)
split_once (cut.unmarked none) (cut.unmarked other) = (refl, refl)
split_once {a = a} {b = b} (cut.marked is) (cut.marked so) =
    let some : Some a ≡ Some b = sym is ∙ so in (refl, cc)
split_once {b = b} (cut.unmarked none) (cut.marked so) = let never : None ≡ Some b = sym none ∙ so in cc
split_once {a = a} (cut.marked is) (cut.unmarked none) = let never : None ≡ Some a = sym none ∙ is in cc

pub parts_once : {text m n : List ℕ} {a b : List Part} → HasParts text m a → HasParts text n b
    → (m ≡ n) × (a ≡ b)
parts_once {a = a} {b = b} (body, split, cuts) (other, so, also) =
    let (marks, bodies) = split_once split so in
    (marks, one_cut other a b (rw bodies at cuts) also)

-- the last entry of a key
at_most : {key : Key} {places : Option (List ℕ)} {old new : List Content} → Without key places old new
    → length new ≤ length old
at_most spec.none = omega arith
at_most (spec.lost x {old = old} w is at) = let less = at_most w in let size = length-append old (x ∷ []) in
    omega arith
at_most (spec.kept x {old = old} {new = new} w other) =
    let less = at_most w in let size = length-append old (x ∷ []) in let now = length-append new (x ∷ []) in
    omega arith

pub lost_one : {key : Key} {old new : List Content} (before after : List Content) (x : Content)
    → Without key None old new
    → old ≡ before ++ x ∷ after → IsOf key x → length new < length old
lost_one [] after x spec.none e of = absurd (cc)
lost_one (y ∷ before) after x spec.none e of = absurd (cc)
lost_one before after x (spec.lost y {old = old} w is at) e of =
    let less = at_most w in let size = length-append old (y ∷ []) in omega arith
lost_one {key = key} before after x (spec.kept y {old = old} {new = new} w other) e of =
    elim (some_last after) [
      | inl none ↦
          let (fronts, lasts) = last_of old before y x (e ∙ ap (λ t. before ++ x ∷ t) none) in
          absurd (other (subst (λ c. IsOf key c) (sym lasts) of, tt))
      | inr (front, z, is) ↦
          let (fronts, lasts) = last_of old (before ++ x ∷ front) y z (e ∙ ap (λ t. before ++ x ∷ t) is ∙ sym (append_assoc before (x ∷ front) (z ∷ []))) in
          let less = lost_one before front x w fronts of in
          let size = length-append old (y ∷ []) in
          let now = length-append new (y ∷ []) in omega arith
    ]

pub contents_once : {text : List ℕ} {a b : List Content} → HasContents text a → HasContents text b → a ≡ b
contents_once {text = text} (entries, is, same) (others, also, so) =
    sym same ∙ ap (λ e. map content e) (one_reading text entries others None None is also).0 ∙ so
