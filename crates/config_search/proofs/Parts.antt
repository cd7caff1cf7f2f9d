-- Parts of texts, of which one comes after the other.
use Rattle.std.proofs.Common.{◌≡◌, ◌∙◌, ℕ, Bool, List, [], ◌∷◌, ◌++◌, MatchBool, true, false, take, drop, append_assoc, ap, sym, subst}
use Rattle.std.proofs.lemmas.Bool.{true≢false}
use Rattle.std.proofs.lemmas.List.{append-nil, take-append-drop}
use Rattle.config_search.specs.Names.{line}
use Rattle.config_search.specs.Questions.{IsIn, between}

pub in_itself : (text : List ℕ) → IsIn text text
in_itself text = between [] [] (sym (append-nil text))

in_front : (text front part : List ℕ) (y : ℕ) → IsIn text (front ++ (y ∷ part)) → IsIn text front
in_front text front part y (between before after is) = between before ((y ∷ part) ++ after) (is ∙ simp append_assoc)

in_back : (text front part : List ℕ) (y : ℕ) → IsIn text (front ++ (y ∷ part)) → IsIn text part
in_back text front part y (between before after is) = between (before ++ (front ++ (y ∷ []))) after (is ∙ simp append_assoc)

-- the last part that is cut off
pub in_last : (text rest part next : List ℕ) (ends : Bool) → IsIn text rest
    → MatchBool ends (rest ≡ part) ((y : ℕ) × (rest ≡ next ++ (y ∷ part))) → IsIn text part
in_last text rest part next true is at = subst (λ (p : List ℕ). IsIn text p) at is
in_last text rest part next false is (y, at) = in_back text next part y (subst (λ (p : List ℕ). IsIn text p) at is)

-- and what is left before it
pub in_left : (text rest part next : List ℕ) (ends : Bool) → IsIn text rest
    → MatchBool ends (rest ≡ part) ((y : ℕ) × (rest ≡ next ++ (y ∷ part))) → ends ≡ false → IsIn text next
in_left text rest part next true is at more = absurd (true≢false more)
in_left text rest part next false is (y, at) more = in_front text next part y (subst (λ (p : List ℕ). IsIn text p) at is)

in_first : (text part : List ℕ) (n : ℕ) → IsIn (take n text) part → IsIn text part
in_first text part n (between before after is) = between before (after ++ drop n text)
    (sym (take-append-drop n text) ∙ ap (λ (t : List ℕ). t ++ drop n text) is ∙ simp append_assoc)

-- a part of what Git takes from a text is one of the text
pub in_line : (text part : List ℕ) → IsIn (line text) part → IsIn text part
in_line text part is = in_first text part _ (in_first _ part _ is)

-- and so is one that is cut off from it
pub in_lines : (text begun rest part next : List ℕ) (ends : Bool) → begun ≡ line text → IsIn begun rest
    → MatchBool ends (rest ≡ part) ((y : ℕ) × (rest ≡ next ++ (y ∷ part))) → IsIn text part
in_lines text begun rest part next ends of_text is at = in_line text part
    (in_last (line text) rest part next ends (subst (λ (t : List ℕ). IsIn t rest) of_text is) at)
