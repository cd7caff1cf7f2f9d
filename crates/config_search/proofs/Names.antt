-- Texts that begin with others.
use Rattle.std.proofs.Common.{◌≡◌, ◌∙◌, ◌-◌, ℕ, Bool, List, [], ◌++◌, true, false, if◌then◌else◌, ◌||◌}
use Rattle.std.proofs.Common.{◌==◌, arith, codes, length, take, drop, refl, subst, sym, ap, append_assoc}
use Rattle.std.specs.Str.{bytes_eq}
use Rattle.std.proofs.Math.Seq.{drop-append_seam, take-append_seam}
use Rattle.std.proofs.lemmas.Bool.{true≢false}
use Rattle.std.proofs.lemmas.List.{append_cancel_left, length-append, take-append-drop}
use Rattle.std.proofs.lemmas.Slice.Eq.{bytes_eq-Decides}
use Rattle.config_search.specs.Names.{begins, ends_with_slash, inside}

-- a text that begins with these bytes goes on with the others
pub goes_on : (front text : List ℕ) → bytes_eq (take (length front) text) front ≡ true
    → text ≡ front ++ drop (length front) text
goes_on front text is = sym (take-append-drop (length front) text)
    ∙ ap (λ (t : List ℕ). t ++ drop (length front) text) ((bytes_eq-Decides (take (length front) text)
    front).0 is)

-- a text that does not begin with them is none that goes on after them
pub begins_not : (front text rest : List ℕ) → bytes_eq (take (length front) text) front ≡ false
    → text ≡ front ++ rest → ⊥
begins_not front text rest not is = true≢false (sym ((bytes_eq-Decides (take (length front) text) front).1
    (ap (take (length front)) is ∙ take-append_seam front rest)) ∙ not)

-- the end of a text that ends after others
pub drop_front : (front end : List ℕ) → drop (length (front ++ end) - length end) (front ++ end) ≡ end
drop_front front end =
    let same : length (front ++ end) - length end ≡ length front = omega (arith, length-append front end) in
    rw same (drop-append_seam front end)

-- a text that does not end with these bytes is none that ends with them after others
pub ends_not : (text end front : List ℕ) → bytes_eq (drop (length text - length end) text) end ≡ false
    → text ≡ front ++ end → ⊥
ends_not text end front not is = true≢false (sym ((bytes_eq-Decides (drop (length text - length end) text)
    end).1
    (subst (λ (t : List ℕ). drop (length t - length end) t ≡ end) (sym is) (drop_front front end))) ∙ not)

-- what follows the same bytes is the same
pub same_rest : (front text rest other : List ℕ) → text ≡ front ++ rest → text ≡ front ++ other → rest ≡ other
same_rest front text rest other is also = append_cancel_left front rest other (sym is ∙ also)

-- three texts, of which the first two come first
pub all_three : (whole first second third rest : List ℕ) → whole ≡ first ++ rest → rest ≡ second ++ third
    → whole ≡ (first ++ second) ++ third
all_three whole first second third rest is goes = is ∙ ap (λ (r : List ℕ). first ++ r) goes
    ∙ sym (append_assoc first second third)

-- what follows the first of three texts is the others
pub other_two : (whole first second third rest : List ℕ) → whole ≡ first ++ rest
    → whole ≡ (first ++ second) ++ third → rest ≡ second ++ third
other_two whole first second third rest is three =
    same_rest first whole rest (second ++ third) is (rw (append_assoc first second third) at three)

or_true : (b : Bool) (x y : List ℕ) → (if b || true then x else y) ≡ x
or_true true x y = refl
or_true false x y = refl

-- a name in the current folder stays
pub inside_here : (name : List ℕ) → inside [] name ≡ name
inside_here name = or_true (begins (codes "/") name) name _

or_first : (b c : Bool) (x y : List ℕ) → b ≡ true → (if b || c then x else y) ≡ x
or_first b c x y is = rw is refl

-- and so does a name from the root in any
pub inside_root : (folder name : List ℕ) → begins (codes "/") name ≡ true → inside folder name ≡ name
inside_root folder name is = or_first (begins (codes "/") name) _ name _ is

end_by : (is_whole ends : Bool) (folder name : List ℕ)
    → let whole = if is_whole then name else (if ends then folder ++ name else folder ++ codes "/" ++ name) in
    drop (length whole - length name) whole ≡ name
end_by true ends folder name = drop_front [] name
end_by false true folder name = drop_front folder name
end_by false false folder name = drop_front (folder ++ codes "/") name

-- the name of a file is the end of its name in a folder
pub end_of_inside : (folder name : List ℕ) → drop (length (inside folder name) - length name)
    (inside folder name) ≡ name
end_of_inside folder name =
    end_by (begins (codes "/") name || (length folder == 0)) (ends_with_slash folder) folder name
