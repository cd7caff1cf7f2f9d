-- The words of a list, and the texts that they match.
use Rattle.std.proofs.Common.{◌≡◌, ◌∙◌, ◌<◌, ℕ, List, [], ◌∷◌, ◌++◌, length, take, map, subst, sym, codes}
use Rattle.std.proofs.Common.{Bor, All, get_or, ◌+◌}
use Rattle.std.proofs.lemmas.List.{append_cancel_right, take_more}
use Rattle.std.proofs.lemmas.List.Elements.{All-push}
use mathlib.Core.List.{map-append}
use Rattle.std.proofs.Common.{MatchOption, arith, Option, option_copied}
use Rattle.config_checks.specs.Nearest.{AreFar, IsNearest}
use Rattle.config_checks.specs.Reasons.{WordEdits, IsMeant}
use Rattle.config_checks.proofs.NearestLemmas.{one_count}
use Rattle.config_checks.specs.declared.kind.WordList.{WordList}
use Rattle.config_checks.specs.Kinds.{IsSame, IsPattern, IsWord, begins, itself, IsNoWord, IsFirstWord}

-- if no word of the list matches the text, there is no first word that matches it
pub no_first : (list : WordList) (t : List ℕ) → IsNoWord list t list.words.items → (word : Bor (List ℕ))
    → ¬ (IsFirstWord list t word)
no_first list t none word first =
    none first.place word first.inside (subst (λ w. IsWord list t w.now) (sym first.stands) first.is_word)

-- a text that a word with a final `*` matches begins with the part of the word before the `*`
pub word_begins : (list : WordList) (t word front piece : List ℕ) → IsPattern word front
    → piece ≡ take (length front) t
    → IsWord list t word → IsSame list.ignores_case front piece
word_begins list t word front piece pattern part (begins f other same) =
    let equal : f ≡ front = append_cancel_right f front (codes "*") (sym other ∙ pattern) in
    subst (IsSame list.ignores_case front) (sym part)
    (subst (λ x. IsSame list.ignores_case x (take (length x) t)) equal same)
word_begins list t word front piece pattern part (itself none same) = absurd (none front pattern)

-- what holds for these pieces and for one more piece
pub more_pieces : (P : List ℕ → Type 0) (pieces : List (Bor (List ℕ))) (piece : Bor (List ℕ))
    → All P (map (λ p. p.now) pieces) → P piece.now → All P (map (λ p. p.now) (pieces ++ piece ∷ []))
more_pieces P pieces piece all has = subst (All P) (sym (map-append (λ p. p.now) pieces (piece ∷ [])))
    (All-push P (map (λ p. p.now) pieces) piece.now all has)

-- if no word before this place matches the text, and the word here does not, no word up to here matches it
pub no_more : (list : WordList) (t : List ℕ) (place : ℕ) → IsNoWord list t (take place list.words.items)
    → place < length list.words.items
    → ((d : Bor (List ℕ)) → ¬ (IsWord list t (get_or list.words.items place d).now))
    → IsNoWord list t (take (place + 1) list.words.items)
no_more list t place none inside here = λ k d within.
    subst (IsNoWord list t) (sym (take_more list.words.items place d inside))
    (All-push (λ w. ¬ (IsWord list t w.now)) (take place list.words.items)
    (get_or list.words.items place d) none (here d))
    k d within

-- ---- the word that is suggested

pub one_number : (t : List ℕ) (word : Bor (List ℕ)) (m n : ℕ) → WordEdits t word m → WordEdits t word n → m ≡ n
one_number t word m n p q = one_count word.now t m n p.edits.0 q.edits.0

pub meant_of : (words : List (Bor (List ℕ))) (t : List ℕ) (best : Option (Bor (Bor (List ℕ))))
    → MatchOption best (AreFar (WordEdits t) words) (λ word. IsNearest (WordEdits t) words word.now)
    → IsMeant words t (option_copied best)
meant_of words t best is = grind arith
