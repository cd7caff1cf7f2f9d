-- The pieces of texts, and runs that end at a separator.
use Rattle.std.proofs.Common.{◌≡◌, ◌≢◌, ◌++◌, ◌∙◌, ℕ, Bool, true, false, List, [], ◌∷◌, Some, None, take}
use Rattle.std.proofs.Common.{drop, not, ◌==◌, refl, sym, ap, arith}
use Rattle.std.specs.List.{list_all, prefix_len}
use Rattle.std.proofs.lemmas.Bool.{and_parts, eq-eqb}
use Rattle.std.proofs.lemmas.Bool.Decides.{nat_tests}
use Rattle.std.proofs.lemmas.List.{append-nil, append_assoc}
use Rattle.config_file.specs.Runs.{Run}
use Rattle.config_url.specs.Url.{pieces, onto}
use Rattle.config_url.specs.Reading.Urls.{CutsPiece}
use Rattle.config_file.proofs.Runs.{run_split}

pub counted : {test : ℕ → Bool} {text front rest : List ℕ} {n : ℕ} → n ≡ prefix_len test text
    → front ≡ take n text → rest ≡ drop n text → Run test text front rest
counted {test = test} {text = text} e f g = rw (f, g, e) (run_split test text)

other_byte : (b s : ℕ) → not (b == s) ≡ true → (b == s) ≡ false
other_byte b s h = grind (arith, nat_tests)

pub piece_whole : (s : ℕ) {text front : List ℕ} (rest : List ℕ) → Run (λ b. not (b == s)) text front rest
    → rest ≡ []
    → CutsPiece s text front None
piece_whole s {front = front} rest run e = (run.joined ∙ ap (λ r. front ++ r) e ∙ append-nil front, run.pass)

pub piece_before : (s : ℕ) {text front after : List ℕ} {b : ℕ} (rest : List ℕ)
    → Run (λ b. not (b == s)) text front rest
    → rest ≡ b ∷ after → CutsPiece s text front (Some after)
piece_before s {front = front} {after = after} {b = b} rest run e =
    let stops : not (b == s) ≡ false = rw e at run.longest in
    let here : b ≡ s = grind (arith, nat_tests) in
    (run.joined ∙ ap (λ r. front ++ r) (e ∙ ap (λ c. c ∷ after) here), run.pass)

pub pieces_at : (s : ℕ) (piece rest : List ℕ) → list_all (λ b. not (b == s)) piece ≡ true
    → pieces s (piece ++ s ∷ rest) ≡ piece ∷ pieces s rest
unfolding pieces
pieces_at s [] rest pass = rw (eq-eqb s s refl) refl
pieces_at s (b ∷ piece) rest pass =
    let (here, more) = and_parts (not (b == s)) (list_all (λ b. not (b == s)) piece) pass in
    rw (other_byte b s here, pieces_at s piece rest more) refl

pub pieces_last : (s b : ℕ) (piece : List ℕ) → list_all (λ b. not (b == s)) (b ∷ piece) ≡ true
    → pieces s (b ∷ piece) ≡ (b ∷ piece) ∷ []
unfolding pieces
pieces_last s b [] pass =
    rw (other_byte b s (and_parts (not (b == s)) true pass).0) refl
pieces_last s b (c ∷ piece) pass =
    let (here, more) = and_parts (not (b == s)) (list_all (λ b. not (b == s)) (c ∷ piece)) pass in
    rw (other_byte b s here) (ap (onto b) (pieces_last s c piece more))

no_pieces : (s : ℕ) → pieces s [] ≡ []
unfolding pieces
no_pieces s = refl

pub next_is : (s : ℕ) (text piece after : List ℕ) → CutsPiece s text piece (Some after)
    → pieces s text ≡ piece ∷ pieces s after
next_is s text piece after cut = ap (pieces s) cut.0 ∙ pieces_at s piece after cut.1

pub last_is : (s : ℕ) (text piece : List ℕ) → CutsPiece s text piece None → text ≢ []
    → pieces s text ≡ piece ∷ pieces s []
last_is s text [] cut some = absurd (some cut.0)
last_is s text (b ∷ piece) cut some =
    ap (pieces s) cut.0 ∙ pieces_last s b piece cut.1 ∙ ap (λ p. (b ∷ piece) ∷ p) (sym (no_pieces s))

-- the pieces of a text with a separator at its end
pub closed_next : (s : ℕ) (text piece after : List ℕ) → CutsPiece s text piece (Some after)
    → pieces s (text ++ s ∷ []) ≡ piece ∷ pieces s (after ++ s ∷ [])
closed_next s text piece after cut =
    ap (λ t. pieces s (t ++ s ∷ [])) cut.0
    ∙ ap (pieces s) (append_assoc piece (s ∷ after) (s ∷ [])) ∙ pieces_at s piece (after ++ s ∷ []) cut.1

pub closed_last : (s : ℕ) (text piece : List ℕ) → CutsPiece s text piece None
    → pieces s (text ++ s ∷ []) ≡ piece ∷ []
closed_last s text piece cut =
    ap (λ t. pieces s (t ++ s ∷ [])) cut.0 ∙ pieces_at s piece [] cut.1 ∙ ap (λ p. piece ∷ p) (no_pieces s)
