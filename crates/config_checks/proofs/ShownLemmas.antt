-- Texts shown piece by piece.
use Rattle.std.proofs.Common.{◌≡◌, ◌-◌, ◌<◌, ◌≤◌, ℕ, zero, suc, List, [], ◌∷◌, ◌++◌, length, take, drop, refl}
use Rattle.std.proofs.Common.{ap, ◌∙◌, arith}
use Rattle.bstr.specs.Utf8.{decoded}
use Rattle.bstr.proofs.lemmas.PieceLemmas.{piece-bounds}
use Rattle.config_checks.specs.Findings.{piece_shown, shown_past, shown}

-- showing a text past its first `n` bytes is showing what follows these bytes
shown_past_drop : (n : ℕ) (t : List ℕ) → shown_past n t ≡ shown (drop n t)
unfolding shown_past
shown_past_drop zero t = refl
shown_past_drop (suc n) [] = refl
shown_past_drop (suc n) (b ∷ bs) = shown_past_drop n bs

drop_one_less : (n : ℕ) (b : ℕ) (bs : List ℕ) → 1 ≤ n → drop (n - 1) bs ≡ drop n (b ∷ bs)
drop_one_less n b bs some = grind arith

-- a text is shown as its first piece, followed by the rest
pub shown_front : (t : List ℕ) → 0 < length t
    → shown t ≡ piece_shown (decoded t).char (take (decoded t).size t) ++ shown (drop (decoded t).size t)
unfolding shown_past
shown_front [] some = absurd (omega arith)
shown_front (b ∷ bs) some =
    let size = (decoded (b ∷ bs)).size in
    ap (λ rest. piece_shown (decoded (b ∷ bs)).char (take size (b ∷ bs)) ++ rest)
    (shown_past_drop (size - 1) bs ∙ ap shown (drop_one_less size b bs (piece-bounds (b ∷ bs) some).0))

-- an empty text is shown as an empty text
pub none_shown : (t : List ℕ) → t ≡ [] → shown t ≡ []
unfolding shown_past
none_shown t none = rw none refl
