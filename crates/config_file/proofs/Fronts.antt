-- What a text begins with.
use Rattle.std.proofs.Common.{◌≡◌, ◌<◌, ◌++◌, ◌∙◌, ◌==◌, ◌&&◌, Bool, true, false, ℕ, zero, suc, List, []}
use Rattle.std.proofs.Common.{◌∷◌, length, take, drop, get_or, sym, ap, refl, arith}
use Rattle.std.proofs.lemmas.Bool.{true≢false, eq-eqb}
use Rattle.config_text.specs.Bytes.{LacksFront}
use Rattle.std.specs.Char.{to_ascii_lowercase}
use Rattle.std.specs.Str.{str_to_ascii_lowercase}

-- a text that begins with the whole front has, after a part of the front, the next byte of the front
pub goes_on : (front text rest more : List ℕ) (i : ℕ) → i < length front
    → text ≡ str_to_ascii_lowercase (take i front) ++ rest → text ≡ str_to_ascii_lowercase front ++ more
    → (others : List ℕ) × (rest ≡ to_ascii_lowercase (get_or front i 0) ∷ others)
goes_on [] text rest more i within part whole = absurd (omega arith)
goes_on (f ∷ front) text rest more zero within part whole =
    (str_to_ascii_lowercase front ++ more, sym part ∙ whole)
goes_on (f ∷ front) text rest more (suc i) within part whole =
    goes_on front (str_to_ascii_lowercase (take i front) ++ rest) rest more i (omega arith) refl (ap (drop 1) (sym part ∙ whole))

-- whether the text begins with the whole front, which computes
abbrev pub is_front : List ℕ → List ℕ → Bool
is_front [] text = true
is_front (f ∷ front) [] = false
is_front (f ∷ front) (b ∷ text) = f == b && is_front front text

front_is : (front rest : List ℕ) → is_front front (front ++ rest) ≡ true
front_is [] rest = refl
front_is (f ∷ front) rest = rw (eq-eqb f f refl, front_is front rest)

pub lacks : (front text : List ℕ) → is_front front text ≡ false → LacksFront front text
lacks front text e rest is = true≢false (sym (front_is front rest) ∙ ap (is_front front) (sym is) ∙ e)
