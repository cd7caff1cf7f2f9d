-- The mark of a path is cut off in one way.
use Rattle.std.proofs.Common.{◌≡◌, ◌≤◌, ◌∙◌, ℕ, List, length, drop, length-drop, sym, ap, arith}
use Rattle.gix_config_value_c.specs.Numbers.{flag_number}
use Rattle.gix_config_value_c.specs.Paths.{CutsMark}
use Rattle.gix_config_value_c.proofs.OnePath.{mark_once}

-- the rests after two places are the same only if the places are
one_place : (t : List ℕ) (s u : ℕ) → s ≤ length t → u ≤ length t → drop s t ≡ drop u t → s ≡ u
one_place t s u fits also same =
    let first = length-drop s t in
    let second = length-drop u t in
    let both = ap length same in
    omega arith

pub cuts_once : (t : List ℕ) (a b s u : ℕ) → CutsMark t a s → CutsMark t b u → (a ≡ b) × (s ≡ u)
cuts_once t a b s u (f, is, marked, fits) (g, also, marks, fit) = (
  is ∙ ap flag_number (mark_once t f g (drop s t) (drop u t) marked marks).0 ∙ sym also,
  one_place t s u fits fit (mark_once t f g (drop s t) (drop u t) marked marks).1,
)
