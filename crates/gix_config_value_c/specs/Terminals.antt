-- How many colors a program writes with, in C.
use Rattle.std.specs.Prelude.{◌≡◌, ℕ, Bool, List, [], ◌∷◌, Option}
use Rattle.config_color.specs.Terminal.{DecidesFirst, depth_rules}
use Rattle.config_color.specs.declared.depth.Depth.{Depth}
use Rattle.gix_config_value_c.specs.declared.status.Status.TheVariants as statuses
use Rattle.gix_config_value_c.specs.Numbers.{status_number, flag_number, written_depth}
use Rattle.gix_config_value_c.specs.Paths.{IsGiven, HasBadFlag}
use Rattle.gix_config_value_c.specs.Values.{LeavesAlone}

-- the number of the depth that the rules decide is put into `out`; or a flag is bad, and `out` is left alone
pub data TellsDepth (is_terminal : ℕ) (no_color term colorterm : ℕ × List ℕ) (out out' status : ℕ) : Type 0 where
  told : (flag : Bool) (n t c : Option (List ℕ)) (decided : Option Depth) → is_terminal ≡ flag_number flag
      → IsGiven no_color n → IsGiven term t → IsGiven colorterm c → DecidesFirst (depth_rules flag n t c) decided
      → out' ≡ written_depth decided → status ≡ status_number statuses.Ok
      → TellsDepth is_terminal no_color term colorterm out out' status
  bad_flag : HasBadFlag (is_terminal ∷ no_color.0 ∷ term.0 ∷ colorterm.0 ∷ [])
      → LeavesAlone statuses.BadFlag out out' status
      → TellsDepth is_terminal no_color term colorterm out out' status
