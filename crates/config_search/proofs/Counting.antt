-- The settings that GIT_CONFIG_COUNT counts.
use Rattle.std.proofs.Common.{◌≡◌, ◌≤◌, ℕ, arith, codes, subst}
use Rattle.std.specs.Global.{Vec}
use Rattle.config_search.specs.System.{System}
use Rattle.config_search.specs.Command.{AreCounted, AreNumbered}
use Rattle.config_search.specs.Reading.{IsCounting}
use Rattle.config_search.specs.declared.TheConstants.{VARIABLE}
use Rattle.config_search.specs.declared.command.Counted.{Counted}

-- a text of the same bytes
pub same_text : (system : System) (old : Counted) (text : Vec ℕ) → text.items ≡ old.text.items → IsCounting
    system old
    → IsCounting system (record { text = text; number = old.number; count = old.count })
same_text system old text same is = record {
  settings = is.settings;
  adds = rw same is.adds;
  are = is.are;
  within = is.within;
  is_count = is.is_count;
}

-- all settings that are counted are known
pub whole_count : (system : System) (counted : Counted) (counting : IsCounting system counted)
    → counted.count ≤ counted.number → AreCounted system (system VARIABLE (codes "GIT_CONFIG_COUNT"))
    counting.settings
whole_count system counted counting whole =
    let same : counted.number ≡ counted.count = omega (arith, whole, counting.within) in
    counting.is_count counting.settings (subst (λ (n : ℕ). AreNumbered system n counting.settings) same
    counting.are)
