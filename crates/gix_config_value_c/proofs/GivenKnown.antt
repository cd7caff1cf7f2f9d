-- The repository that a walk in C is given.
use Rattle.std.proofs.Common.{arith, ◌≡◌, ℕ, List, Option, None, Some, MatchOption, option_copied}
use Rattle.config_file.specs.declared.include.Repository.{Repository}
use Rattle.gix_config_value_c.specs.declared.walk.GcvKnown.{GcvKnown}
use Rattle.gix_config_value_c.specs.Paths.{IsGiven}
use Rattle.gix_config_value_c.specs.Walks.{IsRepository}

pub repository_given : (known : GcvKnown) (g b h : Option (List ℕ)) (repository : Option Repository)
    → IsGiven (known.has_repository, known.git_dir.now) g → IsGiven (known.has_branch, known.branch.now) b
    → IsGiven (known.has_real_home, known.real_home.now) h
    → MatchOption repository (g ≡ None)
    (λ r. (g ≡ Some r.git_dir.now) × (r.real_git_dir.now ≡ known.real_git_dir.now) × (option_copied r.branch ≡ b)
    × (option_copied r.real_home ≡ h))
    → IsRepository known repository
repository_given known g b h repository p q r e = grind arith
