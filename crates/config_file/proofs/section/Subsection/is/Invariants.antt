use Rattle.std.proofs.Common.{◌≡◌, ◌↔◌, ℕ, List, length}
use Rattle.config_file.specs.Subsection.{SpellsSubsection}
use Rattle.config_file.proofs.section.Subsection.is.Given as goal

abbrev pub invariant-bytes : goal.invariant-bytes
invariant-bytes l =
    (spelled : List ℕ) → SpellsSubsection l.self.raw.now spelled
    → (more : List ℕ) × SpellsSubsection l.at more × ((spelled ≡ l.text) ↔ (more ≡ l.left))

abbrev pub decreases-bytes : goal.decreases-bytes
decreases-bytes l = length l.at
