use Rattle.std.proofs.Common.{ℕ, List, length}
use Rattle.config_file.specs.Subsection.{SpellsSubsection}
use Rattle.config_file.proofs.Spelled.{Writes}
use Rattle.config_file.proofs.section.Subsection.push_text.Given as goal

abbrev pub invariant-bytes : goal.invariant-bytes
invariant-bytes l =
    (spelled : List ℕ) → SpellsSubsection l.self.raw.now spelled
    → Writes l.at spelled l.fn.text.items l.text.items

abbrev pub decreases-bytes : goal.decreases-bytes
decreases-bytes l = length l.at
