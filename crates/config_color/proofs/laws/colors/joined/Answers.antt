use Rattle.config_color.specs.Laws.Composition.{joined_reads, reads_joined, joined_refused}
use Rattle.config_color.proofs.laws.colors.joined.Goals as goal

pub returns-clause-read : goal.returns-clause-read
returns-clause-read c =
    λ front space back color s. (reads_joined front space back color s, joined_reads front space back color s)

pub returns-clause-refused : goal.returns-clause-refused
returns-clause-refused c = joined_refused
