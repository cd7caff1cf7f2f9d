use Rattle.std.proofs.Common.{sym, ◌∙◌}
use Rattle.std.proofs.lemmas.Bool.{false≢true}
use Rattle.config_file.specs.KeyView.{key_of}
use Rattle.config_checks.specs.Rows.{rows_of}
use Rattle.config_checks.proofs.MarkLemmas.{none_moved}
use Rattle.config_checks.proofs.suggestion.moved_if_marked.Goals as goal

pub returns-else-has_mark : goal.returns-else-has_mark
returns-else-has_mark c =
    none_moved (rows_of c.args.runs.now) c.args.marks.now (key_of c.args.key.now) c.requires
    (λ has. false≢true (sym c.if-has_mark.false ∙ c.has_mark.ensures.1 (rw c.name.ensures has)))
