use Rattle.std.proofs.Common.{sym, ◌∙◌, inl}
use Rattle.std.proofs.lemmas.Bool.{false≢true}
use Rattle.config_file.specs.KeyView.{key_of}
use Rattle.config_checks.specs.Rows.{rows_of}
use Rattle.config_checks.proofs.RunLemmas.{elsewhere_of}
use Rattle.config_checks.proofs.suggestion.elsewhere.Goals as goal

pub returns-then-is_known : goal.returns-then-is_known
returns-then-is_known c =
    elsewhere_of (rows_of c.args.runs.now) (key_of c.args.key.now) c.moved_if_marked.result
    (c.requires.known.0 c.if-is_known.true) c.moved_if_marked.ensures

pub returns-else-is_known : goal.returns-else-is_known
returns-else-is_known c = inl (λ has. false≢true (sym c.if-is_known.false ∙ c.requires.known.1 has))
