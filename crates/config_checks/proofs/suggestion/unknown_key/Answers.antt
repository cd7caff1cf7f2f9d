use Rattle.config_file.specs.KeyView.{key_of}
use Rattle.config_checks.specs.Rows.{rows_of}
use Rattle.config_checks.proofs.SuggestionLemmas.{of_key}
use Rattle.config_checks.proofs.suggestion.unknown_key.Goals as goal

pub returns-clause-said : goal.returns-clause-said
returns-clause-said c = of_key (rows_of c.args.runs.now) c.args.text.now
    (key_of c.in-Some.key) c.in-Some.ensures c.requires.unknown c.in_ok-unknown.unknown c.in_ok-unknown.ensures
