use Rattle.std.proofs.lemmas.Result.{IfOk-weaker}
use Rattle.config_checks.specs.Findings.{finding_of}
use Rattle.config_checks.specs.Json.{finding_json}
use Rattle.config_checks.proofs.OneLine.{data_one_line}
use Rattle.config_checks.proofs.json_line.json_text.Goals as goal

pub returns-clause-one_line : goal.returns-clause-one_line
returns-clause-one_line c =
    IfOk-weaker c.finding_text.result _ _
    (λ t is. rw is (data_one_line (finding_json c.args.column c.args.equal c.args.fix
    (finding_of c.args.finding.now))))
    c.finding_text.ensures.text
