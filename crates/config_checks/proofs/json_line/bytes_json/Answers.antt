use Rattle.std.proofs.Common.{◌≡◌, ◌∙◌, rules}
use Rattle.base64.specs.Engines.{standard}
use Rattle.base64.specs.GeneralPurpose.{encode_of}
use Rattle.serde_json.specs.Data.{null, string}
use Rattle.serde_json.specs.View.{view}
use Rattle.serde_json.specs.declared.value.Value.{Null, the_lemmas}
use Rattle.config_checks.proofs.FixLemmas.{is_text, no_text}
use Rattle.config_checks.proofs.json_line.bytes_json.Goals as goal

pub returns-in-Ok : goal.returns-in-Ok
returns-in-Ok c =
    let seen : view Null ≡ null = search (rules, the_lemmas) in
    seen ∙ is_text c.args.text.now (string (encode_of standard c.args.text.now)) c.in-Ok.ensures.cases.1

pub returns-in_ok-encode-in-Err : goal.returns-in_ok-encode-in-Err
returns-in_ok-encode-in-Err c =
    let seen : view c.from.result ≡ string (encode_of standard c.args.text.now) = search rules in
    seen ∙ no_text c.args.text.now (string (encode_of standard c.args.text.now)) c.in-Err.ensures.cases.0
