use Rattle.std.proofs.Common.{◌≡◌, ◌↔◌, IsTrue, Some, rules, refl}
use Rattle.config_checks.specs.Report.{key_meant}
use Rattle.config_checks.specs.Rows.{rows_of}
use Rattle.config_checks.specs.Suggestions.{IsPassed, IsUnknownKey}
use Rattle.config_checks.proofs.FixLemmas.{only_key}
use Rattle.config_checks.proofs.OneSuggestion.{not_passed}
use Rattle.config_checks.proofs.fix.is_only_unknown.Goals as goal

pub returns-in_default-clause-only : goal.returns-in_default-clause-only
returns-in_default-clause-only c =
    let rows = rows_of c.args.runs.now in
    let passed : IsPassed rows c.args.key.now = rw c.in_default.is at c.in_ok-unknown.ensures.said in
    (λ h k also. absurd (not_passed rows c.args.key.now k also passed), λ only. refl)

pub returns-in-Some-2-clause-only : goal.returns-in-Some-2-clause-only
returns-in-Some-2-clause-only c =
    let rows = rows_of c.args.runs.now in
    let unknown = c.in-Some.unknown in
    let this : IsUnknownKey rows c.args.key.now unknown = rw c.in-Some.is at c.in_ok-unknown.ensures.said in
    let meant : Some c.in-Some-2.other.items ≡ key_meant unknown = rw c.in-Some-2.is at c.in_ok-other.ensures in
    let same : IsTrue c.eq.result ↔ (c.in-Some-2.other.items ≡ c.args.suggested.now) = search rules in
    only_key rows c.args.key.now c.args.suggested.now unknown c.in-Some-2.other.items c.eq.result this meant same
