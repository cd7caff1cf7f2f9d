use Rattle.std.proofs.Common.{◌≡◌, sym, subst, rules}
use Rattle.config_file.specs.KeyView.{key_of}
use Rattle.config_checks.specs.Rows.{rows_of}
use Rattle.config_checks.specs.Suggestions.{IsPassed, IsUnknownKey, unknown_text}
use Rattle.config_checks.proofs.SuggestionLemmas.{of_key}
use Rattle.config_checks.proofs.check.said_of_parts.Goals as goal

pub returns-in_ok-meant-in-Some : goal.returns-in_ok-meant-in-Some
returns-in_ok-meant-in-Some c =
    let rows = rows_of c.args.runs.now in
    let same : c.in_ok-copy.copy.items ≡ c.args.key.now = search rules in
    let text : c.push_unknown.new.out.items ≡ unknown_text c.in-Some.unknown = search rules in
    let told = of_key rows c.args.key.now (key_of c.args.parts.now) c.requires.parts c.requires.unknown c.in_ok-unknown.field-0 c.in_ok-unknown.ensures in
    let this : IsUnknownKey rows c.args.key.now c.in-Some.unknown = rw c.in-Some.is at told in (
      same,
      (
        (
          c.in-Some.unknown,
          subst (λ k. IsUnknownKey rows k c.in-Some.unknown) (sym same) this,
          text,
          c.in_ok-meant-in-Some.ensures,
        ),
        c.requires.section,
      ),
    )

pub returns-in-None : goal.returns-in-None
returns-in-None c =
    let rows = rows_of c.args.runs.now in
    let same : c.in_ok-copy.copy.items ≡ c.args.key.now = search rules in
    let told = of_key rows c.args.key.now (key_of c.args.parts.now) c.requires.parts c.requires.unknown c.in_ok-unknown.field-0 c.in_ok-unknown.ensures in
    let passed : IsPassed rows c.args.key.now = rw c.in-None.is at told in
    (same, (subst (IsPassed rows) (sym same) passed, c.requires.section))
