use Rattle.std.proofs.Common.{◌≡◌, sym, subst, rules}
use Rattle.config_checks.specs.Reading.Steps.{AreRelations}
use Rattle.config_checks.proofs.suggestion.section_of.Goals as goal

pub returns : goal.returns
returns c =
    let same : c.in_ok-to_vec.field-0.items ≡ c.args.name.now = search rules in (
      same,
      record {
        relations = subst (λ name. AreRelations c.args.runs.now name c.in_ok-relations_of.field-0.items)
            (sym same) c.in_ok-relations_of.ensures;
        known = rw same c.has_section.ensures;
      },
    )
