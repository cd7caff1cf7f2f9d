use Rattle.std.proofs.Common.{subst}
use Rattle.config_file.specs.KeyView.{key_of}
use Rattle.config_checks.specs.Reading.Steps.{IsRelation}
use Rattle.config_checks.proofs.SuggestionLemmas.{of_section, near_if, of_far}
use Rattle.config_checks.proofs.suggestion.one_part_edits.Goals as goal

pub returns-in-Same : goal.returns-in-Same
returns-in-Same c =
    let row = key_of c.args.row.now in
    let key = key_of c.args.key.now in
    of_section row key (subst (IsRelation row.section key.section) c.in-Same.is c.requires.relation) _ c.edits_after.ensures

pub returns-in-Near : goal.returns-in-Near
returns-in-Near c =
    let row = key_of c.args.row.now in
    let key = key_of c.args.key.now in
    near_if row key c.in-Near.edits
    (subst (IsRelation row.section key.section) c.in-Near.is c.requires.relation) c.edits_if_covered.result
    c.edits_if_covered.ensures

pub returns-in-Far : goal.returns-in-Far
returns-in-Far c =
    let row = key_of c.args.row.now in
    let key = key_of c.args.key.now in
    of_far row key (subst (IsRelation row.section key.section) c.in-Far.is c.requires.relation)
