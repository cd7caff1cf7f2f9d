use Rattle.std.proofs.Common.{◌++◌, ◌∷◌, [], ◌∙◌, arith, sym, subst, take, append_assoc, append-nil, get_or}
use Rattle.std.proofs.lemmas.List.{take_all}
use Rattle.std.proofs.lemmas.Bool.{false≢true}
use Rattle.std.proofs.lemmas.Slice.Zip.{AllZip-long}
use Rattle.config_text.specs.SameWord.{SameWord}
use Rattle.config_file.specs.KeyView.{key_of}
use Rattle.config_checks.specs.declared.row.Row.{Row}
use Rattle.config_checks.specs.declared.row.Run.{Run}
use Rattle.config_checks.specs.declared.suggestion.Relation.{Relation}
use Rattle.config_checks.specs.declared.suggestion.Relation.TheVariants.{Same}
use Rattle.config_checks.specs.Reading.Steps.{IsRelation}
use Rattle.config_checks.specs.Rows.{rows_of}
use Rattle.config_checks.specs.Suggestions.{RowEdits}
use Rattle.config_checks.proofs.NearestLemmas.{nothing, take_more, passes, far_one, keeps, betters, whole}
use Rattle.config_checks.proofs.RunLemmas.{rows_more}
use Rattle.config_checks.proofs.SuggestionLemmas.{one_number, zipped_at, same_relation, far_run}
use Rattle.config_checks.proofs.suggestion.nearest.Goals.{in-Some+then-edits-least, in-Some+else-edits-least}
use Rattle.config_checks.proofs.suggestion.nearest.Goals.{in_default, in_default-2, in-Far}
use Rattle.config_checks.proofs.suggestion.nearest.Goals as goal

pub bounds-relations-place : goal.bounds-relations-place
bounds-relations-place c =
    let key = key_of c.args.key.now in
    omega (
      arith,
      c.runs-test.true,
      AllZip-long (λ (run : Run) (r : Relation).
          IsRelation run.section.now key.section r) c.args.runs.now c.args.relations.now c.requires,
    )

pub runs-init : goal.runs-init
runs-init c = nothing (RowEdits (key_of c.args.key.now))

pub runs-preserved-then-matches : goal.runs-preserved-then-matches
runs-preserved-then-matches c =
    let key = key_of c.args.key.now in
    let run = c.index-runs-place.result in
    let seen = rows_of (take c.runs.place c.args.runs.now) in
    let is = zipped_at (λ (run : Run) (r : Relation). IsRelation run.section.now key.section r) c.args.runs.now c.args.relations.now
    c.requires c.runs.place run Same c.runs-test.true (sym c.index-runs-place.is) in
    rw (rows_more c.args.runs.now c.runs.place run c.runs-test.true (sym c.index-runs-place.is))
    (passes (RowEdits key) seen run.rows.now c.runs.least c.runs.best c.runs.invariant
    (elim c.match-matches.branch [
      | in-Far w ↦ far_run key run (subst (IsRelation run.section.now key.section) w.in-Far.is is)
      | in_default w ↦ absurd (false≢true (sym w.matches-is ∙ c.if-matches.true))
    ]))

pub rows-init : goal.rows-init
rows-init c = rw append-nil c.runs.invariant

pub rows-preserved : goal.rows-preserved
rows-preserved c =
    let key = key_of c.args.key.now in
    let rows = c.index-runs-place.result.rows.now in
    let i = c.rows.row-index in
    let row = c.row-item.result in
    let before = rows_of (take c.runs.place c.args.runs.now) in
    let seen = before ++ take i rows in
    let one = λ (row : Row). one_number (key_of row.key) key in
    let so_far = c.rows.invariant in
    let next = take_more rows i row c.rows-test.true (sym c.row-item.is) in
    let grown = append_assoc before (take i rows) (row ∷ []) in
    elim c.match-branch-2.branch [
      | in-Some+then-edits-least w ↦
          let edits = rw w.in-Some.is at c.in_ok-edits.ensures in
          rw (w.best-is, w.least-is, next, ← grown)
          (betters (RowEdits key) one seen c.rows.least w.in-Some.edits c.rows.best _ so_far edits.0 w.if-edits-least.true)
      | in-Some+else-edits-least w ↦
          let edits = rw w.in-Some.is at c.in_ok-edits.ensures in
          rw (w.best-is, w.least-is, next, ← grown)
          (keeps (RowEdits key) one seen c.rows.least w.in-Some.edits c.rows.best row so_far edits.0 w.if-edits-least.false)
      | in_default-2 w ↦
          rw (w.best-is, w.least-is, next, ← grown)
          (passes (RowEdits key) seen (row ∷ []) c.rows.least c.rows.best so_far
          (far_one (RowEdits key) row (rw w.in_default-2.is at c.in_ok-edits.ensures)))
    ]

pub runs-preserved : goal.runs-preserved
runs-preserved c =
    let key = key_of c.args.key.now in
    let run = c.index-runs-place.result in
    rw (rows_more c.args.runs.now c.runs.place run c.runs-test.true (sym c.index-runs-place.is))
    (rw (take_all c.rows.row-index run.rows.now (omega (arith, c.rows-test.false))) at c.rows.invariant)

pub returns : goal.returns
returns c =
    let key = key_of c.args.key.now in
    whole (RowEdits key) (rows_of c.args.runs.now) c.runs.least c.runs.best
    (rw (take_all c.runs.place c.args.runs.now (omega (arith, c.runs-test.false))) at c.runs.invariant)

pub one_part_edits-requires-clause-relation : goal.one_part_edits-requires-clause-relation
one_part_edits-requires-clause-relation c =
    let key = key_of c.args.key.now in
    let run = c.index-runs-place.result in
    let is = zipped_at (λ (run : Run) (r : Relation). IsRelation run.section.now key.section r) c.args.runs.now c.args.relations.now
    c.requires c.runs.place run Same c.runs-test.true (sym c.index-runs-place.is) in
    let in_run = subst (λ (row : Row). SameWord (key_of row.key).section run.section.now) (sym c.row-item.is)
    (run.of_section c.rows.row-index c.row-item.result c.rows-test.true) in
    same_relation (key_of c.row-item.result.key).section run.section.now key.section
    (get_or c.args.relations.now c.runs.place Same) in_run is
