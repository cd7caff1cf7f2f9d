use Rattle.std.proofs.Common.{sym, arith}
use Rattle.std.proofs.lemmas.List.{take_all}
use Rattle.config_checks.specs.Reading.Steps.{IsRelation}
use Rattle.std.proofs.lemmas.Slice.Zip.{all_zipped_more}
use Rattle.config_checks.specs.declared.row.Run.{Run}
use Rattle.config_checks.specs.declared.suggestion.Relation.{Relation}
use Rattle.config_checks.proofs.NearestLemmas.{take_more}
use Rattle.config_checks.proofs.suggestion.relations_of.Goals as goal

pub relation_after-requires : goal.relation_after-requires
relation_after-requires c = c.loop-run.invariant.1

pub loop-run-preserved : goal.loop-run-preserved
loop-run-preserved c =
    let section = c.args.section.now in
    let run = c.run-item.result in
    let is = c.in_ok-relation.ensures in (
      rw (
        take_more c.args.runs.now c.loop-run.run-index run c.loop-run-test.true (sym c.run-item.is),
        c.in_ok-push.ensures.items,
      )
          (all_zipped_more (λ (run : Run) (r : Relation).
          IsRelation run.section.now section r) _ _ run c.in_ok-relation.relation
          c.loop-run.invariant.0 is),
      is,
    )

pub returns : goal.returns
returns c = rw (take_all c.loop-run.run-index c.args.runs.now
    (omega (arith, c.loop-run-test.false))) at c.loop-run.invariant.0
