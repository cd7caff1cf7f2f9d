use Rattle.std.proofs.Common.{refl}
use Rattle.config_checks.specs.Rows.{rows_of}
use Rattle.config_checks.proofs.FixLemmas.{unknown_reversed, unknown_forwards}
use Rattle.config_checks.proofs.OneKey.{known_once}
use Rattle.config_checks.proofs.fix.is_only_key.Goals as goal

pub is_only_unknown-requires : goal.is_only_unknown-requires
is_only_unknown-requires c =
    let judge = c.args.judge.now in
    let unknown = rw c.deref.ensures.value at c.in-None.ensures in record {
      unknown = rw (c.deref-in-None.ensures.value, judge.order)
          (unknown_reversed (rows_of judge.runs.items) c.args.key.now unknown);
      last = rw c.deref-in-None.ensures.value c.requires;
    }

pub returns-in-Some-clause-only : goal.returns-in-Some-clause-only
returns-in-Some-clause-only c =
    let judge = c.args.judge.now in
    let rows = rows_of judge.runs.items in
    let decides = rw c.deref.ensures.value at c.in-Some.ensures in (
      λ h k unknown. absurd (known_once rows c.args.key.now _ decides
          (unknown_forwards rows c.args.key.now (rw judge.order at unknown.unknown))),
      λ only. refl,
    )

pub returns-in-None-clause-only : goal.returns-in-None-clause-only
returns-in-None-clause-only c = rw c.deref-in-None.ensures.value at c.is_only_unknown.ensures.only

pub returns-in-None-clause-last : goal.returns-in-None-clause-last
returns-in-None-clause-last c = rw c.deref-in-None.ensures.value at c.is_only_unknown.ensures.last
