use Rattle.std.proofs.Common.{◌≡◌, ap, arith, get_or, true}
use Rattle.std.specs.Prelude.{not}
use Rattle.std.proofs.lemmas.Int.{clamps}
use Rattle.std.proofs.lemmas.List.Filters.{length-filter_more}
use Rattle.config_checks.specs.Reading.Steps.{has_byte}
use Rattle.config_checks.proofs.LackLemmas.{filtered_further}
use Rattle.config_checks.proofs.AlikeLemmas.{unmarked_lacks}
use Rattle.config_checks.proofs.alike.has_more.Goals.{then-not-bytes-from+else-left-eq0, else-not-bytes-from}
use Rattle.config_checks.proofs.alike.has_more.Goals as goal

pub returns-then-left-eq0 : goal.returns-then-left-eq0
returns-then-left-eq0 c =
    let row = c.args.row.now in
    let name = c.args.name.now in
    let i = c.loop-byte.byte-index in
    let unmarked = rw c.from.ensures at c.if-not-bytes-from.true in
    let lacks = ap not (unmarked_lacks c.args.bytes.now name (get_or row i 0) c.requires unmarked) in
    let further = filtered_further (λ byte. not (has_byte name byte)) row i 0 c.loop-byte-test.true lacks in
    λ yes. omega (arith, further, c.loop-byte.invariant, c.if-left-eq0.true)

pub loop-byte-preserved : goal.loop-byte-preserved
loop-byte-preserved c =
    let row = c.args.row.now in
    let name = c.args.name.now in
    let i = c.loop-byte.byte-index in
    let more = length-filter_more (λ byte. not (has_byte name byte)) row i 0 c.loop-byte-test.true in
    elim c.if-not-bytes-from.branch [
      | then-not-bytes-from+else-left-eq0 w ↦
          let unmarked = rw c.from.ensures at w.if-not-bytes-from.true in
          let lacks : not (has_byte name (get_or row i 0)) ≡ true =
          ap not (unmarked_lacks c.args.bytes.now name (get_or row i 0) c.requires unmarked) in
          let one = rw lacks at more in
          omega (arith, clamps, one, c.loop-byte.invariant, w.if-left-eq0.false, w.left-is)
      | else-not-bytes-from w ↦ omega (arith, more, c.loop-byte.invariant, w.left-is)
    ]
