use Rattle.std.proofs.Common.{sym, rules}
use Rattle.std.proofs.lemmas.List.{take_all}
use Rattle.config_checks.specs.Mending.{none, mended, left}
use Rattle.config_checks.proofs.NearestLemmas.{take_more}
use Rattle.config_checks.proofs.mending.mends_of.Goals.{in-Some+in_ok-push, in_default}
use Rattle.config_checks.proofs.mending.mends_of.Goals as goal

pub loop-proposal-init : goal.loop-proposal-init
loop-proposal-init c = record { so_far = λ settings are. rw c.new-mends.ensures.items none; last = tt }

pub loop-proposal-preserved : goal.loop-proposal-preserved
loop-proposal-preserved c =
    let one = c.proposal-item.result in
    let taken = take_more c.args.proposals.now c.loop-proposal.proposal-index one c.loop-proposal-test.true (sym c.proposal-item.is) in
    let is = c.in_ok-change.ensures.change in
    let so_far = c.loop-proposal.invariant.so_far in
    record {
      so_far = λ settings are. elim c.match-branch-2.branch [
        | in-Some+in_ok-push w ↦
            rw (taken, w.mends-is, w.in_ok-push.ensures.items)
            (mended one w.in-Some.change (so_far settings are) (rw w.in-Some.is at (is settings are)))
        | in_default w ↦ rw (taken, w.mends-is)
            (left one (so_far settings are) (rw w.in_default.is at (is settings are)))
      ];
      last = c.in_ok-change.ensures.last;
    }

pub returns : goal.returns
returns c settings are =
    rw (take_all c.loop-proposal.proposal-index c.args.proposals.now (search rules)) at
    (c.loop-proposal.invariant.so_far settings are)
