use Rattle.config_search.proofs.Lists.{of_both}
use Rattle.config_search.proofs.files.push_repository.Goals as goal

pub returns : goal.returns
returns c = of_both _ _ _ c.args.shared.now c.args.own.now _ _ c.args.has_own c.in_ok-name.ensures c.in_ok-name-2.ensures
    c.if-not-has_own.false c.in_ok-push.ensures c.in_ok-push-2.ensures
