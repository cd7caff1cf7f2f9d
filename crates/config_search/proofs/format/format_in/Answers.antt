use Rattle.std.proofs.Common.{sym}
use Rattle.config_search.specs.System.{System, AreTrueIn}
use Rattle.config_search.specs.Questions.{MayName, by_settings}
use Rattle.config_search.proofs.Stores.{if_some}
use Rattle.config_search.proofs.format.format_in.Goals as goal

pub returns-in-Ok : goal.returns-in-Ok
returns-in-Ok c =
    let named : (system : System) → AreTrueIn system c.args.lookup.now.facts.now → MayName system =
    λ system agrees. by_settings (sym (rw c.in-Some.is at c.in_ok-text.ensures system agrees)) in
    if_some c.in-Ok.format.store.place named
