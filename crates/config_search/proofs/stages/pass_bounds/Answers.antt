use Rattle.std.proofs.Common.{refl, rules, sym}
use Rattle.config_search.specs.Search.{in_above, without_path}
use Rattle.config_search.proofs.Places.{real_place}
use Rattle.config_search.proofs.StageSteps.{start_comes}
use Rattle.config_search.proofs.stages.pass_bounds.Goals as goal

pub real_folder-requires : goal.real_folder-requires
real_folder-requires c = λ system agrees. start_comes system _ c.args.start (c.requires system agrees).begun

pub returns-in-Some-clause-right : goal.returns-in-Some-clause-right
returns-in-Some-clause-right c = λ system agrees.
    let is = c.requires system agrees in
    let real = sym (rw c.in-Some.is at (c.in-Ok-real_folder.ensures system agrees)) in
    rw c.to-in-Some.ensures.same record {
      begun = is.begun;
      are_limits = is.are_limits;
      whole = c.are_whole.ensures (search rules);
      place = real_place system _ _ _ (start_comes system _ c.args.start is.begun) real;
      goes_on = λ found above. in_above c.in-Some.lowest.now is.unset is.nothing real above;
    }

pub returns-clause-right : goal.returns-clause-right
returns-clause-right c = λ system agrees.
    let is = c.requires system agrees in
    rw c.to-in-None.ensures.same (
      is.begun,
      without_path is.unset is.nothing
          (sym (rw c.in-None.is at (c.in-Ok-real_folder.ensures system agrees))) refl,
    )
