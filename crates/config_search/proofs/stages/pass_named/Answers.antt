use Rattle.config_search.proofs.StageSteps.{site_stops}
use Rattle.config_search.proofs.Unchangeable.{are_listed}
use Rattle.config_search.proofs.stages.pass_named.Goals as goal

pub halts-requires-clause-stops : goal.halts-requires-clause-stops
halts-requires-clause-stops c = λ system stop agrees.
    site_stops system c.args.lookup.now.folder.now c.args.site stop (c.requires system agrees).0

pub halts-requires-clause-right : goal.halts-requires-clause-right
halts-requires-clause-right c = λ system agrees. let (site, is) = c.requires system agrees in (
  site,
  record {
    other = is.other;
    real = rw c.look_at_next.ensures.same.1 is.real;
    are_read = rw c.look_at_next.ensures.same.0 is.are_read;
    so_far = c.look_at_next.ensures.safe system agrees (are_listed system _ _ is.are_read) is.so_far;
  },
)

pub halts-requires-in-Err-decide-clause-stops : goal.halts-requires-in-Err-decide-clause-stops
halts-requires-in-Err-decide-clause-stops c = λ system stop agrees.
    site_stops system c.args.lookup.now.folder.now c.args.site stop (c.requires system agrees).0

pub decide-requires-clause-decides : goal.decide-requires-clause-decides
decide-requires-clause-decides c = λ system agrees.
    rw c.in-Some.is at (c.decides.ensures system c.args.site.start.name.now (c.requires system agrees).1.so_far)

pub returns-in-Ok-clause-right : goal.returns-in-Ok-clause-right
returns-in-Ok-clause-right c = λ system agrees. let (site, is) = c.requires system agrees in
    rw c.to.ensures.same (
      site,
      record {
        other = is.other;
        real = rw c.look_at_next.ensures.same.1 is.real;
        are_read = rw c.look_at_next.ensures.same.0 is.are_read;
        so_far = c.look_at_next.ensures.safe system agrees (are_listed system _ _ is.are_read) is.so_far;
      },
    )

pub returns-in-None-clause-right : goal.returns-in-None-clause-right
returns-in-None-clause-right c = λ system agrees. rw c.to-in-None.ensures.same (
  (c.requires system agrees).0,
  rw c.in-None.is at (c.in-Ok-decide.ensures system agrees),
)

pub returns-clause-right : goal.returns-clause-right
returns-clause-right c = λ system agrees. rw c.to-in-Some-found.ensures.same
    (rw c.in-Some-found.is at (c.in-Ok-decide.ensures system agrees))
