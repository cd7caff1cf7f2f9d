use Rattle.config_search.proofs.StageSteps.{site_stops}
use Rattle.config_search.proofs.stages.pass_weighed.Goals as goal

pub halts-requires-clause-stops : goal.halts-requires-clause-stops
halts-requires-clause-stops c = λ system stop agrees.
    site_stops system c.args.lookup.now.folder.now c.args.site stop (c.requires system agrees).0

pub halts-requires-in-Err-refuse-clause-stops : goal.halts-requires-in-Err-refuse-clause-stops
halts-requires-in-Err-refuse-clause-stops c = λ system stop agrees.
    site_stops system c.args.lookup.now.folder.now c.args.site stop (c.requires system agrees).0

pub returns-in-Trusted-clause-right : goal.returns-in-Trusted-clause-right
returns-in-Trusted-clause-right c = λ system agrees. rw c.to.ensures.same (
  (c.requires system agrees).0,
  rw c.in-Trusted.is at (c.in-Ok.ensures system c.args.site.start.name.now agrees),
)

pub returns-in-Other-clause-right : goal.returns-in-Other-clause-right
returns-in-Other-clause-right c = λ system agrees. let (site, are) = c.requires system agrees in
    let other = rw c.in-Other.is at (c.in-Ok.ensures system c.args.site.start.name.now agrees) in
    rw c.to-in-Other.ensures.same (
      site,
      record {
        other = other.0;
        real = rw c.new.ensures.folder other.1;
        are_read = rw c.new.ensures.settings are;
        so_far = c.new.ensures.safe system c.args.site.start.name.now;
      },
    )

pub refuse-requires-clause-right : goal.refuse-requires-clause-right
refuse-requires-clause-right c = λ system agrees. (c.requires system agrees).0

pub refuse-requires-clause-refuses : goal.refuse-requires-clause-refuses
refuse-requires-clause-refuses c = λ system agrees.
    rw c.in-Refused.is at (c.in-Ok.ensures system c.args.site.start.name.now agrees)
