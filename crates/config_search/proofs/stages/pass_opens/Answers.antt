use Rattle.std.proofs.Common.{[]}
use Rattle.config_search.proofs.stages.pass_opens.Goals as goal

pub returns-in-Ok-clause-right : goal.returns-in-Ok-clause-right
returns-in-Ok-clause-right c = λ system agrees. let (site, (files, are, opening)) = c.requires system
    agrees in
    rw c.to.ensures.same (
      site,
      (
        files,
        are,
        c.in-Ok.ensures.opens system c.args.site.start.name.now files
            agrees opening,
      ),
    )

pub returns-in-Err-clause-right : goal.returns-in-Err-clause-right
returns-in-Err-clause-right c = λ system agrees. let (site, (files, are, opening)) = c.requires system
    agrees in
    rw c.stays.ensures.same (
      site,
      (
        files,
        are,
        c.in-Err.ensures.opens system c.args.site.start.name.now
            files agrees opening,
      ),
    )

pub returns-in-Ok-outside-clause-right : goal.returns-in-Ok-outside-clause-right
returns-in-Ok-outside-clause-right c = λ system agrees. let (site, (files, are, opening)) = c.requires
    system agrees in
    let ((opened, are_opened, ends), dirs) = rw c.if-not-opening.false at opening in
    rw c.to-in-Ok-outside.ensures.same (
      site,
      record {
        files = files;
        are_files = are;
        opened = opened;
        are_opened = rw c.new-rounds.ensures.texts are_opened;
        are_right = (rw c.new-rounds.ensures.texts dirs, rw c.new-rounds.ensures.texts ends);
        is_known = rw c.new-rounds.ensures.known (c.in-Ok-outside.ensures system agrees);
        read = [];
        in_rounds = c.new-rounds.ensures.begins system c.args.site.start.name.now opened;
        are = rw c.new.ensures tt;
      },
    )
