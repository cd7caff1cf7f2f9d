use Rattle.std.proofs.Common.{◌++◌}
use Rattle.config_search.proofs.StageSteps.{site_stops}
use Rattle.config_search.specs.Reading.{texts_in}
use Rattle.config_search.proofs.Phases.{asks_only, right_of}
use Rattle.config_search.proofs.Unchangeable.{collects_more}
use Rattle.config_search.proofs.stages.pass_reads.Goals as goal

pub returns-in-Ok-clause-right : goal.returns-in-Ok-clause-right
returns-in-Ok-clause-right c = λ system agrees.
    let (site, is) = c.requires system agrees in
    let (same, reads) = c.in-Ok.ensures.reads in
    let (more, each, ends) = reads tt in
    rw c.to.ensures.same (
      site,
      record {
        known = c.read.new.self.known;
        is_known = rw same.1 is.is_known;
        files = is.files;
        are_files = is.are_files;
        texts = texts_in c.read.new.self;
        opened = is.opened;
        are_opened = rw same.0 is.are_opened;
        found = is.read ++ more;
        reads = ends system is.opened is.read agrees is.are_right is.in_rounds;
        are = collects_more is.read each is.are;
      },
    )

pub halts-requires-clause-stops : goal.halts-requires-clause-stops
halts-requires-clause-stops c = λ system stop agrees.
    site_stops system c.args.lookup.now.folder.now c.args.site stop (c.requires system agrees).0

pub returns-in-Ask-clause-right : goal.returns-in-Ask-clause-right
returns-in-Ask-clause-right c = λ system agrees.
    let (site, is) = c.requires system agrees in
    let (same, reads) = rw (asks_only c.in-Err.halt c.in-Ask.question
    (rw c.in-Ask.is at c.in-Err-into_stop.ensures.same))
    at c.in-Err.ensures.reads in
    let (more, each, rounds) = reads tt in
    rw c.stays.ensures.same (
      site,
      record {
        files = is.files;
        are_files = is.are_files;
        opened = is.opened;
        are_opened = rw same.0 is.are_opened;
        are_right = right_of system c.args.site.start.name.now c.args.rounds c.read.new.self is.opened same
            is.are_right;
        is_known = rw same.1 is.is_known;
        read = is.read ++ more;
        in_rounds = rounds system is.opened is.read agrees is.are_right is.in_rounds;
        are = collects_more is.read each is.are;
      },
    )
