use Rattle.std.proofs.Common.{◌++◌, ◌∙◌, Err, subst, sym}
use Rattle.config_file.specs.declared.include.Urls.TheVariants.{Sought}
use Rattle.config_file.specs.declared.walk.Known.{Known}
use Rattle.config_search.specs.Reads.{knowing}
use Rattle.config_search.specs.Reading.{RoundsTo}
use Rattle.config_search.specs.declared.rounds.Round.{Round}
use Rattle.config_search.proofs.Phases.{seeks_halt, urls_more}
use Rattle.config_search.proofs.rounds.Rounds.seek.Goals as goal

pub returns-in-Ok-clause-seeks : goal.returns-in-Ok-clause-seeks
returns-in-Ok-clause-seeks c = (
  c.begin.ensures.same,
  λ system opened read agrees right are.
      let (empty, asks, (all, come, urls)) = rw (sym c.replace.ensures.value ∙ c.in-Seeks.is) at are in
      let (more, each, comes) = c.in-Ok.ensures.reads tt in (
        empty,
        c.begin.ensures.round.0,
        c.begin.ensures.round.1,
        rw (c.begin.ensures.same.0, c.begin.ensures.same.1) asks,
        (
          all ++ more,
          rw (c.begin.ensures.same.0, c.begin.ensures.same.1, sym c.knowing-known.ensures)
              (comes system opened all agrees right.0 right.1 (rw c.knowing-known.ensures come)),
          urls_more all each urls,
        ),
      ),
)

pub returns-in-Err-clause-seeks : goal.returns-in-Err-clause-seeks
returns-in-Err-clause-seeks c = (
  c.set_phase.ensures.same,
  λ system opened read agrees right are.
      let (empty, asks, (all, come, urls)) = rw (sym c.replace.ensures.value ∙ c.in-Seeks.is) at are in
      seeks_halt system c.args.start.now c.args.self.now c.set_phase.new.self c.in-Seeks.remotes
      c.read.new.receiver opened read
      c.in-Err.halt c.set_phase.ensures.same c.set_phase.ensures.phase empty asks all urls
      (λ kept. let (more, each, comes) = c.in-Err.ensures.reads kept in (
        more,
        each,
        subst (λ (round : Round). RoundsTo system c.args.start.now (knowing c.args.self.now.known Sought)
            c.args.self.now.texts opened round (all ++ more) (Err c.in-Err.halt))
            (sym c.set_phase.ensures.round)
            (subst (λ (known : Known). RoundsTo system c.args.start.now known c.args.self.now.texts opened
            c.read.new.self (all ++ more)
            (Err c.in-Err.halt)) c.knowing-known.ensures (comes system opened all agrees right.0 right.1
            (rw c.knowing-known.ensures come))),
      )),
)
