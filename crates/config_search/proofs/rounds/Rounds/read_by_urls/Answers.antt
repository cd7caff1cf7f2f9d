use Rattle.std.proofs.Common.{◌∙◌, [], Err, Ok, ap, map, refl}
use Rattle.config_search.specs.declared.halt.Halt.TheVariants.{Stops}
use Rattle.config_search.proofs.Phases.{url_ends}
use Rattle.config_search.proofs.RoundSteps.{round_begins}
use Rattle.config_search.proofs.rounds.Rounds.read_by_urls.Goals as goal

pub returns-in-Ok-clause-reads : goal.returns-in-Ok-clause-reads
returns-in-Ok-clause-reads g c = (
  (refl, refl),
  λ kept.
      let (more, each, comes) = c.in-Ok.ensures.reads tt in (
        more,
        each,
        λ system opened read agrees right has.
            let same = ap (map (λ url. url.now)) c.deref-2.ensures.value ∙ c.in_ok-urls.ensures ∙ ap
            (map (λ text. text.items)) c.deref.ensures.value in
            let ended = rw c.knowing-known.ensures at (comes system opened [] agrees right.0 right.1
            (round_begins system c.args.start.now c.knowing-known.result c.args.self.now.texts.list.items
            c.args.self.now.round has.1 has.2)) in
            url_ends system c.args.start.now c.args.self.now
            (record {
              texts = c.args.self.now.texts;
              known = c.args.self.now.known;
              round = c.read.new.self;
              phase = c.args.self.now.phase;
            })
            opened read more c.deref-2.result c.args.remotes.now (Ok tt) (refl, refl) has same tt ended,
      ),
)

pub returns-in-Ok-into_stop-clause-reads : goal.returns-in-Ok-into_stop-clause-reads
returns-in-Ok-into_stop-clause-reads g c = (
  (refl, refl),
  λ kept.
      let (more, each, comes) = (rw c.in-Ok-into_stop.ensures.same at c.in-Err.ensures.reads) tt in (
        more,
        each,
        λ system opened read agrees right has.
            let same = ap (map (λ url. url.now)) c.deref-2.ensures.value ∙ c.in_ok-urls.ensures ∙ ap
            (map (λ text. text.items)) c.deref.ensures.value in
            let ended = rw c.knowing-known.ensures at (comes system opened [] agrees right.0 right.1
            (round_begins system c.args.start.now c.knowing-known.result c.args.self.now.texts.list.items
            c.args.self.now.round has.1 has.2)) in
            url_ends system c.args.start.now c.args.self.now
            (record {
              texts = c.args.self.now.texts;
              known = c.args.self.now.known;
              round = c.read.new.self;
              phase = c.args.self.now.phase;
            })
            opened read more c.deref-2.result c.args.remotes.now (Err (Stops c.in-Ok-into_stop.stop))
            (refl, refl) has same tt ended,
      ),
)
