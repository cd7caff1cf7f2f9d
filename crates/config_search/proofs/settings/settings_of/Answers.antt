use Rattle.std.proofs.Common.{◌∙◌, [], refl, rules, subst, sym}
use Rattle.std.proofs.lemmas.List.{take_all}
use Rattle.config_search.specs.Folder.{Here}
use Rattle.config_search.specs.System.{AreTrueIn}
use Rattle.config_search.proofs.Collected.{collected}
use Rattle.config_search.proofs.Handings.{at_same}
use Rattle.config_search.proofs.OpenedTexts.{with_next}
use Rattle.config_search.proofs.settings.settings_of.Goals as goal

pub facts-preserved : goal.facts-preserved
facts-preserved c =
    let (searches, follows, start, answer, state) = c.in_ok-tell.ensures.same in (
      searches ∙ c.facts.invariant.0,
      c.in_ok-tell.ensures.told ∙ with_next c.args.facts.now c.facts.reading.search.facts c.facts.fact-index _
          (search rules) c.facts.invariant.1,
      follows ∙ c.facts.invariant.2,
      λ system. at_same system Here c.facts.reading c.tell.new.self [] searches follows start answer state
          (c.facts.invariant.3 system),
    )

pub returns : goal.returns
returns c = λ system agrees.
    let (more, each, ends) = c.in_ok-read.ensures.hands tt in
    let told = c.facts.invariant.1 ∙ take_all c.facts.fact-index c.args.facts.now c.facts-test.false in (
      c.read.new.self.answer,
      more,
      rw (c.in_ok-read.ensures.same.0, c.in_ok-read.ensures.same.1, c.facts.invariant.0, c.facts.invariant.2) at
          (ends system Here [] (subst (AreTrueIn system) (sym told) agrees) (c.facts.invariant.3 system)),
      collected c.new-collector.ensures each,
    )
