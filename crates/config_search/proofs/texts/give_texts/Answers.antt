use Rattle.std.proofs.Common.{◌∷◌, ◌∙◌, ◌++◌, [], ap, map, refl, rules, sym, take}
use Rattle.std.proofs.lemmas.List.{map-append, take_all}
use Rattle.std.proofs.lemmas.List.Elements.{All-nil, All-push}
use Rattle.std.proofs.lemmas.Option.{slice_get-get_or}
use Rattle.config_search.specs.Handing.{given_of}
use Rattle.config_search.specs.Reading.{IsAtDir, text_of}
use Rattle.config_search.proofs.OpenedTexts.{next_by}
use Rattle.config_search.proofs.texts.give_texts.Goals as goal

pub given-init : goal.given-init
given-init c = (refl, ap (map text_of) c.new.ensures.items, λ system agrees. rw c.new.ensures.items (All-nil _))

pub given-preserved : goal.given-preserved
given-preserved c = (
  c.given.invariant.0,
  ap (map text_of) c.in_ok-push.ensures.pushed
      ∙ map-append text_of c.given.texts.list.items (c.in_ok-source_given.field-0 ∷ [])
      ∙ ap (λ front. front ++ text_of c.in_ok-source_given.field-0 ∷ []) c.given.invariant.1
      ∙ ap (λ last. map given_of (take c.given.text-index c.args.given.now) ++ last ∷ []) c.in_ok-source_given.ensures.0
      ∙ sym (next_by given_of c.args.given.now c.given.text-index _
      (slice_get-get_or c.args.given.now c.given.text-index _ (search rules))),
  λ system agrees. rw c.in_ok-push.ensures.pushed (All-push (IsAtDir system c.args.start.now)
      c.given.texts.list.items c.in_ok-source_given.field-0 (c.given.invariant.2 system agrees)
      (c.in_ok-source_given.ensures.1 system agrees)),
)

pub returns : goal.returns
returns c = (
  c.given.invariant.0,
  c.given.invariant.1 ∙ ap (map given_of) (take_all c.given.text-index c.args.given.now c.given-test.false),
  c.given.invariant.2,
)
