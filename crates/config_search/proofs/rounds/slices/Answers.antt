use Rattle.std.proofs.Common.{◌∷◌, [], length, refl, rules, take}
use Rattle.std.proofs.lemmas.List.{map-append, take_all}
use Rattle.std.proofs.lemmas.Option.{slice_get_read, slice_get_within}
use Rattle.config_file.proofs.Picked.{take_next}
use Rattle.config_search.proofs.rounds.slices.Goals as goal

pub texts-init : goal.texts-init
texts-init c = rw c.new-slices.ensures.items refl

pub texts-preserved : goal.texts-preserved
texts-preserved c =
    let at = slice_get_read c.args.texts.now (length c.args.texts.now) c.texts.text-index
    c.text-item.result refl
    (search rules) c.text-item.is in
    let next = take_next c.args.texts.now c.texts.text-index c.text-item.result at
    (slice_get_within c.args.texts.now
    c.texts.text-index c.text-item.result at) in
    rw (
      c.in_ok-push.ensures.pushed,
      next,
      map-append (λ url. url.now) c.texts.slices.items (c.as_slice.result ∷ []),
      map-append (λ text. text.items) (take c.texts.text-index c.args.texts.now) (c.text-item.result ∷ []),
      c.texts.invariant,
      c.as_slice.ensures.value,
    ) refl

pub returns : goal.returns
returns c = rw (take_all c.texts.text-index c.args.texts.now c.texts-test.false) at c.texts.invariant
