use Rattle.std.proofs.Common.{◌∙◌, map, refl, sym}
use Rattle.config_search.specs.Reads.{At, OfCommand, at_command}
use Rattle.config_search.specs.Reading.{text_of}
use Rattle.config_search.proofs.OpenedTexts.{opened_by, texts_by}
use Rattle.config_search.proofs.texts.Opening.new.Goals as goal

pub returns-then-is_some : goal.returns-then-is_some
returns-then-is_some c = λ system agrees. let (to, dirs) = c.in_ok-texts.ensures system agrees in (
  opened_by (map text_of c.in_ok-texts.texts.list.items) c.in_ok-texts.texts.stop
      (sym c.is_some.ensures ∙ c.if-is_some.true) to,
  dirs,
)

pub returns-in-Ok-into_stop : goal.returns-in-Ok-into_stop
returns-in-Ok-into_stop c = λ system agrees.
    let (to, dirs) = c.in_ok-texts.ensures system agrees in
    let (none, are) = texts_by (map text_of c.in_ok-texts.texts.list.items) c.in_ok-texts.texts.stop
    (sym c.is_some.ensures ∙ c.if-is_some.false) to in (
      (
        At OfCommand,
        at_command are,
        (
          OfCommand,
          refl,
          rw c.in-Ok-into_stop.ensures.same at
              c.in-Err.ensures.stops,
        ),
      ),
      dirs,
    )

pub returns-in-Ok : goal.returns-in-Ok
returns-in-Ok c = λ system agrees.
    let (to, dirs) = c.in_ok-texts.ensures system agrees in
    let (none, are) = texts_by (map text_of c.in_ok-texts.texts.list.items) c.in_ok-texts.texts.stop
    (sym c.is_some.ensures ∙ c.if-is_some.false) to in
    (none, are, c.in-Ok.ensures.counts system agrees, dirs)
