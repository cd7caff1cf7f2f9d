use Rattle.std.proofs.Common.{refl, sym}
use Rattle.config_file.specs.declared.errors.Why.TheVariants as because
use Rattle.config_search.specs.Shown.{file_of}
use Rattle.config_search.proofs.OpenedTexts.{file_stops}
use Rattle.config_search.proofs.texts.check_unread.Goals as goal

pub returns-clause-unread : goal.returns-clause-unread
returns-clause-unread c = λ system agrees none. file_stops system c.args.start.now (file_of c.args.named.now)
    c.in-Some.reason.now
    (record { file = c.as_slice.result; line = 0; why = because.Unreadable; words = c.words_of.result })
    c.in_ok-stop.field-0
    c.in_ok-stop.ensures.stops (
      none,
      sym (rw (c.in-Some.is, c.deref.ensures.value) at (c.in_ok-reason.ensures system agrees)),
      rw c.if-is_hidden.false at c.is_hidden.ensures,
    )
    c.as_slice.ensures.value refl refl c.words_of.ensures
