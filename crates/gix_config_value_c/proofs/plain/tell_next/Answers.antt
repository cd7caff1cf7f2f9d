use Rattle.std.proofs.Common.{arith, refl, ◌∙◌, None, Some, Err}
use Rattle.gix_config_value_c.specs.Plain.Stays.{no_entry, includes, short}
use Rattle.gix_config_value_c.proofs.Frames.{put_behind}
use Rattle.gix_config_value_c.proofs.plain.tell_next.Goals as goal

pub returns-in-Some-Err-clause-ok : goal.returns-in-Some-Err-clause-ok
returns-in-Some-Err-clause-ok c = (
  refl,
  refl,
  no_entry c.in-Some.file c.next.new.self (Some (Err c.in-Some-Err.field-0-0))
      c.in-Some.ensures (rw c.in-Some-Err.field-0-is at c.in-Some-Err.ensures.steps) (λ entry is. cc),
)

pub returns-in-None-clause-ok : goal.returns-in-None-clause-ok
returns-in-None-clause-ok c = (
  refl,
  refl,
  no_entry c.in-Some.file c.next.new.self None c.in-Some.ensures
      c.in-None.ensures.steps (λ entry is. cc),
)

pub returns-in_default-include : goal.returns-in_default-include
returns-in_default-include c = record {
  ok = (
    refl,
    refl,
    includes c.in-Some.file c.next.new.self c.in-Some-Ok.entry c.in_ok-include.include c.in-Some.ensures
        (rw c.in-Some-Ok.field-0-is at c.in-Some-Ok.ensures.steps) c.in_ok-include.ensures c.in_default-include.not-NotFollowed,
  );
  err = tt;
}

pub returns-then-buffer-size-clause-ok : goal.returns-then-buffer-size-clause-ok
returns-then-buffer-size-clause-ok c = (
  refl,
  refl,
  short c.in-Some.file c.next.new.self c.in-Some-Ok.entry
      c.in_ok-texts.texts c.in-Some.ensures (rw c.in-Some-Ok.field-0-is at c.in-Some-Ok.ensures.steps) (rw c.in-NotFollowed.is at c.in_ok-texts.ensures)
      (omega (arith, c.if-buffer-size.true, c.len-length.ensures)),
)

pub returns-clause-ok : goal.returns-clause-ok
returns-clause-ok c = (
  c.in_ok-texts.texts,
  record {
    held = c.in-Some.file;
    held' = record { place = c.in-Some.file.place; entries = c.next.new.self; forbids_urls = c.in-Some.file.forbids_urls };
    entry = c.in-Some-Ok.entry;
    holds = c.in-Some.ensures;
    gives = rw c.in-Some-Ok.field-0-is at c.in-Some-Ok.ensures.steps;
    place = refl;
    forbids = refl;
    plain = rw c.in-NotFollowed.is at c.in_ok-include.ensures;
    are_texts = rw c.in-NotFollowed.is at c.in_ok-texts.ensures;
    is_step = rw c.in-NotFollowed.is at c.step_struct.ensures;
    holds' = c.held.ensures;
  },
  omega (arith, c.if-buffer-size.false, c.len-length.ensures, c.requires),
  put_behind c.args.buffer.now c.copy_from_slice.new.self c.in_ok-texts.texts.bytes.items _ c.args.size
      (c.copy_from_slice.ensures.after ∙ c.deref.ensures.value) c.requires,
)
