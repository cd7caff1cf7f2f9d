use Rattle.std.proofs.Common.{arith, refl, ◌∙◌}
use Rattle.std.proofs.lemmas.Slice.Zip.{AllZip-long}
use Rattle.config_file.specs.declared.walk.Step.TheVariants as step
use Rattle.gix_config_value_c.specs.Walks.{HoldsFrame}
use Rattle.gix_config_value_c.specs.Walks.NextInto.{told, short}
use Rattle.gix_config_value_c.proofs.Frames.{put_text}
use Rattle.gix_config_value_c.proofs.walk.gcv_raw_next.Goals as goal

pub returns-then-buffer-size : goal.returns-then-buffer-size
returns-then-buffer-size c =
    short c.in-Entry.place c.in-Entry.entry c.in-Entry.include c.next.new.self.frames.items c.in-Ok-texts_of.texts (
      c.in-Some.known,
      c.in-Some-walk_of.walk.frames.items,
      c.in-Some.ensures,
      c.in-Some-walk_of.walk.fits,
      c.in-Some-walk_of.ensures,
      λ answers. rw c.in-Entry.is at (c.in-Ok.ensures.takes answers),
    ) c.in-Ok-texts_of.ensures
    (omega (arith, c.if-buffer-size.true, c.len-size.ensures)) c.step_struct.ensures refl refl refl refl

pub put_frames-requires : goal.put_frames-requires
put_frames-requires c =
    let same = AllZip-long HoldsFrame c.args.frames.now c.in-Some-walk_of.walk.frames.items c.in-Some-walk_of.ensures in
    omega (arith, same, c.in-Ok.ensures.no_more)

pub put_frames-requires-in-Line : goal.put_frames-requires-in-Line
put_frames-requires-in-Line c =
    let same = AllZip-long HoldsFrame c.args.frames.now c.in-Some-walk_of.walk.frames.items c.in-Some-walk_of.ensures in
    omega (arith, same, c.in-Ok.ensures.no_more)

pub put_frames-requires-in-Ends : goal.put_frames-requires-in-Ends
put_frames-requires-in-Ends c =
    let same = AllZip-long HoldsFrame c.args.frames.now c.in-Some-walk_of.walk.frames.items c.in-Some-walk_of.ensures in
    omega (arith, same, c.in-Ok.ensures.no_more)

pub returns-else-buffer-size : goal.returns-else-buffer-size
returns-else-buffer-size c =
    told (step.Entry c.in-Entry.place c.in-Entry.entry c.in-Entry.include) c.next.new.self.frames.items (
      c.in-Some.known,
      c.in-Some-walk_of.walk.frames.items,
      c.in-Some.ensures,
      c.in-Some-walk_of.walk.fits,
      c.in-Some-walk_of.ensures,
      λ answers. rw c.in-Entry.is at (c.in-Ok.ensures.takes answers),
    ) c.put_frames.ensures.count c.put_frames.ensures.holds (
      c.in-Ok-texts_of.texts,
      c.in-Ok-texts_of.ensures,
      c.step_struct.ensures,
      omega (arith, c.if-buffer-size.false, c.len-size.ensures),
      put_text _ c.in-Ok-texts_of.texts.bytes.items c.args.buffer.now c.len-size.result
          (c.copy_from_slice.ensures.after ∙ c.deref.ensures.value) (omega (arith, c.len-size.ensures)),
      refl,
    )

pub returns-in-Line : goal.returns-in-Line
returns-in-Line c =
    told (step.Line c.in-Line.place c.in-Line.error) c.next.new.self.frames.items (
      c.in-Some.known,
      c.in-Some-walk_of.walk.frames.items,
      c.in-Some.ensures,
      c.in-Some-walk_of.walk.fits,
      c.in-Some-walk_of.ensures,
      λ answers. rw c.in-Line.is at (c.in-Ok.ensures.takes answers),
    ) c.put_frames-in-Line.ensures.count c.put_frames-in-Line.ensures.holds
    (refl, c.line_struct.ensures, c.number.ensures)

pub returns-in-Ends : goal.returns-in-Ends
returns-in-Ends c =
    told step.Ends c.next.new.self.frames.items (
      c.in-Some.known,
      c.in-Some-walk_of.walk.frames.items,
      c.in-Some.ensures,
      c.in-Some-walk_of.walk.fits,
      c.in-Some-walk_of.ensures,
      λ answers. rw c.in-Ends.is at (c.in-Ok.ensures.takes answers),
    ) c.put_frames-in-Ends.ensures.count c.put_frames-in-Ends.ensures.holds (refl, refl, refl)
