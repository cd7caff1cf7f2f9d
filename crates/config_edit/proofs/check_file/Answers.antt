use Rattle.std.proofs.Common.{◌++◌, [], ◌∷◌}
use Rattle.config_file.specs.Views.{entry_of}
use Rattle.config_file.proofs.Adding.{file_more}
use Rattle.config_edit.proofs.check_file.Goals as goal

pub loop-entry-preserved : goal.loop-entry-preserved
loop-entry-preserved c =
    let (entries, reads) = c.loop-entry.invariant in
    let gives = rw c.in_default.is at c.in-Some.ensures.steps in
    let entry = entry_of c.in_default.field-0 in (
      entries ++ entry ∷ [],
      λ left error h. file_more c.args.text.now entries left entry error
          (reads (entry ∷ left) error (gives left error h)),
    )
