use Rattle.std.proofs.Common.{◌++◌, [], ◌∷◌}
use Rattle.config_file.specs.Views.{entry_of}
use Rattle.config_file.proofs.Adding.{file_adds_more, file_more, first_of}
use Rattle.config_file.proofs.Scopes.{scope_both}
use Rattle.config_file.proofs.settings.Settings.add_file.Goals as goal

pub loop-entry-preserved : goal.loop-entry-preserved
loop-entry-preserved c =
    let (entries, reads, adds) = c.loop-entry.invariant.0 in
    let gives = rw c.in-Ok.is at c.in-Some.ensures.steps in (
      (
        entries ++ entry_of c.in-Ok.entry ∷ [],
        λ left error h. file_more c.args.text.now entries left (entry_of c.in-Ok.entry) error
            (reads (entry_of c.in-Ok.entry ∷ left) error (gives left error h)),
        file_adds_more c.args.file.now entries (entry_of c.in-Ok.entry) c.args.self.now.entries.items
            c.loop-entry.self.entries.items c.add.new.self.entries.items adds c.in-Ok-add.ensures.adds,
      ),
      scope_both c.args.scope c.args.self.now.entries.items c.loop-entry.self.entries.items c.add.new.self.entries.items
          c.loop-entry.invariant.1 c.add.ensures.scope,
    )

pub returns-in-Err-add-clause-adds : goal.returns-in-Err-add-clause-adds
returns-in-Err-add-clause-adds c =
    let (entries, reads, adds) = c.loop-entry.invariant.0 in
    (entries, first_of c.args.text.now entries c.loop-entry.entry-iterator reads, rw c.in-Err-add.ensures.adds adds)
