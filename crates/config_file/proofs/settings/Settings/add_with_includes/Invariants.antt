use Rattle.config_file.specs.Settings.{AddsInScope}
use Rattle.config_file.proofs.Coming.{Keeps}
use Rattle.config_file.proofs.settings.Settings.add_with_includes.Given as goal

abbrev pub invariant-steps : goal.invariant-steps
invariant-steps g l =
    Keeps (g.S.Files.contents l.fn.files) l.fn.known l.fn.place l.fn.text l.fn.self.entries.items
    l.self.entries.items l.walk.frames.items × AddsInScope l.scope l.fn.self.entries.items l.self.entries.items
