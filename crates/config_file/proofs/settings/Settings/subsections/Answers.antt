use Rattle.std.proofs.Common.{rules, ap, ◌∙◌, get_or}
use Rattle.config_file.specs.Settings.{no_settings}
use Rattle.config_file.proofs.Last.{at_index}
use Rattle.config_file.proofs.Sections.{subs_next}
use Rattle.config_file.proofs.settings.Settings.subsections.Goals as goal

pub loop-setting-init : goal.loop-setting-init
loop-setting-init c = λ listed. search (rules, no_settings)

pub loop-setting-preserved : goal.loop-setting-preserved
loop-setting-preserved c =
    subs_next (λ text. text.items) c.args.self.now.entries.items c.loop-setting.setting-index c.setting-item.result _
    c.in_ok-subsection.subsection
    (at_index c.args.self.now.entries.items c.loop-setting.setting-index c.setting-item.result (search rules)
    (c.setting-item.is
    ∙ ap (λ s. get_or s c.loop-setting.setting-index c.setting-item.result) c.deref-setting-items.ensures.value))
    (search rules) c.in_ok-subsection.ensures (search rules) c.loop-setting.invariant
