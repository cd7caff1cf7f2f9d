use Rattle.std.proofs.Common.{rules, inl, inr, ap, ◌∙◌, get_or, arith}
use Rattle.std.proofs.lemmas.Grind.{common_steps}
use Rattle.std.proofs.lemmas.List.{map-append}
use Rattle.config_file.specs.Settings.{none}
use Rattle.config_file.proofs.Last.{all_next, picks_done, at_index}
use Rattle.config_file.proofs.settings.Settings.all.Goals as goal
use Rattle.config_file.proofs.settings.Settings.all.Goals.{then-is_of+in_ok-push, else-is_of}

pub loop-setting-init : goal.loop-setting-init
loop-setting-init c = λ listed. search (rules, none)

pub loop-setting-preserved : goal.loop-setting-preserved
loop-setting-preserved c =
    all_next c.args.self.now.entries.items c.loop-setting.setting-index c.setting-item.result _ c.is_of.result
    (at_index c.args.self.now.entries.items c.loop-setting.setting-index c.setting-item.result (search rules)
    (c.setting-item.is
    ∙ ap (λ s. get_or s c.loop-setting.setting-index c.setting-item.result) c.deref-setting-items.ensures.value))
    (search rules) c.is_of.ensures (elim c.if-is_of.branch [
      | then-is_of+in_ok-push w ↦ inl (search rules, grind (arith, common_steps, map-append))
      | else-is_of w ↦ inr (search rules, search rules)
    ]) c.loop-setting.invariant

pub returns : goal.returns
returns c =
    picks_done c.args.self.now.entries.items c.loop-setting.setting-index (search rules) c.loop-setting.invariant
