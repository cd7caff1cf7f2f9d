use Rattle.std.proofs.Common.{rules, sym, subst, refl, ◌∙◌}
use Rattle.config_file.specs.KeyView.{key_of}
use Rattle.uses.proofs.SettingLemmas.{each_is_read, settings_listed, unset, decided}
use Rattle.uses.proofs.setting_headline.value_of.Goals as goal

pub returns-in_default : goal.returns-in_default
returns-in_default g c =
    let each = each_is_read c.each_is_listed.ensures.keys c.each_is_listed.ensures.values in
    let contents = g.F.Files.contents c.args.files.now in
    let all = c.in-Ok-read_all.settings.entries.items in (
      key_of c.in-Ok.key,
      search rules,
      unset contents c.args.known.now c.args.first.now (key_of c.in-Ok.key) all c.in-Ok-read_all.ensures
          (c.in_default.ensures (settings_listed contents c.args.known.now c.args.first.now all each c.in-Ok-read_all.ensures)),
    )

pub returns-in-Ok-read : goal.returns-in-Ok-read
returns-in-Ok-read g c =
    let each = each_is_read c.each_is_listed.ensures.keys c.each_is_listed.ensures.values in
    let contents = g.F.Files.contents c.args.files.now in
    let all = c.in-Ok-read_all.settings.entries.items in
    let is = decided contents c.args.known.now c.args.first.now (key_of c.in-Ok.key) all c.in-Some.setting.now _ each
    c.in-Ok-read_all.ensures
    (c.in-Some.ensures (settings_listed contents c.args.known.now c.args.first.now all each c.in-Ok-read_all.ensures))
    refl in
    (key_of c.in-Ok.key, search rules, (is.0, _, is.1, c.in-Ok-read.ensures))

pub returns-in-Ok-from_slice : goal.returns-in-Ok-from_slice
returns-in-Ok-from_slice g c =
    let each = each_is_read c.each_is_listed.ensures.keys c.each_is_listed.ensures.values in
    let contents = g.F.Files.contents c.args.files.now in
    let all = c.in-Ok-read_all.settings.entries.items in
    let e = c.in-Ok-from_slice.ensures.items ∙ c.text.ensures in
    let is = decided contents c.args.known.now c.args.first.now (key_of c.in-Ok.key) all c.in-Some.setting.now
    c.in-Ok-from_slice.text.items each c.in-Ok-read_all.ensures
    (c.in-Some.ensures (settings_listed contents c.args.known.now c.args.first.now all each c.in-Ok-read_all.ensures))
    e in (
      key_of c.in-Ok.key,
      search rules,
      (
        is.0,
        is.1,
        is.2,
        is.3,
        subst (λ t. g.V.TryRead.refusal t c.in-Err-read.refused.fault) (sym e) c.in-Err-read.ensures.0.1,
        λ v h. c.in-Err-read.ensures.1 v (subst (λ t. g.V.Value.grammar t v) e h),
      ),
    )
