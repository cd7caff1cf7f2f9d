use Rattle.std.proofs.Common.{refl, sym, ◌∙◌}
use Rattle.config_file.proofs.Spellings.{not_spelled}
use Rattle.config_edit.proofs.EditedKeys.{has_spelling}
use Rattle.config_edit.proofs.check_value.Goals as goal

pub returns-then-is_spellable : goal.returns-then-is_spellable
returns-then-is_spellable c =
    let is = sym c.is_spellable.ensures ∙ c.if-is_spellable.true in (is, has_spelling c.args.value.now is)

pub returns-else-is_spellable : goal.returns-else-is_spellable
returns-else-is_spellable c =
    (refl, not_spelled c.args.value.now (sym c.is_spellable.ensures ∙ c.if-is_spellable.false))
