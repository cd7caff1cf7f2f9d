use Rattle.std.proofs.Common.{rules}
use Rattle.config_text.proofs.SettingsLemmas.{absent_by, decides_at}
use Rattle.config_text.proofs.settings.deciding_entry.Goals as goal

pub returns-in_err-index : goal.returns-in_err-index
returns-in_err-index c = rw c.from_residual.ensures (absent_by _ _ (search rules))

pub returns : goal.returns
returns c = decides_at c.args.entries.now c.args.name.now c.in_ok-index.index _ (search rules) (search rules)
    (search rules)
