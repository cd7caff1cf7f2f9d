use Rattle.std.proofs.Common.{rules, ◌-◌}
use Rattle.config_file.specs.KeyView.{key_of}
use Rattle.config_file.proofs.Last.{found, not_found, at_index}
use Rattle.config_file.proofs.settings.last_of.Goals as goal

pub returns-then-is_of : goal.returns-then-is_of
returns-then-is_of c =
    found c.args.settings.now (key_of c.args.key.now) (c.settings.index - 1) c.settings.index c.index-settings-index.result
    c.is_of.result
    (at_index c.args.settings.now (c.settings.index - 1) c.index-settings-index.result (search rules) c.index-settings-index.is)
    (search rules) (search rules) (search rules) c.is_of.ensures c.settings.invariant.1

pub settings-preserved : goal.settings-preserved
settings-preserved c = (
  search rules,
  not_found c.args.settings.now (key_of c.args.key.now) (c.settings.index - 1) c.settings.index
      c.index-settings-index.result c.is_of.result
      (at_index c.args.settings.now (c.settings.index - 1) c.index-settings-index.result (search rules) c.index-settings-index.is)
      (search rules) (search rules) (search rules) c.is_of.ensures c.settings.invariant.1,
)
