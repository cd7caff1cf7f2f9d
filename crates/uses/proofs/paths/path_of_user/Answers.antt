use Rattle.std.proofs.Common.{◌≡◌, option_copied, rules, sym, ◌∙◌}
use Rattle.gix_config_value.specs.Passwd.{home_in, IsHomeIn}
use Rattle.config_path.specs.Laws.Interpolation.{by_lookup}
use Rattle.uses.proofs.paths.path_of_user.Goals as goal

pub returns : goal.returns
returns c =
    let i = c.interpolate.ensures in
    record {
      result = i.result;
      table = by_lookup _ _ _ (IsHomeIn c.args.passwd.now) (λ name home u h.
          let found : option_copied h.0 ≡ home_in c.args.passwd.now name = let p = h.1.1 in let n = h.1.2 in
          search rules in
          sym h.2 ∙ found) _ _ i.table;
      allocated = i.allocated;
    }
