use Rattle.std.proofs.Common.{◌≡◌, map, flat_map, All}
use Rattle.config_checks.specs.Rows.{field_if_some}
use Rattle.config_checks.proofs.TableLemmas.{IsNoComment}
use Rattle.config_checks.proofs.table.fields_of.Given as goal

abbrev pub invariant-loop-field : goal.invariant-loop-field
invariant-loop-field l = record {
  fields : map (λ f. f.now) l.fields.items ≡ flat_map field_if_some (map (λ f. f.now) l.yielded);
  before : All IsNoComment (map (λ f. f.now) l.yielded);
}
