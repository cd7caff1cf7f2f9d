use Rattle.std.proofs.Common.{rules, Contains, refl}
use Rattle.gix_config_value.specs.declared.kind.Kind.TheVariants as kinds
use Rattle.gix_config_value.specs.declared.kind.TheConstants.Kind.{ALL}
use Rattle.gix_config_value.proofs.laws.kinds.every_kind.Goals as goal

pub returns-clause-every : goal.returns-clause-every
returns-clause-every c k = elim k as (λ k. Contains ALL k) [
  | kinds.Suffix ↦ (0, Prim.search rules, refl)
  | kinds.Integer ↦ (1, Prim.search rules, refl)
  | kinds.Amount ↦ (2, Prim.search rules, refl)
  | kinds.Boolean ↦ (3, Prim.search rules, refl)
  | kinds.Name ↦ (4, Prim.search rules, refl)
  | kinds.Attribute ↦ (5, Prim.search rules, refl)
  | kinds.Color ↦ (6, Prim.search rules, refl)
]
