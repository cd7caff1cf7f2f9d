-- The order of booleans.
use Rattle.std.specs.Ordering.{bool_cmp, on}
use Rattle.std.specs.declared.cmp.Ordering.{Ordering}
use Rattle.config_boolean.specs.declared.boolean.Boolean.{Boolean}

-- false before true
abbrev pub boolean_order : Boolean → Boolean → Ordering
boolean_order = on (λ v. v.0) bool_cmp
