use Rattle.std.proofs.Common.{◌≡◌, ◌==◌, true, false, arith}
use Rattle.std.proofs.lemmas.Grind.{common_steps}
use Rattle.std.specs.List.{list_any}
use Rattle.config_word.specs.Laws.Attribute.{constant_told}
use Rattle.config_word.specs.Reading.Attribute.{shown_rows}
use Rattle.config_word.proofs.attribute.Attribute.is_constant.Goals as goal

pub returns-then-eq : goal.returns-then-eq
returns-then-eq c =
    let any : true ≡ list_any (λ row. row.0 == c.args.self.0) shown_rows = grind (arith, common_steps) in
    rw (← any) at (constant_told c.args.self)

pub returns : goal.returns
returns c =
    let none : false ≡ list_any (λ row. row.0 == c.args.self.0) shown_rows = grind (arith, common_steps) in
    rw (← none) at (constant_told c.args.self)
