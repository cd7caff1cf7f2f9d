use Rattle.std.proofs.Common.{map, IsTrue, ◌↔◌}
use Rattle.config_checks.specs.Shapes.{Alternate}
use Rattle.config_checks.specs.Reading.Steps.{Turn}
use Rattle.config_checks.proofs.shape.are_colors_by_age.Given as goal

abbrev pub invariant-loop-field : goal.invariant-loop-field
invariant-loop-field l = (IsTrue l.is_right ↔ Alternate l.color (map (λ field. field.now) l.yielded))
    × Turn l.color (map (λ field. field.now) l.yielded)
