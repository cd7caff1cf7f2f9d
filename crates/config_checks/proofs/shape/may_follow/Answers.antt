use Rattle.std.proofs.Common.{subst, rules}
use Rattle.std.proofs.lemmas.Bool.{false≢true}
use Rattle.config_text.specs.Value.{IsAccepted, IsRefused}
use Rattle.gix_config_value.specs.Color.{ColorText}
use Rattle.config_checks.specs.Shapes.{Follows}
use Rattle.config_checks.proofs.shape.may_follow.Goals as goal

pub returns-in-Err : goal.returns-in-Err
returns-in-Err c = (
  λ yes. absurd (false≢true yes),
  λ follows. let accepted : IsAccepted ColorText c.args.field.now =
      subst (λ color. Follows color c.args.field.now) c.if-color.false follows in
      let refused : IsRefused ColorText c.args.field.now = search rules in
      absurd (refused accepted.0 accepted.1),
)
