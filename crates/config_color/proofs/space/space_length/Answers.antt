use Rattle.std.proofs.Common.{arith}
use Rattle.config_color.specs.Laws.Space.{begins_not, start_not}
use Rattle.config_color.proofs.space.space_length.Goals as goal

pub returns-in_default-clause-none : goal.returns-in_default-clause-none
returns-in_default-clause-none c =
    λ _. begins_not c.args.bytes.now (λ l. absurd (omega arith)) (λ l. absurd (omega arith))
    (λ l. absurd (omega arith))

pub returns-in_default-3-clause-none : goal.returns-in_default-3-clause-none
returns-in_default-3-clause-none c =
    λ _. begins_not c.args.bytes.now (λ l h. cc (c.is_narrow.ensures.1 h, c.if-is_narrow.false))
    (λ l. absurd (omega arith)) (λ l. absurd (omega arith))

pub returns-in_default-4-clause-none : goal.returns-in_default-4-clause-none
returns-in_default-4-clause-none c =
    λ _. begins_not c.args.bytes.now (λ l h. cc (c.is_narrow.ensures.1 h, c.if-is_narrow.false))
    (λ l h. cc (c.is_double.ensures.1 h, c.if-is_double.false)) (λ l. absurd (omega arith))

pub returns-in_default-5-clause-none : goal.returns-in_default-5-clause-none
returns-in_default-5-clause-none c =
    λ _. begins_not c.args.bytes.now (λ l h. cc (c.is_narrow.ensures.1 h, c.if-is_narrow.false))
    (λ l h. cc (c.is_double.ensures.1 h, c.if-is_double.false))
    (λ l h. cc (c.is_triple.ensures.1 h, c.if-is_triple.false))

pub returns-in-len1-up-clause-none : goal.returns-in-len1-up-clause-none
returns-in-len1-up-clause-none c = λ _. start_not c.args.bytes.now (omega arith) (omega arith)
