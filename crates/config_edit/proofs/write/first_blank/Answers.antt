use Rattle.std.proofs.Common.{arith, rules, inl, inr, ◌∙◌, ap, ◌∷◌, [], sym}
use Rattle.config_edit.proofs.Changed.{first_one, none_first}
use Rattle.config_edit.proofs.Edits.{is_none_left, is_some_left}
use Rattle.config_edit.proofs.write.first_blank.Goals as goal

pub returns-in-None-clause-parts : goal.returns-in-None-clause-parts
returns-in-None-clause-parts c =
    none_first c.args.blanks.now c.split_at.result.0.now c.split_at.result.1.now (search rules)
    (omega (arith, c.split_at.ensures.front_len)) (inl c.in-None.ensures)

pub returns-then-first-ne13-clause-parts : goal.returns-then-first-ne13-clause-parts
returns-then-first-ne13-clause-parts c =
    first_one c.args.blanks.now c.split_at-then-first-ne13.result.0.now c.split_at-then-first-ne13.result.1.now
    c.in-Some.rest.now c.in-Some.first (search rules)
    (omega (arith, c.split_at-then-first-ne13.ensures.front_len)) c.in-Some.ensures (λ (is, none).
    c.if-first-ne13.true is)

pub returns-then-is_empty-clause-parts : goal.returns-then-is_empty-clause-parts
returns-then-is_empty-clause-parts c =
    let none = is_none_left c.in-Some.rest.now (sym c.if-is_empty.true ∙ c.is_empty.ensures) in
    none_first c.args.blanks.now c.split_at-then-is_empty.result.0.now c.split_at-then-is_empty.result.1.now
    (search rules)
    (omega (arith, c.split_at-then-is_empty.ensures.front_len))
    (inr (c.in-Some.ensures ∙ ap (λ r. c.in-Some.first ∷ r) none
    ∙ ap (λ b. b ∷ []) (omega (arith, c.if-first-ne13.false))))

pub returns-else-is_empty-clause-parts : goal.returns-else-is_empty-clause-parts
returns-else-is_empty-clause-parts c =
    first_one c.args.blanks.now c.split_at-else-is_empty.result.0.now c.split_at-else-is_empty.result.1.now
    c.in-Some.rest.now c.in-Some.first (search rules)
    (omega (arith, c.split_at-else-is_empty.ensures.front_len)) c.in-Some.ensures
    (λ (is, none). is_some_left c.in-Some.rest.now (sym c.if-is_empty.false ∙ c.is_empty.ensures) none)
