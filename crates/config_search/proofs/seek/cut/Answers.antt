use Rattle.std.proofs.Common.{◌∙◌, ℕ, ap, drop, take}
use Rattle.config_search.proofs.Ceilings.{empty_of, last_part, more_parts, split_first}
use Rattle.config_search.proofs.seek.cut.Goals as goal

pub returns-in-empty : goal.returns-in-empty
returns-in-empty c = λ system resolves. last_part system resolves c.args.text.now c.split_at.result.0.now
    c.split_at.result.1.now (c.split_at.ensures.front ∙ ap (λ (n : ℕ). take n c.args.text.now) c.part_length.ensures.count)
    (c.split_at.ensures.back ∙ ap (λ (n : ℕ). drop n c.args.text.now) c.part_length.ensures.count)
    (empty_of _ c.in-empty.len_below)

pub returns-in-len1-up : goal.returns-in-len1-up
returns-in-len1-up c = λ system resolves. more_parts system resolves c.args.text.now c.split_at.result.0.now
    c.split_at.result.1.now _ _ (c.split_at.ensures.front ∙ ap (λ (n : ℕ). take n c.args.text.now) c.part_length.ensures.count)
    (c.split_at.ensures.back ∙ ap (λ (n : ℕ). drop n c.args.text.now) c.part_length.ensures.count)
    (split_first _ c.in-len1-up.len_at_least)
