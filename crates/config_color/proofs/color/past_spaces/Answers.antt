use Rattle.std.proofs.Common.{rules, arith, ℕ, List, length, take, drop, length-drop, le_trans, ◌≤◌, ◌-◌, ◌∙◌}
use Rattle.std.proofs.lemmas.List.{take_rest}
use Rattle.config_color.specs.Laws.Split.{words_past_run, words_past_space}
use Rattle.config_color.proofs.color.past_spaces.Goals as goal

-- what follows the first `n` bytes is no longer than the text
rest_shorter : (n : ℕ) (t : List ℕ) → length (take (length t - n) (drop n t)) ≤ length t
rest_shorter n t = rw (take_rest t n) (omega (arith, length-drop n t))

pub loop-rest-preserved-then-begins_with_run : goal.loop-rest-preserved-then-begins_with_run
loop-rest-preserved-then-begins_with_run c =
    let run = c.begins_with_run.ensures.0 c.if-begins_with_run.true in (
      words_past_run 16 _ _ run
          ∙ words_past_space c.loop-rest.rest.now c.in-32.len_at_least (search rules)
          ∙ c.loop-rest.invariant.0,
      le_trans (rest_shorter 16 _) (le_trans (rest_shorter 1 c.loop-rest.rest.now) c.loop-rest.invariant.1),
    )

pub loop-rest-preserved : goal.loop-rest-preserved
loop-rest-preserved c = (
  words_past_space c.loop-rest.rest.now c.in-32.len_at_least (search rules) ∙ c.loop-rest.invariant.0,
  le_trans (rest_shorter 1 c.loop-rest.rest.now) c.loop-rest.invariant.1,
)
