use Rattle.std.proofs.Common.{◌∙◌, refl, rules, sym, true≢false}
use Rattle.config_search.specs.declared.answer.Outcome.TheVariants.{FindsNone}
use Rattle.config_search.proofs.Handings.{directories_at, unfollowed}
use Rattle.config_search.proofs.known.known_at.Goals.{then-eq-via-then-eq, then-eq-via-else-eq+then-not-some_include}
use Rattle.config_search.proofs.known.known_at.Goals as goal

pub returns-then-eq : goal.returns-then-eq
returns-then-eq c = λ system asked agrees knows goes includes. elim c.then-eq.branch [
  | then-eq-via-then-eq w ↦ unfollowed system asked c.args.follows c.args.answer.now _ (search rules) knows goes
      (c.included.ensures system FindsNone refl)
  | then-eq-via-else-eq+then-not-some_include w ↦ absurd (true≢false (sym includes ∙ (search rules)))
]

pub returns : goal.returns
returns c = λ system asked agrees knows goes includes. rw c.in-Some.is (
  rw c.in-Some.is at knows,
  rw c.in-Some.is at goes,
  c.included-2.ensures system c.in-Some.answer.outcome
      (c.in_ok-repository.ensures system agrees (c.in_ok-home.ensures system agrees)),
  directories_at system c.args.follows _ (c.in_ok-home.ensures system agrees) refl,
)
