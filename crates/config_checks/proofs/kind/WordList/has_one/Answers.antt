use Rattle.std.proofs.Common.{All, subst, sym, length, rules}
use borrow.Author.Tests.{tests}
use Rattle.std.proofs.lemmas.Iterator.Consumers.{YieldsList-turn, YieldsList-end}
use Rattle.config_checks.specs.Kinds.{is_no_letter, HasWord}
use Rattle.config_checks.proofs.TableLemmas.{parts_of}
use Rattle.config_checks.proofs.WordLemmas.{more_pieces}
use Rattle.config_checks.proofs.kind.WordList.has_one.Goals as goal

pub loop-piece-preserved : goal.loop-piece-preserved
loop-piece-preserved c = more_pieces (λ piece.
    ¬ (HasWord c.args.self.now piece)) c.loop-piece.yielded c.in-Some.piece
    c.loop-piece.invariant (λ word. absurd (search rules))

pub returns-then-has : goal.returns-then-has
returns-then-has c =
    let split = c.split-piece-items.ensures in
    let loop = c.loop-piece in
    let parts = parts_of _ _ _ _ loop.yielded_by c.into_iter-piece-iterator.ensures.into_iter_gives is_no_letter
    c.args.text.now split.rest split.done split.closure (λ x b q k. search (rules, tests)) in
    let here = YieldsList-turn parts loop.yielded _ loop.yielded_by _ _ c.in-Some.piece c.in-Some.is c.next.ensures.steps in (
      λ _. (length loop.yielded, c.in-Some.piece.now, here.0, sym here.1, c.has.ensures.0 (search rules)),
      λ _.
          search rules,
    )

pub returns : goal.returns
returns c =
    let split = c.split-piece-items.ensures in
    let loop = c.loop-piece in
    let parts = parts_of _ _ _ _ loop.yielded_by c.into_iter-piece-iterator.ensures.into_iter_gives is_no_letter
    c.args.text.now split.rest split.done split.closure (λ x b q k. search (rules, tests)) in
    let all = YieldsList-end parts loop.yielded _ loop.yielded_by _ _ c.in-None.is c.next.ensures.steps in
    let none = subst (All (λ piece. ¬ (HasWord c.args.self.now piece))) all.0 loop.invariant in
    (λ no. absurd (cc), λ any. absurd (none any.0 any.1 any.2 (subst (HasWord c.args.self.now) (sym any.3) any.4)))
