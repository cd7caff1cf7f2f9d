use Rattle.std.proofs.Common.{All, subst, sym, rules}
use borrow.Author.Tests.{tests}
use Rattle.std.proofs.lemmas.Iterator.Consumers.{YieldsList-turn, YieldsList-end}
use Rattle.config_checks.specs.Kinds.{is_separator, IsPiece}
use Rattle.config_checks.proofs.TableLemmas.{parts_of}
use Rattle.config_checks.proofs.WordLemmas.{more_pieces}
use Rattle.config_checks.proofs.kind.WordList.has_each.Goals as goal

pub loop-piece-preserved : goal.loop-piece-preserved
loop-piece-preserved c = more_pieces
    (IsPiece c.args.self.now) c.loop-piece.yielded c.in-Some.piece c.loop-piece.invariant
    (c.takes_piece.ensures.0 (search rules))

pub returns-then-not-takes_piece : goal.returns-then-not-takes_piece
returns-then-not-takes_piece c =
    let split = c.split-piece-items.ensures in
    let loop = c.loop-piece in
    let parts = parts_of _ _ _ _ loop.yielded_by c.into_iter-piece-iterator.ensures.into_iter_gives is_separator
    c.args.text.now split.rest split.done split.closure (λ x b q k. search (rules, tests)) in
    let here = YieldsList-turn parts loop.yielded _ loop.yielded_by _ _ c.in-Some.piece c.in-Some.is c.next.ensures.steps in
    let wrong : ¬ (IsPiece c.args.self.now c.in-Some.piece.now) = λ piece. absurd (search rules) in (
      λ no. absurd (cc),
      λ all. absurd
          (wrong (subst (IsPiece c.args.self.now) (sym here.1) (all _ c.in-Some.piece.now here.0))),
    )

pub returns : goal.returns
returns c =
    let split = c.split-piece-items.ensures in
    let loop = c.loop-piece in
    let parts = parts_of _ _ _ _ loop.yielded_by c.into_iter-piece-iterator.ensures.into_iter_gives is_separator
    c.args.text.now split.rest split.done split.closure (λ x b q k. search (rules, tests)) in
    let all = YieldsList-end parts loop.yielded _ loop.yielded_by _ _ c.in-None.is c.next.ensures.steps in
    (λ _. subst (All (IsPiece c.args.self.now)) all.0 loop.invariant, λ _. search rules)
