use Rattle.std.proofs.Common.{rules, arith, subst, ap, length, ◌<◌, [], IsTrue}
use Rattle.std.proofs.lemmas.List.{take_all, get_or_default}
use Rattle.config_checks.specs.Kinds.{IsNoWord}
use Rattle.config_checks.proofs.WordLemmas.{no_more}
use Rattle.config_checks.proofs.kind.WordList.find.Goals as goal

pub loop-word-preserved : goal.loop-word-preserved
loop-word-preserved c =
    let list = c.args.self.now in
    let words = c.deref-words.ensures.value in
    let inside : c.loop-word.word-index < length list.words.items =
    subst (λ xs. c.loop-word.word-index < length xs) words c.loop-word-test.true in
    let wrong : ¬ (IsTrue c.is_word.result) = search rules in
    no_more list c.args.text.now c.loop-word.word-index c.loop-word.invariant inside
    (λ d word. wrong (c.is_word.ensures.1
    (rw (
      words,
      get_or_default list.words.items c.loop-word.word-index
          (record { ref_ptr = (0, 0); now = [] }) d inside,
    ) word)))

pub returns : goal.returns
returns c = subst (IsNoWord c.args.self.now c.args.text.now)
    (take_all c.loop-word.word-index c.args.self.now.words.items
    (omega (arith, ap length c.deref-words.ensures.value, c.loop-word-test.false))) c.loop-word.invariant
