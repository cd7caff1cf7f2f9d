use Rattle.std.proofs.Common.{take}
use Rattle.config_checks.specs.Kinds.{IsNoWord}
use Rattle.config_checks.proofs.kind.WordList.find.Given as goal

abbrev pub invariant-loop-word : goal.invariant-loop-word
invariant-loop-word l = IsNoWord l.fn.self l.fn.text (take l.word-index l.fn.self.words.items)
