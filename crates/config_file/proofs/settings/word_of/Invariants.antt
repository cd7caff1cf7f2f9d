use Rattle.std.proofs.Common.{Contains, map, take}
use Rattle.config_file.proofs.settings.word_of.Given as goal

abbrev pub invariant-loop-word : goal.invariant-loop-word
invariant-loop-word l = ¬ (Contains (map (λ word. word.now) (take l.word-index l.fn.words)) l.fn.text)
