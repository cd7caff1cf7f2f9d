use Rattle.std.proofs.Common.{take}
use Rattle.config_checks.specs.Reasons.{WordEdits}
use Rattle.config_checks.proofs.NearestLemmas.{IsBest}
use Rattle.config_checks.proofs.reason.nearest_word.Given as goal

abbrev pub invariant-loop-word : goal.invariant-loop-word
invariant-loop-word l = IsBest (WordEdits l.fn.text) (take l.word-index l.words) l.best l.least
