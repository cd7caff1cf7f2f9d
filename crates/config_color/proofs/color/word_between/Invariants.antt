use Rattle.config_color.specs.Reading.Split.{IsWithoutSpace}
use Rattle.config_color.proofs.color.word_between.Given as goal

abbrev pub invariant-loop-at : goal.invariant-loop-at
invariant-loop-at l = IsWithoutSpace l.text l.at
