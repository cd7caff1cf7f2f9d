use Rattle.std.proofs.Common.{IfSome, List, take}
use Rattle.config_checks.specs.declared.setting.Setting.{Setting}
use Rattle.config_checks.specs.Mending.{HasMends}
use Rattle.config_checks.specs.Reading.Steps.{AreSettings, IsSection}
use Rattle.config_checks.specs.Rows.{rows_of}
use Rattle.config_checks.proofs.mending.mends_of.Given as goal

abbrev pub invariant-loop-proposal : goal.invariant-loop-proposal
invariant-loop-proposal l = record {
  so_far : (settings : List Setting) → AreSettings l.read settings
      → HasMends (rows_of l.judge.runs.items) l.options l.guesses settings
      (take l.proposal-index l.proposals) l.mends.items;
  last : IfSome l.last (IsSection l.judge.backwards.items);
}
