use Rattle.std.proofs.Common.{◌≡◌, ◌↔◌, ◌<◌, ◌≤◌, ℕ, IsTrue, length, slice_index}
use Rattle.config_text.proofs.words.begins_with_run.Given as goal

abbrev pub invariant-loop-at : goal.invariant-loop-at
invariant-loop-at g l = record {
  long : g.row.N ≤ length l.text;
  same : IsTrue l.is_run ↔ ((k : ℕ) → k < l.at → slice_index l.text k ≡ l.byte);
}
