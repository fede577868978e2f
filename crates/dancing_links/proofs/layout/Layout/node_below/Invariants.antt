use Rattle.std.proofs.Common.{◌<◌, ◌≤◌, ℕ}
use Rattle.dancing_links.specs.Columns.{column_of}
use Rattle.dancing_links.proofs.layout.Layout.node_below.Given as goal

abbrev pub invariant-loop-node : goal.invariant-loop-node
invariant-loop-node l = record {
  low : l.begin ≤ l.node;
  before : (k : ℕ) → l.begin ≤ k → k < l.node → l.bound ≤ column_of l.self k;
}
