use Rattle.std.proofs.Common.{◌≡◌, ◌++◌, ◌+◌, length, drop}
use Rattle.std.specs.List.{sum_by}
use Rattle.dancing_links.specs.Table.{starts, base_of, tails_of}
use Rattle.dancing_links.proofs.layout.first_nodes.Given as goal

abbrev pub invariant-loop-option : goal.invariant-loop-option
invariant-loop-option l = record {
  first : l.list.items ++ starts l.node (drop l.option l.problem.options) ≡ starts (base_of l.problem) l.problem.options;
  left : l.node + sum_by length (drop l.option l.problem.options) ≡ tails_of l.problem;
}
