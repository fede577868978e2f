use Rattle.std.proofs.Common.{◌≡◌, ◌++◌, drop}
use Rattle.std.specs.List.{concat}
use Rattle.dancing_links.proofs.layout.push_colours.Given as goal

abbrev pub invariant-loop-option : goal.invariant-loop-option
invariant-loop-option l = record {
  left : l.list.items ++ concat (drop l.option l.problem.colours) ≡ l.fn.list.items ++ concat l.problem.colours;
}
