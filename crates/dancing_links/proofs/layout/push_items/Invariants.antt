use Rattle.std.proofs.Common.{◌≡◌, ◌++◌, drop}
use Rattle.std.specs.List.{concat}
use Rattle.dancing_links.proofs.layout.push_items.Given as goal

abbrev pub invariant-loop-option : goal.invariant-loop-option
invariant-loop-option l = l.list.items ++ concat (drop l.option l.problem.options) ≡ l.fn.list.items ++ concat l.problem.options
