use Rattle.std.proofs.Common.{◌≡◌, ◌++◌, drop}
use Rattle.dancing_links.specs.Table.{numbered}
use Rattle.dancing_links.proofs.layout.push_options.Given as goal

abbrev pub invariant-loop-option : goal.invariant-loop-option
invariant-loop-option l = l.list.items ++ numbered l.option (drop l.option l.problem.options) ≡ l.fn.list.items ++ numbered 0 l.problem.options
