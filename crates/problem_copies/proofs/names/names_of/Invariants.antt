use Rattle.std.proofs.Common.{◌≡◌, take}
use Rattle.problem_copies.proofs.names.names_of.Given as goal

abbrev pub invariant-loop-item : goal.invariant-loop-item
invariant-loop-item l = l.names.items ≡ take l.item l.problem.names
