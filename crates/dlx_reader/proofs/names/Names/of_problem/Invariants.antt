use Rattle.std.proofs.Common.{◌≡◌, take}
use Rattle.dlx_reader.proofs.names.Names.of_problem.Given as goal

abbrev pub invariant-loop-item : goal.invariant-loop-item
invariant-loop-item l = l.names ≡ take l.item l.problem.names
