use Rattle.std.proofs.Common.{◌≡◌, take}
use Rattle.problem_copies.proofs.names.colour_names_of.Given as goal

abbrev pub invariant-loop-colour : goal.invariant-loop-colour
invariant-loop-colour l = l.names.items ≡ take l.colour l.problem.colour_names
