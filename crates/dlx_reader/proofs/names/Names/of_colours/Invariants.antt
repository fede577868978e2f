use Rattle.std.proofs.Common.{◌≡◌, take}
use Rattle.dlx_reader.proofs.names.Names.of_colours.Given as goal

abbrev pub invariant-loop-before : goal.invariant-loop-before
invariant-loop-before l = l.names ≡ take l.before l.problem.colour_names
