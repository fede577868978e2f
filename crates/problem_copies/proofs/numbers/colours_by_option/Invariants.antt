use Rattle.std.proofs.Common.{◌≡◌, take}
use Rattle.problem_copies.proofs.numbers.colours_by_option.Given as goal

abbrev pub invariant-loop-option : goal.invariant-loop-option
invariant-loop-option l = l.colours.items ≡ take l.option l.problem.colours
