use Rattle.std.proofs.Common.{take}
use Rattle.cover_problem.proofs.Marks.{Marked}
use Rattle.cover_problem.proofs.marking.are_apart.Given as goal

abbrev pub invariant-loop-option : goal.invariant-loop-option
invariant-loop-option l = Marked l.problem l.marks (take l.option-index l.options)
