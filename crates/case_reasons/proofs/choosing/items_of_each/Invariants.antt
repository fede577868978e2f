use Rattle.std.proofs.Common.{◌≡◌, map, take}
use Rattle.cover_problem.specs.Problem.{items_of}
use Rattle.case_reasons.proofs.choosing.items_of_each.Given as goal

abbrev pub invariant-loop-option : goal.invariant-loop-option
invariant-loop-option l = l.lists.items ≡ map (items_of l.problem) (take l.option-index l.options)
