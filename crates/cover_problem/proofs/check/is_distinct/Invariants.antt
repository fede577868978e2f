use Rattle.cover_problem.proofs.Repeats.{Seen}
use Rattle.cover_problem.proofs.check.is_distinct.Given as goal

abbrev pub invariant-loop-number : goal.invariant-loop-number
invariant-loop-number l = Seen l.seen l.numbers l.number-index
