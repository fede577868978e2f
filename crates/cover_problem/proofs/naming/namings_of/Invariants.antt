use Rattle.std.proofs.Common.{take}
use Rattle.cover_problem.proofs.Namings.{AreNamed}
use Rattle.cover_problem.proofs.naming.namings_of.Given as goal

abbrev pub invariant-loop-option : goal.invariant-loop-option
invariant-loop-option l = AreNamed l.problem l.namings (take l.option-index l.options)
