use Rattle.std.proofs.Common.{◌≡◌}
use Rattle.learner.proofs.reducing.drop_all.Given as goal

abbrev pub invariant-loop-candidate : goal.invariant-loop-candidate
invariant-loop-candidate g l = l.proof ≡ l.initial.proof
