use Rattle.std.proofs.Common.{◌≡◌}
use Rattle.learner.proofs.learner.Learner.settle.Given as goal

abbrev pub invariant-loop-place : goal.invariant-loop-place
invariant-loop-place g l = l.self ≡ l.initial.self
