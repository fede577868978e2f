use Rattle.std.proofs.Common.{◌≡◌}
use Rattle.learner.proofs.learner.Learner.search.Given as goal

abbrev pub invariant-loop-turn : goal.invariant-loop-turn
invariant-loop-turn g l = l.self ≡ l.initial.self
