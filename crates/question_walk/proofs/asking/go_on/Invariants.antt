use Rattle.std.proofs.Common.{◌≡◌}
use Rattle.question_walk.proofs.asking.go_on.Given as goal

abbrev pub invariant-loop-turn : goal.invariant-loop-turn
invariant-loop-turn g l = record {
  problem : l.walk.problem ≡ l.fn.walk.problem;
  asked : l.learner ≡ l.fn.learner;
}
