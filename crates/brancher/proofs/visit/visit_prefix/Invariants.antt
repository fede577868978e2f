use Rattle.std.proofs.Common.{◌≡◌}
use Rattle.brancher.specs.Reach.{IsReached}
use Rattle.brancher.proofs.visit.visit_prefix.Given as goal

abbrev pub invariant-loop-left : goal.invariant-loop-left
invariant-loop-left g l = record {
  problem : (g.B.Branching.choices l.state).problem ≡ (g.B.Branching.choices l.fn.state).problem;
  reached : IsReached (g.B.Branching.choices l.fn.state) l.fn.fuel (g.B.Branching.choices l.state) l.left;
}

abbrev pub decreases-loop-left : goal.decreases-loop-left
decreases-loop-left g l = l.left
