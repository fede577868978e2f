use Rattle.std.proofs.Common.{◌+◌, ◌-◌, ◌≤◌, length}
use Rattle.brancher.proofs.Lefts.{options_left}
use Rattle.decider.specs.Deciding.{HaveNoCover}
use Rattle.decider.proofs.Trying.{IsTrying}
use Rattle.decider.proofs.deciding.+decide.Given as goal

abbrev pub decreases-decide : goal.decreases-decide
decreases-decide g l = (g.B.Branching.choices l.state.now).problem.primary + 1 - length (g.B.Branching.choices l.state.now).chosen

abbrev pub invariant-loop-state : goal.invariant-loop-state
invariant-loop-state g l = record {
  kept : HaveNoCover (g.B.Branching.choices l.fn.state).problem l.kept.states;
  trying : IsTrying (g.B.Branching.choices l.fn.state) l.item (g.B.Branching.choices l.state) l.next;
  short : length (g.B.Branching.choices l.fn.state).chosen ≤ (g.B.Branching.choices l.fn.state).problem.primary;
}

abbrev pub decreases-loop-state : goal.decreases-loop-state
decreases-loop-state g l = length (options_left (g.B.Branching.choices l.fn.state).problem (g.B.Branching.choices l.fn.state).chosen l.item l.next)
